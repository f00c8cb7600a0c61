-- What the rules of a cache come to.
use Rattle.std.specs.Prelude.{◌≡◌, ℕ, zero, suc, ◌≤◌, true, false, ◌≢◌, List, [], ◌∷◌, ◌++◌, length, Some, None, Ok}
use Rattle.port.specs.declared.Store.{Store}
use Rattle.port.specs.Memory.{State, line_of}
use Rattle.port.specs.Lanes.{merged}
use Rattle.port.specs.Meaning.{Settles}
use Rattle.port.specs.Steps.{Step, reads, writes, advances}
use Rattle.directory.specs.declared.lru.WayNumber.{WayNumber}
use Rattle.directory.specs.declared.fills.Fill.{Fill}
use Rattle.directory.specs.Touch.{victim_of}
use Rattle.directory.specs.Dirs.{Dir, set_of, found}
use Rattle.directory.specs.Ticks.{next_word, fetched_word}
use Rattle.directory.specs.Laws.{WayIsTouched, InstallKeepsOtherLines, StoreAddsItsWord}
use Rattle.cache_tables.specs.Showing.{Shown, shown, reading, whole}
use Rattle.cache_tables.specs.Rules.{Model, Turn, idle, fetched, finished, lacking, buffered_of, hit, begun}
use Rattle.cache_tables.specs.Coherence.{Sees, Coherent}

-- How much has settled below makes no difference to the rules.
abbrev pub SettlingNeverShows : Type 0
SettlingNeverShows = (s t : State) → Settles s t → shown t ≡ shown s

-- What the line buffer or a way answers can be read, and is what is seen below.
pub record AnswersAreSeen (v : Shown) (t : Model) : Type 0 where
  pub buffer : (w x : ℕ) → Some x ≡ buffered_of t.fill w → Sees v w x
  pub way : (w x : ℕ) → Some x ≡ hit t.dir w → Sees v w x

-- A fill begins at a line that may be cached, with the victim of that moment.
pub record NamedAtTheMiss (v : Shown) (d : Dir) (w : ℕ) (b : Fill) : Type 0 where
  pub cached : v.cacheable (line_of w) ≡ true
  pub line : b.line ≡ line_of w
  pub way : b.way ≡ victim_of (d.lru (set_of (line_of w)))

-- A fill goes on with its line, its first word, its way and its protect flag, whatever the LRU bits have become.
pub record GoesOn (b c : Fill) : Type 0 where
  pub line : c.line ≡ b.line
  pub first : c.first ≡ b.first
  pub way : c.way ≡ b.way
  pub protect : c.protect ≡ b.protect

-- Words fetched one after another.
abbrev pub fetched_times : ℕ → Shown → Model → Model
fetched_times zero v t = t
fetched_times (suc n) v t = fetched_times n v (fetched v t)

-- Once the last word of a fill has come, its line is in the way named at its miss. So it is where the fill is finished at once: then no other line
-- moves but for the one displaced, and none does where a word cannot be read. Either way no fill is left.
pub record LandsWhereNamed (v : Shown) (t : Model) (b : Fill) : Type 0 where
  pub word_by_word : v.readable (next_word b) ≡ true → (fetched v t).fill ≡ None → found (fetched v t).dir b.line ≡ Some b.way
  pub at_once : whole v b.line ≡ true → InstallKeepsOtherLines t.dir (finished v t).dir b.line b.way
  pub torn : whole v b.line ≡ false → (finished v t).dir ≡ t.dir
  pub ends : (finished v t).fill ≡ None

-- The word has been fetched for the line under fill, or it has not.
abbrev pub Fetched : Model → ℕ → Type 0
Fetched t w = (b : Fill) × (x : ℕ) × (t.fill ≡ Some b) × (fetched_word b w ≡ Some x)

abbrev pub NotFetched : Model → ℕ → Type 0
NotFetched t w = (b : Fill) → t.fill ≡ Some b → fetched_word b w ≡ None

-- Each of these calls reads a word of the line.
abbrev pub ReadsOfLine : Shown → ℕ → List Step → Type 0
ReadsOfLine v line [] = Unit {0}
ReadsOfLine v line (d ∷ ds) = ((a : ℕ) × (line_of a ≡ line) × (d ≡ reads a (reading v a))) × ReadsOfLine v line ds

-- Before anything else, words of the line under fill may be read below, as many at most as it lacks.
pub record ReadsWhatLacks (v : Shown) (t : Model) (calls : List Step) : Type 0 where
  pub few : length calls ≤ lacking t.fill
  pub line : (b : Fill) → t.fill ≡ Some b → ReadsOfLine v b.line calls

-- Whichever way holds the word's line is not the next victim of its set.
abbrev pub HolderIsSpared : Model → ℕ → Type 0
HolderIsSpared t w = (k : WayNumber) → found t.dir (line_of w) ≡ Some k → victim_of (t.dir.lru (set_of (line_of w))) ≢ k

-- From here on v is what the port below shows, t the tables before a call, and u its turn: the tables after it, and its calls on the port.

-- A READ

-- A read of a word that has been fetched leaves everything as it was, and asks nothing below.
pub record ReadLeavesAll (t : Model) (u : Turn) : Type 0 where
  pub tables : u.tables ≡ t
  pub calls : u.calls ≡ []

-- A way that answers is touched. No line moves, the fill under way is left alone, and nothing is asked below.
pub record ReadOnlyTouches (t : Model) (w : ℕ) (k : WayNumber) (u : Turn) : Type 0 where
  pub touch : WayIsTouched t.dir u.tables.dir (line_of w) k
  pub ways : u.tables.dir.way ≡ t.dir.way
  pub fill : u.tables.fill ≡ t.fill
  pub calls : u.calls ≡ []

-- Once the fill under way has been finished, a way answers and is touched.
pub record LateHitTouches (v : Shown) (t : Model) (w : ℕ) (k : WayNumber) (u : Turn) : Type 0 where
  pub touch : WayIsTouched (finished v t).dir u.tables.dir (line_of w) k
  pub ways : u.tables.dir.way ≡ (finished v t).dir.way
  pub fill : u.tables.fill ≡ None
  pub calls : ReadsWhatLacks v t u.calls

-- What a read does that the line buffer or a way answers.
pub record HitTouches (v : Shown) (t : Model) (w : ℕ) (u : Turn) : Type 0 where
  pub buffered : Fetched t w → ReadLeavesAll t u
  pub held : (k : WayNumber) → NotFetched t w → found t.dir (line_of w) ≡ Some k → ReadOnlyTouches t w k u
  pub late : (k : WayNumber) → NotFetched t w → found t.dir (line_of w) ≡ None → found (finished v t).dir (line_of w) ≡ Some k → LateHitTouches v t w k u

-- Neither the line buffer nor a way answers, not even once the fill under way has been finished.
pub record NothingAnswers (v : Shown) (t : Model) (w : ℕ) : Type 0 where
  pub buffer : NotFetched t w
  pub way : found t.dir (line_of w) ≡ None
  pub late : found (finished v t).dir (line_of w) ≡ None

-- The port below is then asked for the word once, after what the fill under way lacked.
pub record AsksForTheWord (v : Shown) (t : Model) (w : ℕ) (u : Turn) : Type 0 where
  pub first : List Step
  pub finishing : ReadsWhatLacks v t first
  pub calls : u.calls ≡ first ++ (reads w (reading v w) ∷ [])

-- The word is then the first of a new fill, and the only one yet, for the way that the LRU bits name at this moment. The directory is as the
-- finished fill left it.
pub record FillBegins (v : Shown) (t : Model) (w : ℕ) (u : Turn) : Type 0 where
  pub fill : Fill
  pub under : u.tables.fill ≡ Some fill
  pub word : fetched_word fill w ≡ Some (v.word w)
  pub alone : (a x : ℕ) → fetched_word fill a ≡ Some x → a ≡ w
  pub way : fill.way ≡ victim_of ((finished v t).dir.lru (set_of (line_of w)))
  pub dir : u.tables.dir ≡ (finished v t).dir

-- What a read does that neither answers.
pub record MissFills (v : Shown) (t : Model) (w : ℕ) (u : Turn) : Type 0 where
  pub asks : NothingAnswers v t w → AsksForTheWord v t w u
  pub no_fill : NothingAnswers v t w → (v.readable w ≡ true → v.cacheable (line_of w) ≡ false) → u.tables ≡ finished v t
  pub fills : NothingAnswers v t w → v.readable w ≡ true → v.cacheable (line_of w) ≡ true → FillBegins v t w u

-- A WRITE that is accepted

-- No fill of this line is under way, unless the line is protected.
abbrev pub NoneOpen : Shown → Model → ℕ → Type 0
NoneOpen v t line = (b : Fill) → t.fill ≡ Some b → b.line ≡ line → v.protected line ≡ true

-- A write then leaves the fill under way alone and moves no line. The way that holds its line is touched; where none does, nothing changes.
-- (What that way then answers is what is seen, as of every way.)
pub record WriteOnlyTouches (t : Model) (w : Store) (u : Turn) : Type 0 where
  pub fill : u.tables.fill ≡ t.fill
  pub lines : (line : ℕ) → found u.tables.dir line ≡ found t.dir line
  pub touch : (k : WayNumber) → found t.dir (line_of w.word) ≡ Some k → WayIsTouched t.dir u.tables.dir (line_of w.word) k
  pub misses : found t.dir (line_of w.word) ≡ None → u.tables ≡ t
  pub calls : u.calls ≡ writes w (Ok tt) ∷ []

-- A write to an open line under fill ends the fill. If all of the line can be read, it stands from now on in the way that was named at its
-- miss, with the write in it, and no other line moves but for the one displaced.
pub record WriteLandsTheLine (v : Shown) (t : Model) (w : Store) (b : Fill) (u : Turn) : Type 0 where
  pub ends : u.tables.fill ≡ None
  pub lands : whole v b.line ≡ true → InstallKeepsOtherLines t.dir u.tables.dir b.line b.way
  pub here : whole v b.line ≡ true → hit u.tables.dir w.word ≡ Some (merged w.lanes (v.word w.word) w.value)
  pub rest : whole v b.line ≡ true → (a : ℕ) → line_of a ≡ b.line → a ≢ w.word → hit u.tables.dir a ≡ Some (v.word a)
  -- if a word of it cannot be read, nothing is kept, and nothing else changes
  pub torn : whole v b.line ≡ false → u.tables ≡ idle t.dir
  pub first : List Step
  pub finishing : ReadsWhatLacks v t first
  pub calls : u.calls ≡ first ++ (writes w (Ok tt) ∷ [])

-- What a write does.
pub record WriteLandsOrTouches (v : Shown) (t : Model) (w : Store) (u : Turn) : Type 0 where
  pub only_touch : NoneOpen v t (line_of w.word) → WriteOnlyTouches t w u
  pub land : (b : Fill) → t.fill ≡ Some b → b.line ≡ line_of w.word → v.protected b.line ≡ false → WriteLandsTheLine v t w b u

-- AN ADVANCE

-- One word of a fill is fetched, before the advance is passed on. If it can be read it is there from now on beside those that were, and
-- the fill goes on; or it was the last, and the line goes into the way named at its miss. If it cannot be read, the fill ends without a trace.
pub record OneWordComes (v : Shown) (t : Model) (b : Fill) (u : Turn) : Type 0 where
  pub calls : u.calls ≡ reads (next_word b) (reading v (next_word b)) ∷ advances ∷ []
  pub more : (c : Fill) → u.tables.fill ≡ Some c → StoreAddsItsWord b c (v.word (next_word b)) × GoesOn b c × (u.tables.dir ≡ t.dir)
  pub last : v.readable (next_word b) ≡ true → u.tables.fill ≡ None → InstallKeepsOtherLines t.dir u.tables.dir b.line b.way
  pub torn : v.readable (next_word b) ≡ false → (u.tables.fill ≡ None) × (u.tables.dir ≡ t.dir)

-- What an advance does: where no fill is under way, it is only passed on.
pub record AdvanceFetchesOne (v : Shown) (t : Model) (u : Turn) : Type 0 where
  pub one : (b : Fill) → t.fill ≡ Some b → OneWordComes v t b u
  pub passed_on : t.fill ≡ None → (u.tables ≡ t) × (u.calls ≡ advances ∷ [])

-- WHAT IS FORGOTTEN

-- A line that was dropped is under no fill and in no way; the other lines are where they were, and the LRU bits stay. A fill of another line
-- goes on, and none begins.
pub record LineIsGone (before after : Model) (line : ℕ) : Type 0 where
  pub none_begins : (b : Fill) → after.fill ≡ Some b → (before.fill ≡ Some b) × (b.line ≢ line)
  pub goes_on : (b : Fill) → before.fill ≡ Some b → b.line ≢ line → after.fill ≡ Some b
  pub way : found after.dir line ≡ None
  pub others : (other : ℕ) → other ≢ line → found after.dir other ≡ found before.dir other
  pub lru : after.dir.lru ≡ before.dir.lru

-- No line is in any way, no LRU bit is set, and no fill is under way.
pub record AllIsForgotten (t : Model) : Type 0 where
  pub lines : (line : ℕ) → found t.dir line ≡ None
  pub lru : (i : ℕ) → t.dir.lru i ≡ record { m0 = false; m1 = false; m2 = false }
  pub fill : t.fill ≡ None

-- WHATEVER THE CALL

-- Whatever the line buffer or a way answers is what is seen below.
abbrev pub AnswersAreWhatIsSeen : Type 0
AnswersAreWhatIsSeen = (v : Shown) (t : Model) → Coherent v t → AnswersAreSeen v t

-- The way of a fill is named at its miss and by nothing later, and that way holds the completed line.
pub record LinesLandWhereNamed : Type 0 where
  pub begins : (v : Shown) (d : Dir) (w : ℕ) (b : Fill) → (begun v d w).fill ≡ Some b → NamedAtTheMiss v d w b
  pub goes_on : (v : Shown) (t : Model) (b c : Fill) → t.fill ≡ Some b → (fetched v t).fill ≡ Some c → GoesOn b c
  -- to finish a fill is to fetch the words that it lacks
  pub finishes : (v : Shown) (t : Model) → Coherent v t → fetched_times (lacking t.fill) v t ≡ finished v t
  pub lands : (v : Shown) (t : Model) (b : Fill) → Coherent v t → t.fill ≡ Some b → LandsWhereNamed v t b
