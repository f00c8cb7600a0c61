-- The promise that the processor never sees an old digit.
use Rattle.std.specs.Prelude.{◌≡◌, ℕ, ◌<◌, ◌≤◌, Bool, true, false, not, ◌&&◌, ◌⊎◌, List, [], ◌∷◌, ◌++◌, length, Some, None, Ok, Err, Option, Result, ◌==◌}
use Rattle.fault.specs.declared.Fault.{Fault}
use Rattle.fault.specs.declared.Refusal.{Refusal}
use Rattle.fault.specs.declared.Refusal.TheVariants.{Unreadable, Locked as IsLocked, Granted as IsGranted, NotLocked, NotGranted}
use Rattle.fault.specs.Numbers.{number_of}
use Rattle.calls.specs.declared.call.Call.{Call}
use Rattle.calls.specs.declared.call.Call.TheVariants.{Read, Write as Post, Unposted, Advance, Lock, LockedRead, LockedWrite, Unlock, Ask, MasterRead, MasterWrite, Give, Snoop, Flush}
use Rattle.port.specs.Lanes.{Lane, byte, covers}
use Rattle.port.specs.declared.Port.{Ghosts}
use Rattle.port.specs.Memory.{State, floor_above, seen, applied, drained, line_of}
use Rattle.port.specs.Meaning.{read_answer, settled_answer, write_answer, snoop_answer}
use Rattle.port.specs.Steps.{reads, writes, advances, outsides, snoops, flushes, Chain, Drains, Through}
use Rattle.book.specs.declared.answer.Mode.{Mode}
use Rattle.book.specs.declared.answer.Mode.TheVariants.{Free, Locked, Granted}
use Rattle.book.specs.declared.answer.Answer.{Answer}
use Rattle.book.specs.declared.answer.Answer.TheVariants.{Done, Word}
use Rattle.book.specs.Tables.{Rule, none, some, one_or_more, all}
use Rattle.book.specs.Book.{Book, book_of, first, step, answer, Allowed, Admits}
use Rattle.book.specs.Calling.{Called}
use Rattle.book.specs.Runs.{Moment, moment, calls_of, answers_of, after, Follows, Entry, ledger, no_entries, joining_entries, mode_by, total, Quiet, locked_writes, NoneUnlocks, all_heard}

-- WHERE A BYTE COMES FROM

-- A write counts for a byte of its word in its lanes, unless its line was protected.
abbrev pub writes_byte : Lane → ℕ → Entry → Bool
writes_byte lane a e = a == e.write.word && (not e.protected && covers e.write.lanes lane)

abbrev pub Unwritten : Lane → ℕ → List Entry → Type 0
Unwritten lane a [] = Unit {0}
Unwritten lane a (e ∷ es) = (writes_byte lane a e ≡ false) × Unwritten lane a es

-- Of entries with the oldest first, e is the youngest that counts for the byte.
pub record Youngest (lane : Lane) (a : ℕ) (es : List Entry) (e : Entry) : Type 0 where
  pub older : List Entry
  pub younger : List Entry
  pub splits : es ≡ older ++ (e ∷ younger)
  pub counts : writes_byte lane a e ≡ true
  pub last : Unwritten lane a younger

-- A byte x is of the youngest waiting write, else of the last that settled, else of the first content.
pub data Comes (lane : Lane) (a : ℕ) (waiting settled : List Entry) (content x : ℕ) : Type 0 where
  from_waiting : (e : Entry) → Youngest lane a waiting e → x ≡ byte lane e.write.value → Comes lane a waiting settled content x
  from_settled : Unwritten lane a waiting → (e : Entry) → Youngest lane a settled e → x ≡ byte lane e.write.value → Comes lane a waiting settled content x
  from_first : Unwritten lane a waiting → Unwritten lane a settled → x ≡ byte lane content → Comes lane a waiting settled content x

-- A processor's or a locked read that was answered by a word: each byte has its newest source.
abbrev pub ReadsAreNewest : State → List Moment → Type 0
ReadsAreNewest start run =
    (before later : List Moment) (m : Moment) (a v : ℕ) (lane : Lane) → run ≡ before ++ (m ∷ later)
    → (m.call ≡ Read a) ⊎ (m.call ≡ LockedRead a) → m.answer ≡ Ok (Word v)
    → let l = ledger start.protected no_entries before in Comes lane a l.waiting l.settled ((seen start).word a) (byte lane v)

-- A master's read that was answered by a word: each byte is of the last write that settled, whatever waits.
abbrev pub MastersReadsAreSettled : State → List Moment → Type 0
MastersReadsAreSettled start run =
    (before later : List Moment) (m : Moment) (a v : ℕ) (lane : Lane) → run ≡ before ++ (m ∷ later)
    → m.call ≡ MasterRead a → m.answer ≡ Ok (Word v)
    → let l = ledger start.protected no_entries before in Comes lane a [] l.settled ((seen start).word a) (byte lane v)

-- ALIKE STARTS

-- Two ports that begin alike: size, marks of each line, and each word below the end. Floors may differ.
pub record Alike (s t : State) : Type 0 where
  pub words : s.facts.words ≡ t.facts.words
  pub cacheable : (a : ℕ) → a < s.facts.words → s.facts.cacheable (line_of a) ≡ t.facts.cacheable (line_of a)
  pub protected : (a : ℕ) → a < s.facts.words → s.protected (line_of a) ≡ t.protected (line_of a)
  pub readable : (a : ℕ) → a < s.facts.words → (seen s).readable a ≡ (seen t).readable a
  pub content : (a : ℕ) → a < s.facts.words → (seen s).word a ≡ (seen t).word a

-- Any other run of the same calls from an alike start is heard alike, whenever its writes settle, where no master's write is accepted.
abbrev pub AlikeStartsAnswerAlike : State → List Moment → Type 0
AlikeStartsAnswerAlike start run =
    (other : State) (ms : List Moment) → Alike start other → Quiet run → calls_of ms ≡ calls_of run → Follows (first other) ms
    → all_heard run ≡ all_heard ms

-- MODES, read off the calls and their answers

-- A refusal when free, when locked, and when granted.
abbrev pub in_mode : Option Refusal → Option Refusal → Option Refusal → Mode → Option Refusal
in_mode free locked granted Free = free
in_mode free locked granted Locked = locked
in_mode free locked granted Granted = granted

abbrev pub turned_away : Call → Mode → Option Refusal
turned_away (Read w) = in_mode None (Some IsLocked) None
turned_away (Post s) = in_mode None (Some IsLocked) None
turned_away (Unposted s) = in_mode None (Some IsLocked) None
turned_away Advance = in_mode None None None
turned_away Lock = in_mode None (Some IsLocked) (Some IsGranted)
turned_away (LockedRead w) = in_mode (Some NotLocked) None (Some NotLocked)
turned_away (LockedWrite s) = in_mode (Some NotLocked) None (Some NotLocked)
turned_away Unlock = in_mode (Some NotLocked) None (Some NotLocked)
turned_away Ask = in_mode None (Some IsLocked) (Some IsGranted)
turned_away (MasterRead w) = in_mode (Some NotGranted) (Some NotGranted) None
turned_away (MasterWrite s) = in_mode (Some NotGranted) (Some NotGranted) None
turned_away Give = in_mode (Some NotGranted) (Some NotGranted) None
turned_away (Snoop w) = in_mode None None None
turned_away Flush = in_mode None None None

-- Where a refusal is told: at the word of the call, or at 0 if it has none.
abbrev pub told_at : Call → ℕ
told_at (Read w) = w
told_at (Post s) = s.word
told_at (Unposted s) = s.word
told_at (LockedRead w) = w
told_at (LockedWrite s) = s.word
told_at (MasterRead w) = w
told_at (MasterWrite s) = s.word
told_at (Snoop w) = w
told_at other = 0

-- On a port of this floor, a call that its mode turns away is refused as said, on the board's floor. Any other call is refused, if at all, for its word or
-- its lanes, on the port's floor, or for a word that cannot be read, on floor 0.
pub record AnsweredIn (floor : ℕ) (n : Mode) (m : Moment) : Type 0 where
  pub turned : (x : Refusal) → turned_away m.call n ≡ Some x → m.answer ≡ Err (record { refusal = x; place = told_at m.call; floor = floor_above floor })
  pub served : (fault : Fault) → turned_away m.call n ≡ None → m.answer ≡ Err fault → number_of fault.refusal ≤ 3
  pub place : (fault : Fault) → turned_away m.call n ≡ None → m.answer ≡ Err fault → fault.place ≡ told_at m.call
  pub below : (fault : Fault) → turned_away m.call n ≡ None → m.answer ≡ Err fault → number_of fault.refusal ≤ 2 → fault.floor ≡ floor
  pub unreadable : (fault : Fault) → m.answer ≡ Err fault → number_of fault.refusal ≡ 3 → fault.floor ≡ 0

-- Each call is answered as the mode wants that the answers before it led to.
abbrev pub AnswersKeepTheModes : State → List Moment → Type 0
AnswersKeepTheModes start run =
    (before later : List Moment) (m : Moment) → run ≡ before ++ (m ∷ later) → AnsweredIn start.facts.floor (mode_by Free before) m

abbrev pub AllIn : ℕ → Mode → List Moment → Type 0
AllIn floor n [] = Unit {0}
AllIn floor n (m ∷ ms) = AnsweredIn floor n m × AllIn floor n ms

-- WHAT THE PORT IS ASKED

-- What each call that is taken asks: calls of its own kind with the answers that the port gives, advances while a write waits, or nothing at all.
abbrev pub AsksThePort : {P : Type 0} → Ghosts P → Call → P → P → Type 0
AsksThePort G (Read w) p q = Chain G.does p (reads w (read_answer (G.state p) w) ∷ []) q
AsksThePort G (Post s) p q = Chain G.does p (writes s (write_answer (G.state p) s) ∷ []) q
AsksThePort G (Unposted s) p q = Through G.state G.does s (write_answer (G.state p) s) p q
AsksThePort G Advance p q = Chain G.does p (advances ∷ []) q
AsksThePort G Lock p q = Drains G.state G.does p q
AsksThePort G (LockedRead w) p q = q ≡ p
AsksThePort G (LockedWrite s) p q = Through G.state G.does s (write_answer (G.state p) s) p q
AsksThePort G Unlock p q = q ≡ p
AsksThePort G Ask p q = q ≡ p
AsksThePort G (MasterRead w) p q = q ≡ p
AsksThePort G (MasterWrite s) p q = Chain G.does p (outsides s (write_answer (G.state p) s) ∷ []) q
AsksThePort G Give p q = q ≡ p
AsksThePort G (Snoop w) p q = Chain G.does p (snoops w (snoop_answer (G.state p) w) ∷ []) q
AsksThePort G Flush p q = Chain G.does p (flushes ∷ []) q

-- The board answers what the port tells: its word, or that it is done; a refusal of the port comes up as it is. A call that no port can refuse is
-- done.
pub record TellsWord (port : Result ℕ Fault) (r : Result Answer Fault) : Type 0 where
  pub word : (v : ℕ) → port ≡ Ok v → r ≡ Ok (Word v)
  pub refused : (fault : Fault) → port ≡ Err fault → r ≡ Err fault

pub record TellsDone (port : Result (Unit {0}) Fault) (r : Result Answer Fault) : Type 0 where
  pub accepted : port ≡ Ok tt → r ≡ Ok Done
  pub refused : (fault : Fault) → port ≡ Err fault → r ≡ Err fault

abbrev pub AnswersAsThePort : State → Call → Result Answer Fault → Type 0
AnswersAsThePort s (Read w) r = TellsWord (read_answer s w) r
AnswersAsThePort s (Post x) r = TellsDone (write_answer s x) r
AnswersAsThePort s (Unposted x) r = TellsDone (write_answer s x) r
AnswersAsThePort s (LockedRead w) r = TellsWord (settled_answer s w) r
AnswersAsThePort s (LockedWrite x) r = TellsDone (write_answer s x) r
AnswersAsThePort s (MasterRead w) r = TellsWord (settled_answer s w) r
AnswersAsThePort s (MasterWrite x) r = TellsDone (write_answer s x) r
AnswersAsThePort s (Snoop w) r = TellsDone (snoop_answer s w) r
AnswersAsThePort s other r = r ≡ Ok Done

-- A call that the mode takes asks the port for its own kind, and is answered as the port answers; one that it turns away leaves the port as it
-- is.
pub record EachCallAsksThePort {P : Type 0} (G : Ghosts P) : Type 0 where
  pub taken : (m n : Mode) (p q : P) (c : Call) (r : Result Answer Fault) → Called G m p c r n q → turned_away c m ≡ None → AsksThePort G c p q
  pub answered : (m n : Mode) (p q : P) (c : Call) (r : Result Answer Fault) → Called G m p c r n q → turned_away c m ≡ None → AnswersAsThePort (G.state p) c r
  pub turned : (m n : Mode) (p q : P) (c : Call) (r : Result Answer Fault) (x : Refusal) → Called G m p c r n q → turned_away c m ≡ Some x → q ≡ p

-- What is read in a cycle of its own, word or refusal, is told where the mode takes the call that opens the cycle; else that call's refusal is
-- told, on the board's floor.
pub record CycleKeepsTheMode (m : Mode) (c : Call) (floor : ℕ) (r told : Result ℕ Fault) : Type 0 where
  pub taken : turned_away c m ≡ None → told ≡ r
  pub turned : (x : Refusal) → turned_away c m ≡ Some x → told ≡ Err (record { refusal = x; place = told_at c; floor = floor_above floor })

-- UNDER A LOCK, read off the calls and their answers

-- Settled memory changed by the holder's own writes, in order, and by nothing else, and nothing waits.
pub record OnlyTheHolderWrites (start : State) (under : List Moment) (b e : Book) : Type 0 where
  pub settled : e.state.settled ≡ applied start.protected (locked_writes under) b.state.settled
  pub waiting : e.state.waiting ≡ []

-- From a lock that is answered as done until an unlock is: whatever else wants the board is refused, and only the holder writes.
abbrev pub ALockHolds : State → List Moment → Type 0
ALockHolds start run =
    (before under later : List Moment) (m : Moment) → run ≡ before ++ (m ∷ (under ++ later))
    → m.call ≡ Lock → m.answer ≡ Ok Done → NoneUnlocks under
    → let b = after (first start) (before ++ (m ∷ [])) in
    AllIn start.facts.floor Locked under × OnlyTheHolderWrites start under b (after b under)

-- ONCE AND IN ORDER

-- Of the processor's accepted writes the oldest have settled, in their order, as many as the counts say, and the others wait.
pub record EachWriteSettlesOnce (start : State) (run : List Moment) : Type 0 where
  pub once : (ledger start.protected no_entries run).own ++ (ledger start.protected no_entries run).waiting ≡ (ledger start.protected no_entries run).accepted
  pub many : length (ledger start.protected no_entries run).own ≡ total run

-- How many of the waiting writes settle at a call that is taken.
abbrev pub settles_at : Call → Rule
settles_at (Read w) = some
settles_at (Post s) = some
settles_at (Unposted s) = all
settles_at Advance = one_or_more
settles_at Lock = all
settles_at (LockedWrite s) = all
settles_at other = none

abbrev pub AsManySettleAsSaid : State → List Moment → Type 0
AsManySettleAsSaid start run =
    (before later : List Moment) (m : Moment) (r : Answer) → run ≡ before ++ (m ∷ later) → m.answer ≡ Ok r
    → Admits (settles_at m.call) (length ((ledger start.protected no_entries before).waiting ++ joining_entries start.protected m)) m.count

-- THE CALLS MADE

-- One call of the board after another, with how many writes settled at each.
pub data CallsMade {P : Type 0} (G : Ghosts P) (m : Mode) (p : P) : List Moment → Mode → P → Type 0 where
  none_made : CallsMade G m p [] m p
  one_more : {n o : Mode} {q u : P} {c : Call} {r : Result Answer Fault} {ms : List Moment}
      → CallsMade G m p ms n q → (h : Called G n q c r o u) → CallsMade G m p (ms ++ (moment c r h.count ∷ [])) o u

-- THE PROMISE of a run of the calls on a board made on the port p, and left in mode m on the port q

pub record NeverAnOldDigit {P : Type 0} (G : Ghosts P) (p : P) (cs : List Call) (rs : List (Result Answer Fault)) (m : Mode) (q : P) : Type 0 where
  -- the port once the board was made
  pub made : P
  pub drains : Drains G.state G.does p made
  -- nothing waits then, and settled memory is what was seen before
  pub begins : G.state made ≡ drained (G.state p)
  -- the calls with their answers and counts: one run for all that follows
  pub run : List Moment
  pub calls : calls_of run ≡ cs
  pub answers : answers_of run ≡ rs
  pub calls_made : CallsMade G Free made run m q
  pub follows_the_book : Follows (first (G.state p)) run
  pub ends_as_the_book : book_of m (G.state q) ≡ after (first (G.state p)) run
  pub reads_are_newest : ReadsAreNewest (G.state p) run
  pub alike_starts_answer_alike : AlikeStartsAnswerAlike (G.state p) run
  pub masters_reads_are_settled : MastersReadsAreSettled (G.state p) run
  pub answers_keep_the_modes : AnswersKeepTheModes (G.state p) run
  pub left_in_the_mode : m ≡ mode_by Free run
  pub as_many_settle_as_said : AsManySettleAsSaid (G.state p) run
  pub a_lock_holds : ALockHolds (G.state p) run
  pub each_write_settles_once : EachWriteSettlesOnce (G.state p) run

-- Two runs of the same calls are heard alike if their ports began alike and no master's write was accepted.
abbrev pub HeardAlike : State → State → List Moment → List Moment → Type 0
HeardAlike s t run other = Alike s t → Quiet run → all_heard run ≡ all_heard other

-- The same calls on two boards: each keeps the promise, and they are heard alike where that can be.
pub record BothKeep {P Q : Type 0} (G : Ghosts P) (H : Ghosts Q) (p : P) (q : Q) (cs : List Call) (rs qs : List (Result Answer Fault)) (m n : Mode) (u : P) (v : Q) : Type 0 where
  pub one : NeverAnOldDigit G p cs rs m u
  pub other : NeverAnOldDigit H q cs qs n v
  pub alike : HeardAlike (G.state p) (H.state q) one.run other.run

-- WHAT KEEPS THE PROMISE FROM BEING EMPTY

pub record ThePromiseIsNotEmpty : Type 0 where
  -- a byte has one source
  pub one_source : (lane : Lane) (a : ℕ) (waiting settled : List Entry) (content x y : ℕ)
      → Comes lane a waiting settled content x → Comes lane a waiting settled content y → x ≡ y
  -- any calls have a run
  pub some_run : (b : Book) (cs : List Call) → (ms : List Moment) × (calls_of ms ≡ cs) × Follows b ms
  -- a refused call changes nothing, but for what settles at a read of an unreadable word
  pub refusals_change_nothing : (b : Book) (c : Call) (k : ℕ) (fault : Fault) → Allowed b c k → answer b c ≡ Err fault
      → (step b c k ≡ b) ⊎ ((fault.refusal ≡ Unreadable) × ((a : ℕ) × (c ≡ Read a)))
