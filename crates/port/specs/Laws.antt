-- The laws that every stage rests on.
use Rattle.std.specs.Prelude.{◌≡◌, ℕ, ◌+◌, ◌*◌, ◌<◌, ◌≤◌, true, false, ◌⊎◌, List, [], ◌∷◌, length, Ok, Err, Result}
use Rattle.fault.specs.declared.Refusal.TheVariants.{PastEnd, BadLanes, Unreadable}
use Rattle.port.specs.declared.Store.{Store}
use Rattle.fault.specs.declared.Fault.{Fault}
use Rattle.port.specs.Lanes.{merged}
use Rattle.port.specs.Memory.{State, floor_above, seen, posted, drained, outside, raised}
use Rattle.port.specs.Meaning.{read_answer, settled_answer, write_answer, snoop_answer, marks_answer, waiting_answer, Settles}
use Rattle.port.specs.Steps.{Step, reads, writes, advances, outsides, snoops, flushes, written, word_read, advances_in, accepted, announced, read_or_announced, asked}

pub record SettlingIsNeverSeen : Type 0 where
  -- settling and settling again is settling
  pub composes : (s t u : State) → Settles s t → Settles t u → Settles s u
  -- it never changes what is seen
  pub unseen : (s t : State) → Settles s t → seen t ≡ seen s
  -- it goes on alike under writes queued above
  pub commutes : (s t : State) (ws : List Store) → Settles s t → Settles (posted ws s) (posted ws t)
  -- once nothing waits, settled memory is what was seen
  pub ends : (s t : State) → Settles s t → t.waiting ≡ [] → t ≡ drained s

-- A write is refused past the end whatever its lanes, else for lanes other than 1, 2 and 3, each on the floor of the port that was called. A read is
-- refused past the end, else on floor 0 for a word that cannot be read. A snoop is refused past the end, and so is a question for the marks
-- of a line that is not wholly there. Whatever else is asked is answered.
pub record RefusedInOrder : Type 0 where
  pub past : (s : State) (w : Store) → s.facts.words ≤ w.word → write_answer s w ≡ Err (record { refusal = PastEnd; place = w.word; floor = s.facts.floor })
  pub lanes : (s : State) (w : Store) → w.word < s.facts.words → (w.lanes ≡ 0) ⊎ (3 < w.lanes) → write_answer s w ≡ Err (record { refusal = BadLanes; place = w.word; floor = s.facts.floor })
  pub taken : (s : State) (w : Store) → w.word < s.facts.words → 1 ≤ w.lanes → w.lanes ≤ 3 → write_answer s w ≡ Ok tt
  pub read_past : (s : State) (a : ℕ) → s.facts.words ≤ a → read_answer s a ≡ Err (record { refusal = PastEnd; place = a; floor = s.facts.floor })
  pub unreadable : (s : State) (a : ℕ) → a < s.facts.words → (seen s).readable a ≡ false → read_answer s a ≡ Err (record { refusal = Unreadable; place = a; floor = 0 })
  pub read : (s : State) (a : ℕ) → a < s.facts.words → (seen s).readable a ≡ true → read_answer s a ≡ Ok ((seen s).word a)
  pub snoop_past : (s : State) (a : ℕ) → s.facts.words ≤ a → snoop_answer s a ≡ Err (record { refusal = PastEnd; place = a; floor = s.facts.floor })
  pub snooped : (s : State) (a : ℕ) → a < s.facts.words → snoop_answer s a ≡ Ok tt
  pub marks_past : (s : State) (k : ℕ) → s.facts.words < k * 8 + 8 → marks_answer s k ≡ Err (record { refusal = PastEnd; place = k; floor = s.facts.floor })
  pub marks : (s : State) (k : ℕ) → k * 8 + 8 ≤ s.facts.words → marks_answer s k ≡ Ok (s.facts.cacheable k, s.protected k)
  pub settled_past : (s : State) (a : ℕ) → s.facts.words ≤ a → settled_answer s a ≡ Err (record { refusal = PastEnd; place = a; floor = s.facts.floor })
  pub settled_unreadable : (s : State) (a : ℕ) → a < s.facts.words → s.settled.readable a ≡ false → settled_answer s a ≡ Err (record { refusal = Unreadable; place = a; floor = 0 })
  pub settled : (s : State) (a : ℕ) → a < s.facts.words → s.settled.readable a ≡ true → settled_answer s a ≡ Ok (s.settled.word a)

-- A stage is one floor higher than what it stands on, up to floor 255, and a waiting count is the length of the waiting line, up to
-- 4,294,967,295.
pub record CountsStop : Type 0 where
  pub floor : (n : ℕ) → n < 255 → floor_above n ≡ n + 1
  pub top : (n : ℕ) → 255 ≤ n → floor_above n ≡ 255
  pub waiting : (s : State) → length s.waiting ≤ 4294967295 → waiting_answer s ≡ length s.waiting
  pub many : (s : State) → 4294967295 ≤ length s.waiting → waiting_answer s ≡ 4294967295

-- Of a word's two bytes, lanes 1 replace the low one, 2 the high one, and 3 both.
pub record LanesReplaceBytes : Type 0 where
  pub low : (h l g k : ℕ) → l < 256 → k < 256 → merged 1 (h * 256 + l) (g * 256 + k) ≡ h * 256 + k
  pub high : (h l g k : ℕ) → l < 256 → k < 256 → merged 2 (h * 256 + l) (g * 256 + k) ≡ g * 256 + l
  pub both : (h l g k : ℕ) → l < 256 → k < 256 → merged 3 (h * 256 + l) (g * 256 + k) ≡ g * 256 + k

-- A stage shows the port below as it is, one floor higher.
pub record StagesShowThePortBelow : Type 0 where
  pub words : (s : State) → (raised s).facts.words ≡ s.facts.words
  pub floor : (s : State) → s.facts.floor < 255 → (raised s).facts.floor ≡ s.facts.floor + 1
  pub top : (s : State) → 255 ≤ s.facts.floor → (raised s).facts.floor ≡ 255
  pub cacheable : (s : State) → (raised s).facts.cacheable ≡ s.facts.cacheable
  pub protected : (s : State) → (raised s).protected ≡ s.protected
  pub settled : (s : State) → (raised s).settled ≡ s.settled
  pub waiting : (s : State) → (raised s).waiting ≡ s.waiting

-- A write changes no mark of a line, no readable flag of a word and no fact of the port: not as it joins the waiting line, not as it settles, and
-- not from outside.
pub record MarksAndFlagsStay : Type 0 where
  pub joining : (s : State) (ws : List Store) → ((posted ws s).facts ≡ s.facts) × ((posted ws s).protected ≡ s.protected) × ((posted ws s).settled.readable ≡ s.settled.readable)
  pub settling : (s t : State) → Settles s t → (t.facts ≡ s.facts) × (t.protected ≡ s.protected) × (t.settled.readable ≡ s.settled.readable)
  pub from_outside : (s : State) (w : Store) → ((outside w s).facts ≡ s.facts) × ((outside w s).protected ≡ s.protected) × ((outside w s).settled.readable ≡ s.settled.readable)

-- What counts of each call with its answer, where calls are counted.
pub record EachCallCounts : Type 0 where
  pub a_read : (w : ℕ) (r : Result ℕ Fault) → (word_read (reads w r) ≡ w ∷ []) × (read_or_announced (reads w r) ≡ reads w r ∷ [])
  pub a_write : (w : Store) → (written (writes w (Ok tt)) ≡ w ∷ []) × (accepted (writes w (Ok tt)) ≡ writes w (Ok tt) ∷ [])
  pub a_refused_write : (w : Store) (fault : Fault) → (written (writes w (Err fault)) ≡ []) × (accepted (writes w (Err fault)) ≡ [])
  pub an_advance : (ds : List Step) → (advances_in (advances ∷ ds) ≡ 1 + advances_in ds) × (accepted advances ≡ advances ∷ [])
  pub an_outside_write : (w : Store) → (announced (outsides w (Ok tt)) ≡ outsides w (Ok tt) ∷ []) × (accepted (outsides w (Ok tt)) ≡ outsides w (Ok tt) ∷ [])
  pub a_snoop : (w : ℕ) → (announced (snoops w (Ok tt)) ≡ snoops w (Ok tt) ∷ []) × (accepted (snoops w (Ok tt)) ≡ snoops w (Ok tt) ∷ [])
  pub a_flush : (announced flushes ≡ flushes ∷ []) × (accepted flushes ≡ flushes ∷ [])
  -- where all but reads and advances count, so does what was refused
  pub a_write_of_any_answer : (w : Store) (r : Result (Unit {0}) Fault) → (asked (writes w r) ≡ writes w r ∷ []) × (asked (outsides w r) ≡ outsides w r ∷ [])
  pub a_snoop_of_any_answer : (w : ℕ) (r : Result (Unit {0}) Fault) → (asked (snoops w r) ≡ snoops w r ∷ []) × (asked flushes ≡ flushes ∷ [])
