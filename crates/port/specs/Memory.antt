-- What a port holds: a settled memory, and the waiting line.
use Rattle.std.specs.Prelude.{◌≡◌, ℕ, ◌+◌, ◌-◌, ◌/◌, ◌%◌, ◌^◌, ◌≤◌, min, Bool, cond, List, [], ◌∷◌, ◌++◌, ◌==◌}
use Rattle.port.specs.declared.Store.{Store}
use Rattle.port.specs.Lanes.{merged}

-- The contents of memory by word number, and which words can be read.
pub record Memory : Type 0 where
  pub word : ℕ → ℕ
  pub readable : ℕ → Bool

-- The most words of a port. A size is in whole lines of eight words, and no more than the most.
abbrev pub most_words : ℕ
most_words = 2 ^ 23

pub record WholeLines (words : ℕ) : Type 0 where
  pub lined : words % 8 ≡ 0
  pub most : words ≤ most_words

-- What never changes: how many words there are, the floor, and which lines may be cached.
pub record Facts : Type 0 where
  pub words : ℕ
  pub floor : ℕ
  pub cacheable : ℕ → Bool

-- The waiting writes are processor writes that have not settled, the oldest first.
pub record State : Type 0 where
  pub facts : Facts
  pub protected : ℕ → Bool
  pub settled : Memory
  pub waiting : List Store

-- A stage stands one floor higher than what it stands on; floors are counted up to 255.
abbrev pub floor_above : ℕ → ℕ
floor_above floor = min (floor + 1) (2 ^ 8 - 1)

-- A word stands in a line, at one of its eight offsets.
abbrev pub line_of : ℕ → ℕ
line_of word = word / 8

abbrev pub offset_of : ℕ → ℕ
offset_of word = word % 8

-- Memory once a write has settled in it: the write's lanes of its word are replaced, in a protected line nothing is.
abbrev pub stored : (ℕ → Bool) → Store → Memory → Memory
stored protected w m = record m {
  word = λ a. cond (a == w.word) (cond (protected (line_of a)) (m.word a) (merged w.lanes (m.word a) w.value)) (m.word a);
}

-- The same for several writes, one after another.
abbrev pub applied : (ℕ → Bool) → List Store → Memory → Memory
applied protected [] m = m
applied protected (w ∷ ws) m = applied protected ws (stored protected w m)

-- What the processor sees: settled memory with all waiting writes applied.
abbrev pub seen : State → Memory
seen s = applied s.protected s.waiting s.settled

-- The state with more writes at the end of the waiting line.
abbrev pub posted : List Store → State → State
posted ws s = record s { waiting = s.waiting ++ ws }

-- The state once the writes gone have settled, where those in rest still wait.
abbrev pub settling : List Store → List Store → State → State
settling gone rest s = record s { settled = applied s.protected gone s.settled; waiting = rest }

-- The state once all waiting writes have settled.
abbrev pub drained : State → State
drained s = record s { settled = seen s; waiting = [] }

-- The state after a write from outside, which goes past the waiting line.
abbrev pub outside : Store → State → State
outside w s = record s { settled = stored s.protected w s.settled }

-- The state as a stage shows it, one floor higher.
abbrev pub raised : State → State
raised s = record s { facts = record (s.facts) { floor = floor_above s.facts.floor } }
