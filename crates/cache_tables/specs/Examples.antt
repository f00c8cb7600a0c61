-- The rules tried on numbers.
use Rattle.std.specs.Prelude.{◌≡◌, ℕ, ◌+◌, Bool, true, false, not, [], ◌∷◌, Some, None, Ok, Err, ◌==◌}
use Rattle.port.specs.Meaning.{unreadable}
use Rattle.port.specs.Steps.{Step, reads, advances}
use Rattle.directory.specs.declared.lru.WayNumber.TheVariants.{Zero}
use Rattle.directory.specs.Dirs.{found}
use Rattle.cache_tables.specs.Showing.{Shown}
use Rattle.cache_tables.specs.Rules.{Model, cleared, dropped, read_turn, advance_turn}

-- Two lines of words counted from 100, where one word perhaps cannot be read.
abbrev pub counted : (ℕ → Bool) → Shown
counted readable = record { words = 16; cacheable = λ _. true; protected = λ _. false; word = λ a. 100 + a; readable = readable }

abbrev pub legible : Shown
legible = counted (λ _. true)

abbrev pub torn : Shown
torn = counted (λ a. not (a == 1))

abbrev pub reads100 : ℕ → Step
reads100 a = reads a (Ok (100 + a))

-- A fill of line 0 begins with word 2.
abbrev pub begun_at_two : Shown → Model
begun_at_two v = (read_turn v cleared 2).tables

pub record TwoLineExamplesHold : Type 0 where
  -- the miss reads its word below, and the next advance fetches the word beside it
  pub miss : (read_turn legible cleared 2).calls ≡ reads100 2 ∷ []
  pub next : (advance_turn legible (begun_at_two legible)).calls ≡ reads100 3 ∷ advances ∷ []
  -- a read of the other line finishes the fill first, and the line is then in way 0
  pub order : (read_turn legible (begun_at_two legible) 9).calls ≡
      reads100 3 ∷ reads100 0 ∷ reads100 1 ∷ reads100 6 ∷ reads100 7 ∷ reads100 4 ∷ reads100 5 ∷ reads100 9 ∷ []
  pub kept : found (read_turn legible (begun_at_two legible) 9).tables.dir 0 ≡ Some Zero
  -- word 1 cannot be read: no more is fetched, and no way has the line
  pub short : (read_turn torn (begun_at_two torn) 9).calls ≡ reads100 3 ∷ reads100 0 ∷ reads 1 (Err (unreadable 1)) ∷ reads100 9 ∷ []
  pub abandoned : found (read_turn torn (begun_at_two torn) 9).tables.dir 0 ≡ None
  -- what has been fetched answers by itself, until the line is dropped between two words of the fill
  pub buffered : (read_turn legible (begun_at_two legible) 2).calls ≡ []
  pub fresh : (read_turn legible (dropped (begun_at_two legible) 0) 2).calls ≡ reads100 2 ∷ []
