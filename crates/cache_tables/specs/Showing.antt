-- What the port below shows to a cache.
use Rattle.std.specs.Prelude.{ℕ, zero, suc, ◌+◌, ◌*◌, Bool, true, cond, ◌&&◌, List, [], ◌∷◌, Ok, Err, Result}
use Rattle.fault.specs.declared.Fault.{Fault}
use Rattle.port.specs.Memory.{Memory, Facts, State, seen}
use Rattle.port.specs.Meaning.{unreadable}

-- All that the rules of a cache speak of: the size, the marks, and memory as it is seen. How much of it has settled does not show.
pub record Shown : Type 0 where
  pub words : ℕ
  pub cacheable : ℕ → Bool
  pub protected : ℕ → Bool
  pub word : ℕ → ℕ
  pub readable : ℕ → Bool

abbrev pub shown_as : Facts → (ℕ → Bool) → Memory → Shown
shown_as f protected m =
    record { words = f.words; cacheable = f.cacheable; protected = protected; word = m.word; readable = m.readable }

abbrev pub shown : State → Shown
shown s = shown_as s.facts s.protected (seen s)

-- What a read of a word that is there answers.
abbrev pub reading : Shown → ℕ → Result ℕ Fault
reading v w = cond (v.readable w) (Ok (v.word w)) (Err (unreadable w))

-- The eight words of a line as they are seen.
abbrev pub eight : (ℕ → ℕ) → List ℕ
eight f = f 0 ∷ f 1 ∷ f 2 ∷ f 3 ∷ f 4 ∷ f 5 ∷ f 6 ∷ f 7 ∷ []

abbrev pub line_seen : Shown → ℕ → List ℕ
line_seen v line = eight (λ p. v.word (line * 8 + p))

-- All eight words of a line can be read.
abbrev pub all_below : (ℕ → Bool) → ℕ → Bool
all_below test zero = true
all_below test (suc n) = test n && all_below test n

abbrev pub whole : Shown → ℕ → Bool
whole v line = all_below (λ p. v.readable (line * 8 + p)) 8
