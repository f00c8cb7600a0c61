-- What a stage knows of a call that its own checks let pass.
use Rattle.std.specs.Prelude.{◌≡◌, ℕ, ◌<◌, Ok}
use Rattle.port.specs.Memory.{State, raised}
use Rattle.port.specs.Meaning.{within, writable}

-- A word or line is in range: by the stage's own check, by that of the port below, and as a number
pub record InRange (s : State) (place : ℕ) : Type 0 where
  pub own : within place s.facts.words (raised s).facts.floor ≡ Ok tt
  pub below : within place s.facts.words s.facts.floor ≡ Ok tt
  pub inside : place < s.facts.words

pub record Writable (s : State) (place lanes : ℕ) : Type 0 where
  pub own : writable place lanes s.facts.words (raised s).facts.floor ≡ Ok tt
  pub below : writable place lanes s.facts.words s.facts.floor ≡ Ok tt
  pub inside : place < s.facts.words
