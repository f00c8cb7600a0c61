-- A way is told by where it stands in its set.
use Rattle.std.proofs.Common.{◌≡◌, ℕ, ◌<◌, cond, eqb, sym, refl, ap, ◌∙◌, arith}
use Rattle.directory.specs.declared.lru.WayNumber.{WayNumber}
use Rattle.directory.specs.declared.lru.WayNumber.TheVariants.{Zero, One, Two, Three}
use Rattle.directory.specs.Touch.{index_of}

abbrev way_at : ℕ → WayNumber
way_at n = cond (eqb n 0) Zero (cond (eqb n 1) One (cond (eqb n 2) Two Three))

way_numbered_lem : (k : WayNumber) → way_at (index_of k) ≡ k
way_numbered_lem Zero = refl
way_numbered_lem One = refl
way_numbered_lem Two = refl
way_numbered_lem Three = refl

pub index_injective : (j k : WayNumber) → index_of j ≡ index_of k → j ≡ k
index_injective j k e = sym (way_numbered_lem j) ∙ ap way_at e ∙ way_numbered_lem k

pub index_below : (k : WayNumber) → index_of k < 4
index_below Zero = omega arith
index_below One = omega arith
index_below Two = omega arith
index_below Three = omega arith
