-- The LRU bits of a set: what a touch makes of them, and the way they name.
use Rattle.std.specs.Prelude.{ℕ, ◌+◌, ◌*◌, Bool, true, false, cond, List, [], ◌∷◌, Some, None, Option, ◌==◌}
use Rattle.directory.specs.declared.lru.LruBits.{LruBits}
use Rattle.directory.specs.declared.lru.WayNumber.{WayNumber}
use Rattle.directory.specs.declared.lru.WayNumber.TheVariants.{Zero, One, Two, Three}

abbrev pub index_of : WayNumber → ℕ
index_of Zero = 0
index_of One = 1
index_of Two = 2
index_of Three = 3

abbrev pub every_way : List WayNumber
every_way = Zero ∷ One ∷ Two ∷ Three ∷ []

abbrev pub way_numbered : ℕ → Option WayNumber
way_numbered n =
    cond (n == 0) (Some Zero) (cond (n == 1) (Some One) (cond (n == 2) (Some Two) (cond (n == 3) (Some Three) None)))

abbrev pub same_way : WayNumber → WayNumber → Bool
same_way j k = index_of j == index_of k

abbrev pub number_of : LruBits → ℕ
number_of m = cond m.m0 1 0 + 2 * cond m.m1 1 0 + 4 * cond m.m2 1 0

abbrev pub untouched : LruBits
untouched = record { m0 = false; m1 = false; m2 = false }

-- A touch sets m0 by the pair of the way, and m1 or m2 by the way within its pair; the other pair's bit stays.
abbrev pub touched_bits : LruBits → WayNumber → LruBits
touched_bits m Zero = record { m0 = true; m1 = true; m2 = m.m2 }
touched_bits m One = record { m0 = true; m1 = false; m2 = m.m2 }
touched_bits m Two = record { m0 = false; m1 = m.m1; m2 = true }
touched_bits m Three = record { m0 = false; m1 = m.m1; m2 = false }

-- The victim is in the pair that was not touched last, and is the way of it that was not.
abbrev pub victim_of : LruBits → WayNumber
victim_of m = cond m.m0 (cond m.m2 Three Two) (cond m.m1 One Zero)
