-- What can be asked of a directory.
use Rattle.std.specs.Prelude.{◌≡◌, ℕ, ◌<◌, ◌≤◌, true, false, cond, Some, None, Option, is_some, nat_lt}
use Rattle.std.specs.Option.{option_map_or}
use Rattle.directory.specs.declared.lru.WayNumber.{WayNumber}
use Rattle.directory.specs.declared.sets.Way.{Way}
use Rattle.directory.specs.declared.directory.Directory.{Directory}
use Rattle.directory.specs.declared.directory.questions.WayState.{WayState}
use Rattle.directory.specs.Touch.{index_of, way_numbered}
use Rattle.directory.specs.Dirs.{Dir, number_of_sets, set_of, tag_of, found, view_of}

abbrev pub view : Directory → Dir
view d = view_of d.sets

-- What is told of a way, or nothing where there is no such set or way.
abbrev pub way_state : Dir → ℕ → Option WayNumber → Option WayState
way_state d i None = None
way_state d i (Some k) =
    Some (record {
      valid = is_some (d.way i k);
      protect = option_map_or (λ w. w.protect) (d.way i k) false;
      tag = option_map_or (λ w. w.tag) (d.way i k) 0;
      lru = d.lru i;
    })

abbrev pub inspected : Dir → ℕ → ℕ → Option WayState
inspected d set way = cond (nat_lt set number_of_sets) (way_state d set (way_numbered way)) None

-- Asked about the way in which a line is found, a directory tells that it is valid, the line's tag and what the way knows; about a way that
-- holds nothing, that it is not valid, with 0 for both. Other sets and ways there are none.
pub record TellsWhatStands (d : Dir) : Type 0 where
  pub line : (line : ℕ) (k : WayNumber) (w : WayState) → found d line ≡ Some k → inspected d (set_of line) (index_of k) ≡ Some w → (w.valid ≡ true) × (w.tag ≡ tag_of line)
  pub flag : (i : ℕ) (k : WayNumber) (y : Way) → i < 256 → d.way i k ≡ Some y →
      inspected d i (index_of k) ≡ Some (record { valid = true; protect = y.protect; tag = y.tag; lru = d.lru i })
  pub empty : (i : ℕ) (k : WayNumber) → i < 256 → d.way i k ≡ None →
      inspected d i (index_of k) ≡ Some (record { valid = false; protect = false; tag = 0; lru = d.lru i })
  pub no_set : (i way : ℕ) → 256 ≤ i → inspected d i way ≡ None
  pub no_way : (i way : ℕ) → 4 ≤ way → inspected d i way ≡ None
