-- What a walk through the cache directory finds.
use Rattle.std.specs.Prelude.{◌≡◌, ℕ, List, [], ◌∷◌, map, vec_items, slice_index_or, Result}
use Rattle.fault.specs.declared.Fault.{Fault}
use Rattle.directory.specs.declared.lru.WayNumber.{WayNumber}
use Rattle.directory.specs.declared.directory.questions.WayState.{WayState}
use Rattle.directory.specs.Touch.{index_of}
use Rattle.port.specs.declared.Port.{Ghosts}
use Rattle.port.specs.Memory.{floor_above}
use Rattle.directory.specs.Dirs.{Dir, valid_ways}
use Rattle.cache.specs.declared.cache.Cache.{Cache}
use Rattle.cache.specs.Doing.{tables_of, inspect_answer}
use Rattle.directory_walk.specs.declared.SetTold.{SetTold}
use Rattle.directory_walk.specs.declared.Walk.{Walk}

-- The answers about the four ways of a set, in their order.
abbrev pub set_told : Dir → ℕ → ℕ → SetTold
set_told d floor set = record {
  set = set;
  ways = inspect_answer d floor set 0 ∷ inspect_answer d floor set 1 ∷ inspect_answer d floor set 2 ∷ inspect_answer d floor set 3 ∷ [];
}

-- Of the set that was asked about all four ways are told, each by its own number.
pub record EveryWayIsTold : Type 0 where
  pub set : (d : Dir) (floor set : ℕ) → (set_told d floor set).set ≡ set
  pub ways : (d : Dir) (floor set : ℕ) (k : WayNumber) (none : Result WayState Fault) → slice_index_or (set_told d floor set).ways (index_of k) none ≡ inspect_answer d floor set (index_of k)

abbrev pub told_of : {P : Type 0} {G : Ghosts P} → Cache P G → ℕ → SetTold
told_of {P} {G} c set = set_told (tables_of c).dir (floor_above (G.state c.below).facts.floor) set

-- Each set was asked about, none left out and in their order, and the valid ways of the whole directory were counted.
pub record Walked {P : Type 0} {G : Ghosts P} (c : Cache P G) (sets : List ℕ) (w : Walk) : Type 0 where
  pub told : vec_items w.sets ≡ map (told_of c) sets
  pub valid : w.valid ≡ valid_ways (tables_of c).dir
