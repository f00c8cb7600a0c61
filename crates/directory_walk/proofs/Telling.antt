-- No way of a set is left out.
use Rattle.std.proofs.Common.{◌≡◌, ℕ, Result, refl}
use Rattle.std.specs.Prelude.{slice_index_or}
use Rattle.fault.specs.declared.Fault.{Fault}
use Rattle.directory.specs.declared.lru.WayNumber.{WayNumber}
use Rattle.directory.specs.declared.lru.WayNumber.TheVariants.{Zero, One, Two, Three}
use Rattle.directory.specs.declared.directory.questions.WayState.{WayState}
use Rattle.directory.specs.Touch.{index_of}
use Rattle.directory.specs.Dirs.{Dir}
use Rattle.cache.specs.Doing.{inspect_answer}
use Rattle.directory_walk.specs.Walks.{set_told, EveryWayIsTold}

each_way : (d : Dir) (floor set : ℕ) (k : WayNumber) (none : Result WayState Fault) → slice_index_or (set_told d floor set).ways (index_of k) none ≡ inspect_answer d floor set (index_of k)
each_way d floor set Zero none = refl
each_way d floor set One none = refl
each_way d floor set Two none = refl
each_way d floor set Three none = refl

pub every_way_is_told : EveryWayIsTold
every_way_is_told = record { set = λ d floor set. refl; ways = each_way }
