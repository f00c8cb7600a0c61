-- One set, and what is done to it.
use Rattle.std.specs.Prelude.{ℕ, Bool, false, List, [], Some, None, Option, ◌==◌, slice_index_or, slice_set}
use Rattle.directory.specs.declared.lru.WayNumber.{WayNumber}
use Rattle.directory.specs.declared.sets.Way.{Way}
use Rattle.directory.specs.declared.sets.SetRecord.{SetRecord}
use Rattle.directory.specs.Touch.{index_of, untouched, touched_bits}

-- What stands past the end of a list of sets.
abbrev pub no_set : SetRecord
no_set = record { ways = []; lru = untouched }

abbrev pub filled_way : ℕ → Bool → List ℕ → Way
filled_way tag protect words = record { protect = protect; tag = tag; words = words }

abbrev pub worded_way : Way → ℕ → ℕ → Way
worded_way w offset value = record { protect = w.protect; tag = w.tag; words = slice_set w.words offset value }

-- What a way of a set holds: nothing, where it is not valid.
abbrev pub way_in : SetRecord → WayNumber → Option Way
way_in s k = slice_index_or s.ways (index_of k) None

abbrev pub has_tag : ℕ → Option Way → Bool
has_tag tag None = false
has_tag tag (Some w) = w.tag == tag

abbrev pub put_set : SetRecord → WayNumber → Option Way → SetRecord
put_set s k w = record { ways = slice_set s.ways (index_of k) w; lru = s.lru }

abbrev pub touched_set : SetRecord → WayNumber → SetRecord
touched_set s k = record { ways = s.ways; lru = touched_bits s.lru k }

abbrev pub installed_set : SetRecord → WayNumber → Way → SetRecord
installed_set s k w = touched_set (put_set s k (Some w)) k
