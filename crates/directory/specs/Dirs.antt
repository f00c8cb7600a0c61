-- The directory as it can be asked for, by set and way.
use Rattle.std.specs.Prelude.{ℕ, zero, suc, ◌+◌, ◌/◌, ◌%◌, ◌^◌, Bool, false, cond, not, ◌&&◌, List, Some, None, is_some, find, count_by, Option, ◌==◌, slice_index_or}
use Rattle.std.specs.Option.{option_map}
use Rattle.port.specs.Memory.{line_of, offset_of}
use Rattle.directory.specs.declared.lru.LruBits.{LruBits}
use Rattle.directory.specs.declared.lru.WayNumber.{WayNumber}
use Rattle.directory.specs.declared.sets.Way.{Way}
use Rattle.directory.specs.declared.sets.SetRecord.{SetRecord}
use Rattle.directory.specs.Touch.{same_way, every_way, untouched, touched_bits}
use Rattle.directory.specs.Sets.{no_set, filled_way, worded_way, way_in, has_tag}

-- How many sets there are. A line belongs to one of them, and its tag tells it from the other lines of that set.
abbrev pub number_of_sets : ℕ
number_of_sets = 2 ^ 8

abbrev pub set_of : ℕ → ℕ
set_of line = line % number_of_sets

abbrev pub tag_of : ℕ → ℕ
tag_of line = line / number_of_sets

-- All that can be asked of a directory: what each way of a set holds, and the LRU bits of the set. A way is valid where it holds something.
pub record Dir : Type 0 where
  pub way : ℕ → WayNumber → Option Way
  pub lru : ℕ → LruBits

abbrev pub view_of : List SetRecord → Dir
view_of sets = record { way = λ i k. way_in (slice_index_or sets i no_set) k; lru = λ i. (slice_index_or sets i no_set).lru }

-- No valid way, and no set touched.
abbrev pub emptied : Dir
emptied = record { way = λ i k. None; lru = λ i. untouched }

-- Way k of set i becomes w.
abbrev pub put : Dir → ℕ → WayNumber → Option Way → Dir
put d i k w = record { way = λ j l. cond (j == i && same_way l k) w (d.way j l); lru = d.lru }

-- Way k of set i is touched.
abbrev pub touched : Dir → ℕ → WayNumber → Dir
touched d i k = record { way = d.way; lru = λ j. cond (j == i) (touched_bits (d.lru j) k) (d.lru j) }

-- Way k is valid and has the line.
abbrev pub holds : Dir → ℕ → WayNumber → Bool
holds d line k = has_tag (tag_of line) (d.way (set_of line) k)

-- The way that holds the line.
abbrev pub found : Dir → ℕ → Option WayNumber
found d line = find (holds d line) every_way

-- A line goes into way k of its set, all of it at once, and the way is touched.
abbrev pub installed : Dir → ℕ → WayNumber → Bool → List ℕ → Dir
installed d line k protect words = touched (put d (set_of line) k (Some (filled_way (tag_of line) protect words))) (set_of line) k

-- The way that holds a line becomes invalid; the LRU bits stay.
abbrev pub dropped_of : Dir → ℕ → Option WayNumber → Dir
dropped_of d line None = d
dropped_of d line (Some k) = put d (set_of line) k None

abbrev pub dropped : Dir → ℕ → Dir
dropped d line = dropped_of d line (found d line)

-- One word of way k of the word's set is changed, where the way is valid.
abbrev pub changed : Dir → ℕ → WayNumber → ℕ → Dir
changed d word k value =
    put d (set_of (line_of word)) k (option_map (λ w. worded_way w (offset_of word) value) (d.way (set_of (line_of word)) k))

-- Two valid ways of one tag.
abbrev pub twin_ways : Option Way → Option Way → Bool
twin_ways (Some x) (Some y) = x.tag == y.tag
twin_ways x y = false

abbrev pub twins : Dir → ℕ → WayNumber → WayNumber → Bool
twins d i j k = not (same_way j k) && twin_ways (d.way i j) (d.way i k)

-- How many ways of the first sets are valid.
unfoldable pub sum_below : (ℕ → ℕ) → ℕ → ℕ
sum_below f zero = 0
sum_below f (suc n) = sum_below f n + f n

abbrev pub valid_in : Dir → ℕ → ℕ
valid_in d i = count_by (λ k. is_some (d.way i k)) every_way

abbrev pub valid_ways : Dir → ℕ
valid_ways d = sum_below (valid_in d) number_of_sets
