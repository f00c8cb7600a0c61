-- A fill under way: which of the eight words of a line have come, and which comes next.
use Rattle.std.specs.Prelude.{◌≡◌, ℕ, zero, suc, ◌+◌, ◌*◌, ◌/◌, ◌%◌, ◌^◌, ◌<◌, Bool, cond, ◌&&◌, length, replicate, Some, None, Option, ◌==◌, bit_or, bit_xor, count_ones, slice_index, slice_set}
use Rattle.directory.specs.declared.lru.WayNumber.{WayNumber}
use Rattle.directory.specs.declared.fills.Fill.{Fill}
use Rattle.port.specs.Memory.{line_of, offset_of}

-- The offset has been fetched: its bit of the tick record is set.
abbrev pub ticked : ℕ → ℕ → Bool
ticked ticks offset = ticks / 2 ^ offset % 2 == 1

abbrev pub tick : ℕ → ℕ → ℕ
tick ticks offset = bit_or ticks (2 ^ offset)

-- The offset that a step fetches.
abbrev pub offset_at : ℕ → ℕ → ℕ
offset_at first step = bit_xor first step

-- The tick record after some steps.
abbrev pub ticks_after : ℕ → ℕ → ℕ
ticks_after first zero = 0
ticks_after first (suc k) = tick (ticks_after first k) (offset_at first k)

-- As many steps are done as there are ones in the tick record, and that number names the next.
abbrev pub next_offset : Fill → ℕ
next_offset b = offset_at b.first (count_ones b.ticks)

abbrev pub next_word : Fill → ℕ
next_word b = b.line * 8 + next_offset b

abbrev pub complete : Fill → Bool
complete b = count_ones b.ticks == 8

-- The fill of the word's line begins at the word's offset.
abbrev pub starting : ℕ → WayNumber → Bool → Fill
starting word way protect =
    record { line = line_of word; first = offset_of word; way = way; protect = protect; ticks = 0; words = replicate 8 0 }

-- The next word has come.
abbrev pub with_word : Fill → ℕ → Fill
with_word b value = record {
  line = b.line;
  first = b.first;
  way = b.way;
  protect = b.protect;
  ticks = tick b.ticks (next_offset b);
  words = slice_set b.words (next_offset b) value;
}

-- The word, where the fill has fetched it already.
abbrev pub fetched_word : Fill → ℕ → Option ℕ
fetched_word b word =
    cond (b.line == line_of word && ticked b.ticks (offset_of word)) (Some (slice_index b.words (offset_of word))) None

-- What making a fill establishes and every step keeps: its ticks are those of its first steps, in their order.
pub record Ordered (b : Fill) : Type 0 where
  pub low : b.line < 2 ^ 29
  pub offset : b.first < 8
  pub order : b.ticks ≡ ticks_after b.first (count_ones b.ticks)
  pub sized : length b.words ≡ 8

-- A fill that still lacks a word.
pub record UnderWay (b : Fill) : Type 0 where
  pub ordered : Ordered b
  pub short : count_ones b.ticks < 8
