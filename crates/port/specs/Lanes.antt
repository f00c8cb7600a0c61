-- The two bytes of a word, and how a write replaces some of them.
use Rattle.std.specs.Prelude.{ℕ, ◌+◌, ◌*◌, ◌/◌, ◌%◌, ◌^◌, Bool, cond, ◌||◌, ◌==◌}

pub data Lane : Type 0 where
  low : Lane
  high : Lane

abbrev pub byte : Lane → ℕ → ℕ
byte low v = v % 2 ^ 8
byte high v = v / 2 ^ 8

-- Lanes 1 are the low byte, 2 the high byte, 3 both.
abbrev pub covers : ℕ → Lane → Bool
covers lanes low = lanes == 1 || lanes == 3
covers lanes high = lanes == 2 || lanes == 3

abbrev pub merged_byte : Lane → ℕ → ℕ → ℕ → ℕ
merged_byte lane lanes old new = cond (covers lanes lane) (byte lane new) (byte lane old)

-- The old word with the covered bytes of the new one.
abbrev pub merged : ℕ → ℕ → ℕ → ℕ
merged lanes old new = merged_byte high lanes old new * 2 ^ 8 + merged_byte low lanes old new
