-- The memory that the card is delivered with.
use Rattle.std.specs.Prelude.{◌≡◌, ℕ, ◌%◌, ◌^◌, ◌<◌, true, false, cond, not, List, length, replicate, ◌==◌, slice_index_or, slice_set}
use Rattle.banks.specs.declared.line.Line.{Line}
use Rattle.banks.specs.Lines.{blank}

-- Zeroed and unprotected; line 2,047 may not be cached, and word 37, at offset 5 of line 4, cannot be read.
abbrev pub stock_line : ℕ → Line
stock_line line = record {
  words = replicate 8 0;
  cacheable = not (line == 2047);
  protect = false;
  readable = cond (line == 4) (slice_set (replicate 8 true) 5 false) (replicate 8 true);
}

abbrev pub stock_byte : ℕ → ℕ
stock_byte i = i % 2 ^ 8

-- So many items, each what a rule says of its index.
pub record Stocked {X : Type 0} (rule : ℕ → X) (none : X) (count : ℕ) (items : List X) : Type 0 where
  pub count_is : length items ≡ count
  pub each : (i : ℕ) → i < count → slice_index_or items i none ≡ rule i

-- 2,048 lines of RAM, and 64 lines of EPROM, of 16 bytes each.
abbrev pub StockLines : List Line → Type 0
StockLines = Stocked stock_line blank (2 ^ 11)

abbrev pub StockImage : List ℕ → Type 0
StockImage = Stocked stock_byte 0 (2 ^ 10)
