-- How many words a bank or map of some lines has.
use Rattle.std.specs.Prelude.{◌≡◌, ◌⊎◌, ℕ, ◌+◌, ◌<◌, ◌≤◌, ◌*◌, ◌/◌, ◌%◌, Bool, cond, ◌&&◌, Ok, Err, Result, ◌==◌, nat_le}
use Rattle.fault.specs.declared.Fault.{Fault}
use Rattle.port.specs.Memory.{most_words}
use Rattle.fault.specs.declared.Refusal.TheVariants.{UnfitSize}

abbrev pub unfit : Fault
unfit = record { refusal = UnfitSize; place = 0; floor = 0 }

abbrev pub most_lines : ℕ
most_lines = most_words / 8

-- One line at least, and at most as many as a port may have.
abbrev pub fit_lines : ℕ → Bool
fit_lines lines = nat_le 1 lines && nat_le lines most_lines

-- What a size question answers: the number of words, or a refusal.
abbrev pub size_of_lines : ℕ → Result ℕ Fault
size_of_lines lines = cond (fit_lines lines) (Ok (lines * 8)) (Err unfit)

-- How many words there are: none where the size is unfit.
abbrev pub words_of_lines : ℕ → ℕ
words_of_lines lines = cond (fit_lines lines) (lines * 8) 0

-- Sixteen bytes make a line; bytes left over make no line at all.
abbrev pub lines_of_bytes : ℕ → ℕ
lines_of_bytes bytes = cond (bytes % 16 == 0) (bytes / 16) 0

-- From one line to 1,048,576 each line is eight words; where there are none or more, the question is refused and the port has no word. Bytes
-- that make no whole lines make none.
pub record UnfitSizesHaveNoWords : Type 0 where
  pub fit : (lines : ℕ) → 1 ≤ lines → lines ≤ 1048576 → (size_of_lines lines ≡ Ok (lines * 8)) × (words_of_lines lines ≡ lines * 8)
  pub unfit : (lines : ℕ) → (lines ≡ 0) ⊎ (1048576 < lines) →
      (size_of_lines lines ≡ Err (record { refusal = UnfitSize; place = 0; floor = 0 })) × (words_of_lines lines ≡ 0)
  pub even : (lines : ℕ) → lines_of_bytes (lines * 16) ≡ lines
  pub odd : (lines over : ℕ) → 1 ≤ over → over < 16 → lines_of_bytes (lines * 16 + over) ≡ 0
