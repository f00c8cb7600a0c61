-- Rows of digits: how they are shown, and how they are taken out of answers.
use Rattle.std.specs.Prelude.{ℕ, ◌+◌, cond, List, [], ◌∷◌, Some, None, Ok, Err, Option, Result, ◌==◌, nat_lt, slice_index_or}
use Rattle.fault.specs.declared.Fault.{Fault}
use Rattle.book.specs.declared.answer.Answer.{Answer}
use Rattle.book.specs.declared.answer.Answer.TheVariants.{Done, Word}
use Rattle.replay.specs.declared.row.Row.{Row}

-- The digit word of a place that shows nothing.
abbrev pub blank : ℕ
blank = 15

-- The character of a digit word: a digit's own, a space for a blank, a question mark for all else.
abbrev pub glyph_of : ℕ → ℕ
glyph_of digit = cond (nat_lt digit 10) (48 + digit) (cond (digit == blank) 32 63)

abbrev pub word_in : Result Answer Fault → Option ℕ
word_in (Ok (Word value)) = Some value
word_in (Ok Done) = None
word_in (Err fault) = None

abbrev pub word_at : List (Result Answer Fault) → ℕ → Option ℕ
word_at answers place = word_in (slice_index_or answers place (Ok Done))

abbrev pub row : ℕ → ℕ → ℕ → Row
row hundreds tens ones = record { hundreds = hundreds; tens = tens; ones = ones }

abbrev pub row_of : Option ℕ → Option ℕ → Option ℕ → Option Row
row_of None tens ones = None
row_of (Some h) None ones = None
row_of (Some h) (Some t) None = None
row_of (Some h) (Some t) (Some o) = Some (row h t o)

-- What the display shows of a row.
abbrev pub row_text : Row → List ℕ
row_text r = glyph_of r.hundreds ∷ glyph_of r.tens ∷ glyph_of r.ones ∷ []

-- The row that was answered from a place on.
abbrev pub row_at : List (Result Answer Fault) → ℕ → Option Row
row_at answers first = row_of (word_at answers first) (word_at answers (first + 1)) (word_at answers (first + 2))
