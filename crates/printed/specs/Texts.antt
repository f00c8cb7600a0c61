-- The text of every line that headcard prints.
use Rattle.std.specs.Prelude.{ℕ, ◌/◌, ◌%◌, ◌^◌, true, List, [], ◌∷◌, ◌++◌, Ok, Err, codes, decimal, Result}
use Rattle.std.specs.Fmt.{digit_glyph}
use Rattle.fault.specs.declared.Fault.{Fault}
use Rattle.fault.specs.declared.Refusal.{Refusal}
use Rattle.fault.specs.declared.Refusal.TheVariants.{UnfitSize}
use Rattle.fault.specs.Numbers.{number_of}
use Rattle.fault.specs.Texts.{fault_text}
use Rattle.calls.specs.Calls.{name_of}
use Rattle.book.specs.declared.answer.Answer.{Answer}
use Rattle.book.specs.declared.answer.Answer.TheVariants.{Done, Word}
use Rattle.printed.specs.declared.Printed.{Printed}
use Rattle.printed.specs.declared.Printed.TheVariants.{Words, Answered, Refused, Waiting}

-- A word is written as four capital hexadecimal digits.
abbrev pub hex_digit : ℕ → List ℕ
hex_digit n = digit_glyph true n ∷ []

abbrev pub hex_word : ℕ → List ℕ
hex_word v = hex_digit (v / 2 ^ 12) ++ (hex_digit (v / 2 ^ 8 % 16) ++ (hex_digit (v / 16 % 16) ++ hex_digit (v % 16)))

-- What a call came to.
abbrev pub outcome_text : Result Answer Fault → List ℕ
outcome_text (Ok Done) = codes "ok"
outcome_text (Ok (Word v)) = hex_word v
outcome_text (Err fault) = fault_text fault

-- What was refused as a whole: the card for its size, else the list.
abbrev pub whole_of : Refusal → List ℕ
whole_of UnfitSize = codes "card"
whole_of other = codes "list"

abbrev pub text_of : Printed → List ℕ
text_of (Words words) = codes "board " ++ (decimal words ++ codes " words")
text_of (Answered number call answer) = decimal number ++ (codes " " ++ (name_of call ++ (codes " " ++ outcome_text answer)))
text_of (Refused fault) = whole_of fault.refusal ++ (codes " refused " ++ (decimal (number_of fault.refusal) ++ (codes " at " ++ decimal fault.place)))
text_of (Waiting count) = codes "waiting " ++ decimal count
