-- Everything that is written for a call list.
use Rattle.std.specs.Prelude.{ℕ, ◌+◌, List, [], ◌∷◌, ◌++◌, None, Some, Ok, Err, IfOk, Option, Result}
use Rattle.std.specs.Result.{IsErr}
use Rattle.std.specs.Io.KnownBytes.{Appends}
use Rattle.fault.specs.declared.Fault.{Fault}
use Rattle.calls.specs.declared.call.Call.{Call}
use Rattle.calls.specs.declared.error.Stop.{Stop}
use Rattle.calls.specs.declared.error.Stop.TheVariants.{Refused as Turned, Memory}
use Rattle.book.specs.declared.answer.Answer.{Answer}
use Rattle.printed.specs.declared.Printed.{Printed}
use Rattle.printed.specs.declared.Printed.TheVariants.{Words, Answered, Refused, Waiting}
use Rattle.printed.specs.Texts.{text_of}
use Rattle.card.specs.declared.whole.CardRun.{CardRun}
use Rattle.card.specs.declared.whole.NotRun.{NotRun}

-- A line of output, with its end.
abbrev pub printed_line : Printed → List ℕ
printed_line p = text_of p ++ (10 ∷ [])

-- How many words the board has, unless it cannot be made.
abbrev pub header : Result ℕ Fault → List ℕ
header (Ok words) = printed_line (Words words)
header (Err fault) = []

-- Each call with its answer, numbered from n.
abbrev pub answered_lines : ℕ → List Call → List (Result Answer Fault) → List ℕ
answered_lines n [] rs = []
answered_lines n (c ∷ cs) [] = []
answered_lines n (c ∷ cs) (r ∷ rs) = printed_line (Answered n c r) ++ answered_lines (n + 1) cs rs

-- A list that was refused is one line; want of memory has no text.
abbrev pub stop_text : Stop → Option (List ℕ)
stop_text (Turned fault) = Some (printed_line (Refused fault))
stop_text Memory = None

-- A list that was run is each call with its answer, numbered from 1, and how many writes wait in the end.
abbrev pub text_after : Result CardRun NotRun → Option (List ℕ)
text_after (Ok run) = Some (answered_lines 1 run.calls.items run.answers.items ++ printed_line (Waiting run.waiting))
text_after (Err none) = stop_text none.stop

abbrev pub headed : List ℕ → Option (List ℕ) → Option (List ℕ)
headed head (Some text) = Some (head ++ text)
headed head None = None

-- All that is written for what a list came to on a card of that size.
abbrev pub output_of : Result ℕ Fault → Result CardRun NotRun → Option (List ℕ)
output_of size outcome = headed (header size) (text_after outcome)

-- A writer that held `old` holds all of the text too, unless writing it failed; where there is no text it fails.
abbrev pub Wrote : {X E : Type 0} → Option (List ℕ) → Result X E → Option (List ℕ) → (X → Option (List ℕ)) → Type 0
Wrote (Some text) written old contents = IfOk written (λ x. Appends old (contents x) text)
Wrote None written old contents = IsErr written
