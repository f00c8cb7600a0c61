-- The calls of the incident, and the rows that the processor must read.
use Rattle.std.specs.Prelude.{◌≡◌, ℕ, ◌<◌, Bool, true, false, cond, List, [], ◌∷◌, ◌++◌, Some, Option, Result}
use Rattle.fault.specs.declared.Fault.{Fault}
use Rattle.calls.specs.declared.call.Call.{Call}
use Rattle.calls.specs.declared.call.Call.TheVariants.{Read, Unposted, Advance, Ask, MasterWrite, Give, Flush}
use Rattle.port.specs.declared.Port.{Ghosts}
use Rattle.port.specs.declared.Store.{Store}
use Rattle.port.specs.Memory.{State, seen, line_of}
use Rattle.book.specs.declared.answer.Mode.{Mode}
use Rattle.book.specs.declared.answer.Answer.{Answer}
use Rattle.book.specs.Promise.{NeverAnOldDigit}
use Rattle.replay.specs.declared.row.Row.{Row}
use Rattle.replay.specs.Rows.{blank, row, row_at}

-- The words of the row, side by side in one line.
abbrev pub hundreds : ℕ
hundreds = 16

abbrev pub tens : ℕ
tens = 17

abbrev pub ones : ℕ
ones = 18

abbrev pub digit : ℕ → ℕ → Store
digit word value = record { word = word; lanes = 3; value = value }

abbrev pub reads_row : List Call
reads_row = Read hundreds ∷ Read tens ∷ Read ones ∷ []

-- The processor stores 1 9 5 and reads it, the line is forgotten, and a fill of it begins anew: two words are fetched.
abbrev pub up_to_the_grant : List Call
up_to_the_grant =
    Unposted (digit hundreds 1) ∷ Unposted (digit tens 9) ∷ Unposted (digit ones 5) ∷ (reads_row ++ (Flush ∷ Read hundreds ∷ Advance ∷ Ask ∷ []))

-- The display clears the hundreds, or does nothing.
abbrev pub clearing : Bool → List Call
clearing true = MasterWrite (digit hundreds blank) ∷ []
clearing false = []

abbrev pub incident_calls : Bool → List Call
incident_calls clears = up_to_the_grant ++ (clearing clears ++ (Give ∷ reads_row))

-- The words of the row are there, can be read, and take writes.
pub record RowStands (s : State) : Type 0 where
  pub there : ones < s.facts.words
  pub hundreds_readable : (seen s).readable hundreds ≡ true
  pub tens_readable : (seen s).readable tens ≡ true
  pub ones_readable : (seen s).readable ones ≡ true
  pub unprotected : s.protected (line_of hundreds) ≡ false

-- The calls were made on a board on the port, with these answers and with the whole promise about old digits.
pub record MadeOnABoard {P : Type 0} (G : Ghosts P) (p : P) (cs : List Call) (rs : List (Result Answer Fault)) (left : P) : Type 0 where
  pub mode : Mode
  pub promise : NeverAnOldDigit G p cs rs mode left

-- The answers to the last reading of the row begin here.
abbrev pub last_reading : Bool → ℕ
last_reading true = 12
last_reading false = 11

pub record RowsAreTheAnswers (clears : Bool) (rs : List (Result Answer Fault)) (before after : Option Row) : Type 0 where
  pub first_reading : before ≡ row_at rs 3
  pub from_last_reading : after ≡ row_at rs (last_reading clears)

-- Before the display has the bus the row is 1 9 5, and after it too, unless the display cleared the hundreds.
pub record ReadsTheNewestRow (clears : Bool) (before after : Option Row) : Type 0 where
  pub as_stored : before ≡ Some (row 1 9 5)
  pub as_cleared : after ≡ Some (row (cond clears blank 1) 9 5)
