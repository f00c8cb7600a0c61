-- The answers to the calls of the incident, on every board whose row stands, and the rows taken out of them.
use Rattle.std.proofs.Common.{sym, ◌≡◌, ℕ, ◌+◌, Bool, true, false, cond, ltb, List, [], ◌∷◌, ◌++◌, Some, Ok, Option, Result, refl, ap, ◌∙◌, subst, arith, lt-ltb}
use mir.Val.{bool_byte}
use Rattle.fault.specs.declared.Fault.{Fault}
use Rattle.calls.specs.declared.call.Call.{Call}
use Rattle.calls.specs.declared.call.Call.TheVariants.{Give}
use Rattle.port.specs.declared.Port.{Ghosts}
use Rattle.port.specs.Memory.{Memory, State, seen, stored}
use Rattle.book.specs.declared.answer.Mode.{Mode}
use Rattle.book.specs.declared.answer.Mode.TheVariants.{Free, Granted}
use Rattle.book.specs.declared.answer.Answer.{Answer}
use Rattle.book.specs.declared.answer.Answer.TheVariants.{Done, Word}
use Rattle.book.specs.Book.{first}
use Rattle.book.specs.Promise.{NeverAnOldDigit}
use Rattle.replay.specs.declared.row.Row.{Row}
use Rattle.replay.specs.Rows.{blank, row, row_at}
use Rattle.replay.specs.Incident.{hundreds, tens, ones, reads_row, clearing, incident_calls, digit, last_reading, RowStands, MadeOnABoard, RowsAreTheAnswers, ReadsTheNewestRow}
use Rattle.replay.proofs.Forcing.{still, AllForced, over, then, forced_answers, unposted, reads, flushes, advances, asks, clears, gives}

-- Memory in which the row's words are a, b and c.
record Holds (mem : Memory) (a b c : ℕ) : Type 0 where
  h : mem.word hundreds ≡ a
  t : mem.word tens ≡ b
  o : mem.word ones ≡ c

abbrev stores195 : State → Memory
stores195 s = stored s.protected (digit ones 5) (stored s.protected (digit tens 9) (stored s.protected (digit hundreds 1) (seen s)))

abbrev clears_it : State → Memory
clears_it s = stored s.protected (digit hundreds blank) (stores195 s)

holds195 : (s : State) → RowStands s → Holds (stores195 s) 1 9 5
holds195 s stands = record { h = rw stands.unprotected; t = rw stands.unprotected; o = rw stands.unprotected }

holds_clear : (s : State) → RowStands s → Holds (clears_it s) blank 9 5
holds_clear s stands = record { h = rw stands.unprotected; t = rw stands.unprotected; o = rw stands.unprotected }

abbrev words : ℕ → ℕ → ℕ → List (Result Answer Fault)
words a b c = Ok (Word a) ∷ Ok (Word b) ∷ Ok (Word c) ∷ []

-- The three reads of the row, and calls after them.
row_then : (s : State) (mem : Memory) (a b c : ℕ) {cs : List Call} {rs : List (Result Answer Fault)} → RowStands s → mem.readable ≡ (seen s).readable → Holds mem a b c
    → AllForced (still Free s mem) cs rs → AllForced (still Free s mem) (reads_row ++ cs) (words a b c ++ rs)
row_then s mem a b c stands same holds more =
    let at : (w : ℕ) → (seen s).readable w ≡ true → mem.readable w ≡ true = λ w can. ap (λ (f : ℕ → Bool). f w) same ∙ can in
    then (reads s mem hundreds a (lt-ltb hundreds s.facts.words (omega arith)) (at hundreds stands.hundreds_readable) holds.h)
    (then (reads s mem tens b (lt-ltb tens s.facts.words (omega arith)) (at tens stands.tens_readable) holds.t)
    (then (reads s mem ones c (lt-ltb ones s.facts.words stands.there) (at ones stands.ones_readable) holds.o) more))

-- What is answered once the display has been granted the bus.
abbrev late_answers : Bool → List (Result Answer Fault)
late_answers true = Ok Done ∷ Ok Done ∷ words blank 9 5
late_answers false = Ok Done ∷ words 1 9 5

abbrev incident_answers : Bool → List (Result Answer Fault)
incident_answers clear = Ok Done ∷ Ok Done ∷ Ok Done ∷ (words 1 9 5 ++ (Ok Done ∷ Ok (Word 1) ∷ Ok Done ∷ Ok Done ∷ late_answers clear))

late_forced : (s : State) (clear : Bool) → RowStands s → AllForced (still Granted s (stores195 s)) (clearing clear ++ (Give ∷ reads_row)) (late_answers clear)
late_forced s true stands =
    then (clears s (stores195 s) hundreds blank (lt-ltb hundreds s.facts.words (omega arith)))
    (then (gives s (clears_it s)) (row_then s (clears_it s) blank 9 5 stands refl (holds_clear s stands) over))
late_forced s false stands = then (gives s (stores195 s)) (row_then s (stores195 s) 1 9 5 stands refl (holds195 s stands) over)

incident_forced : (s : State) (clear : Bool) → RowStands s → AllForced (first s) (incident_calls clear) (incident_answers clear)
incident_forced s clear stands =
    let in_range_lem : ltb hundreds s.facts.words ≡ true = lt-ltb hundreds s.facts.words (omega arith) in
    then (unposted s _ hundreds 1 in_range_lem)
    (then (unposted s _ tens 9 (lt-ltb tens s.facts.words (omega arith)))
    (then (unposted s _ ones 5 (lt-ltb ones s.facts.words stands.there))
    (row_then s (stores195 s) 1 9 5 stands refl (holds195 s stands)
    (then (flushes s (stores195 s))
    (then (reads s (stores195 s) hundreds 1 in_range_lem stands.hundreds_readable (holds195 s stands).h)
    (then (advances s (stores195 s)) (then (asks s (stores195 s)) (late_forced s clear stands))))))))

last_row : (clear : Bool) → row_at (incident_answers clear) (last_reading clear) ≡ Some (row (cond clear blank 1) 9 5)
last_row true = refl
last_row false = refl

-- A clear puts the last reading one answer later.
one_later : (clear : Bool) → 11 + bool_byte clear ≡ last_reading clear
one_later true = refl
one_later false = refl

pub made_with : {P : Type 0} (G : Ghosts P) (p : P) (cs ds : List Call) (rs : List (Result Answer Fault)) (m : Mode) (q : P)
    → cs ≡ ds → NeverAnOldDigit G p cs rs m q → MadeOnABoard G p ds rs q
made_with G p cs ds rs m q list h = record { mode = m; promise = subst (λ (x : List Call). NeverAnOldDigit G p x rs m q) list h }

-- The rows, where the answers were looked at twice.
pub rows_taken : (clear : Bool) (rs one two : List (Result Answer Fault)) (later : ℕ) (before after : Option Row) → one ≡ rs → two ≡ rs → later ≡ bool_byte clear
    → before ≡ row_at one 3 → after ≡ row_at two (11 + later) → RowsAreTheAnswers clear rs before after
rows_taken clear rs one two later before after e f shift early late = record {
  first_reading = early ∙ ap (λ (x : List (Result Answer Fault)). row_at x 3) e;
  from_last_reading = late ∙ (ap (λ (x : List (Result Answer Fault)). row_at x (11 + later)) f ∙ ap (row_at rs) (ap (λ (n : ℕ). 11 + n) shift ∙ one_later clear));
}

pub rows_read : {P : Type 0} (G : Ghosts P) (p q : P) (clear : Bool) (rs : List (Result Answer Fault)) (before after : Option Row)
    → MadeOnABoard G p (incident_calls clear) rs q → RowsAreTheAnswers clear rs before after → RowStands (G.state p) → ReadsTheNewestRow clear before after
rows_read G p q clear rs before after made taken stands =
    let run = made.promise in
    let all : rs ≡ incident_answers clear = sym run.answers ∙ forced_answers run.run (incident_forced (G.state p) clear stands) run.calls run.follows_the_book in
    record {
      as_stored = taken.first_reading ∙ ap (λ (x : List (Result Answer Fault)). row_at x 3) all;
      as_cleared = taken.from_last_reading ∙ (ap (λ (x : List (Result Answer Fault)). row_at x (last_reading clear)) all ∙ last_row clear);
    }
