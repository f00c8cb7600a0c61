-- What one call of a board does: by the book, and by which calls of its port.
use Rattle.std.specs.Prelude.{◌≡◌, ℕ, [], ◌∷◌, Some, None, Ok, Err, Option, Result}
use Rattle.fault.specs.declared.Fault.{Fault}
use Rattle.fault.specs.declared.Refusal.{Refusal}
use Rattle.calls.specs.declared.call.Call.{Call}
use Rattle.port.specs.declared.Port.{Ghosts}
use Rattle.port.specs.Meaning.{read_answer, write_answer, snoop_answer, Kept}
use Rattle.port.specs.Steps.{reads, writes, advances, outsides, snoops, flushes, Chain, Drains, Through}
use Rattle.book.specs.declared.answer.Mode.{Mode}
use Rattle.book.specs.declared.answer.Answer.{Answer}
use Rattle.book.specs.declared.answer.Answer.TheVariants.{Done, Word}
use Rattle.book.specs.Tables.{stop, fault_of, Asks, nothing, drain, advance, flush, read, peek, snoop, write, through, outside, deed}
use Rattle.book.specs.Book.{book_of, Allowed, answer, step}

-- The answers of calls that give no word, and of calls that give one.
abbrev pub as_done : {X : Type 0} → Result X Fault → Result Answer Fault
as_done (Ok x) = Ok Done
as_done (Err fault) = Err fault

abbrev pub as_word : Result ℕ Fault → Result Answer Fault
as_word (Ok v) = Ok (Word v)
as_word (Err fault) = Err fault

-- The calls of the port that a call of the board makes. Settled reads change no port, and are not among them.
abbrev pub MakesBy : {P : Type 0} → Ghosts P → Asks → P → P → Type 0
MakesBy G nothing p q = q ≡ p
MakesBy G drain p q = Drains G.state G.does p q
MakesBy G advance p q = Chain G.does p (advances ∷ []) q
MakesBy G flush p q = Chain G.does p (flushes ∷ []) q
MakesBy G (read w) p q = Chain G.does p (reads w (read_answer (G.state p) w) ∷ []) q
MakesBy G (peek w) p q = q ≡ p
MakesBy G (snoop w) p q = Chain G.does p (snoops w (snoop_answer (G.state p) w) ∷ []) q
MakesBy G (write s) p q = Chain G.does p (writes s (write_answer (G.state p) s) ∷ []) q
MakesBy G (through s) p q = Through G.state G.does s (write_answer (G.state p) s) p q
MakesBy G (outside s) p q = Chain G.does p (outsides s (write_answer (G.state p) s) ∷ []) q

abbrev pub Makes : {P : Type 0} → Ghosts P → Call → P → P → Type 0
Makes G c p q = MakesBy G (deed c).asks p q

-- A call that the mode refuses reaches no port.
abbrev pub Reaches : Option Refusal → Type 0 → Type 0 → Type 0
Reaches None calls same = calls
Reaches (Some r) calls same = same

-- One call, from a board in mode m on the port p to one in mode n on the port q.
pub record Called {P : Type 0} (G : Ghosts P) (m : Mode) (p : P) (c : Call) (r : Result Answer Fault) (n : Mode) (q : P) : Type 0 where
  -- how many writes settled, the one thing that is not decided here
  pub count : ℕ
  pub allowed : Allowed (book_of m (G.state p)) c count
  pub answered : r ≡ answer (book_of m (G.state p)) c
  pub left : book_of n (G.state q) ≡ step (book_of m (G.state p)) c count
  pub made : Reaches (stop m c) (Makes G c p q) (q ≡ p)
  -- refused, the whole port is as it was, but for a word found unreadable
  pub kept : Kept r p q

-- A word read in a cycle of its own, which a call opens: where the mode refuses that call, its refusal is the answer.
abbrev pub cycle_answer : Option Refusal → ℕ → Call → Result ℕ Fault → Result ℕ Fault
cycle_answer None floor c r = r
cycle_answer (Some x) floor c r = Err (fault_of floor c x)
