-- Many calls one after another, and the record that they leave.
use Rattle.std.specs.Prelude.{◌≡◌, ◌≢◌, ℕ, ◌+◌, Bool, List, [], ◌∷◌, ◌++◌, map, take, drop, Ok, Err, Result}
use Rattle.fault.specs.declared.Fault.{Fault}
use Rattle.fault.specs.Numbers.{number_of}
use Rattle.calls.specs.declared.call.Call.{Call}
use Rattle.calls.specs.declared.call.Call.TheVariants.{Write as Post, Unposted, Lock, LockedWrite, Unlock, Ask, MasterWrite, Give, MasterRead}
use Rattle.port.specs.declared.Store.{Store}
use Rattle.port.specs.Memory.{line_of}
use Rattle.book.specs.declared.answer.Mode.{Mode}
use Rattle.book.specs.declared.answer.Mode.TheVariants.{Free, Locked, Granted}
use Rattle.book.specs.declared.answer.Answer.{Answer}
use Rattle.book.specs.declared.answer.Answer.TheVariants.{Done}
use Rattle.book.specs.Book.{Book, step, answer, Allowed}

-- One call of a run, its answer, and how many of the waiting writes settled at it.
pub record Moment : Type 0 where
  pub call : Call
  pub answer : Result Answer Fault
  pub count : ℕ

abbrev pub moment : Call → Result Answer Fault → ℕ → Moment
moment c r k = record { call = c; answer = r; count = k }

abbrev pub calls_of : List Moment → List Call
calls_of = map (λ m. m.call)

abbrev pub answers_of : List Moment → List (Result Answer Fault)
answers_of = map (λ m. m.answer)

-- THE BOOK, moment after moment

abbrev pub after : Book → List Moment → Book
after b [] = b
after b (m ∷ ms) = after (step b m.call m.count) ms

-- Each answer is the book's, and each count one that it allows.
abbrev pub Follows : Book → List Moment → Type 0
Follows b [] = Unit {0}
Follows b (m ∷ ms) = Allowed b m.call m.count × (m.answer ≡ answer b m.call) × Follows (step b m.call m.count) ms

-- THE LEDGER, read without the book: a write was accepted if its call was answered as done

abbrev pub if_ok : {X : Type 0} → Result Answer Fault → List X → List X
if_ok (Ok a) xs = xs
if_ok (Err fault) xs = []

-- The write that a call brings: the processor's, and the display unit's.
abbrev pub own_write : Call → List Store
own_write (Post s) = s ∷ []
own_write (Unposted s) = s ∷ []
own_write (LockedWrite s) = s ∷ []
own_write other = []

abbrev pub masters_write : Call → List Store
masters_write (MasterWrite s) = s ∷ []
masters_write other = []

-- A write, and whether its line was protected when it was taken.
pub record Entry : Type 0 where
  pub write : Store
  pub protected : Bool

abbrev pub entry_of : (ℕ → Bool) → Store → Entry
entry_of p w = record { write = w; protected = p (line_of w.word) }

abbrev pub marked : (ℕ → Bool) → List Store → List Entry
marked p ws = map (entry_of p) ws

-- The writes of a run, each list with the oldest first.
pub record Ledger : Type 0 where
  -- the processor's that wait
  pub waiting : List Entry
  -- those that have settled: a master's at its call, a processor's as it leaves the waiting line
  pub settled : List Entry
  -- the processor's among those
  pub own : List Entry
  -- the processor's accepted writes, in the order of their calls
  pub accepted : List Entry

abbrev pub no_entries : Ledger
no_entries = record { waiting = []; settled = []; own = []; accepted = [] }

abbrev pub joining_entries : (ℕ → Bool) → Moment → List Entry
joining_entries p m = marked p (if_ok m.answer (own_write m.call))

abbrev pub masters_entries : (ℕ → Bool) → Moment → List Entry
masters_entries p m = marked p (if_ok m.answer (masters_write m.call))

abbrev pub entered : (ℕ → Bool) → Ledger → Moment → Ledger
entered p l m = record {
  waiting = drop m.count (l.waiting ++ joining_entries p m);
  settled = l.settled ++ (masters_entries p m ++ take m.count (l.waiting ++ joining_entries p m));
  own = l.own ++ take m.count (l.waiting ++ joining_entries p m);
  accepted = l.accepted ++ joining_entries p m;
}

abbrev pub ledger : (ℕ → Bool) → Ledger → List Moment → Ledger
ledger p l [] = l
ledger p l (m ∷ ms) = ledger p (entered p l m) ms

abbrev pub total : List Moment → ℕ
total [] = 0
total (m ∷ ms) = m.count + total ms

-- No master's write was accepted.
abbrev pub Quiet : List Moment → Type 0
Quiet [] = Unit {0}
Quiet (m ∷ ms) = (if_ok m.answer (masters_write m.call) ≡ []) × Quiet ms

-- The writes of the lock's holder: locked-writes that were answered as done.
abbrev pub locked_write : Call → List Store
locked_write (LockedWrite s) = s ∷ []
locked_write other = []

abbrev pub locked_writes : List Moment → List Store
locked_writes [] = []
locked_writes (m ∷ ms) = if_ok m.answer (locked_write m.call) ++ locked_writes ms

-- No unlock was answered as done.
abbrev pub NoneUnlocks : List Moment → Type 0
NoneUnlocks [] = Unit {0}
NoneUnlocks (m ∷ ms) = (m.call ≡ Unlock → m.answer ≢ Ok Done) × NoneUnlocks ms

-- THE MODE, read off the answers

abbrev pub leads_to : Mode → Call → Mode
leads_to n Lock = Locked
leads_to n Unlock = Free
leads_to n Ask = Granted
leads_to n Give = Free
leads_to n other = n

abbrev pub moved : Mode → Call → Result Answer Fault → Mode
moved n c (Ok a) = leads_to n c
moved n c (Err fault) = n

abbrev pub mode_by : Mode → List Moment → Mode
mode_by n [] = n
mode_by n (m ∷ ms) = mode_by (moved n m.call m.answer) ms

-- WHAT IS HEARD: words that the processor reads, and refusals by number and place; not what a master reads, nor floors

pub record Turned : Type 0 where
  pub number : ℕ
  pub place : ℕ

-- What a master reads is heard as done.
abbrev pub unread : Call → Answer → Answer
unread (MasterRead w) a = Done
unread other a = a

abbrev pub heard : Call → Result Answer Fault → Result Answer Turned
heard c (Ok a) = Ok (unread c a)
heard c (Err fault) = Err (record { number = number_of fault.refusal; place = fault.place })

abbrev pub all_heard : List Moment → List (Result Answer Turned)
all_heard [] = []
all_heard (m ∷ ms) = heard m.call m.answer ∷ all_heard ms
