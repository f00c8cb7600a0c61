-- The board's book: what each call answers and leaves, once it is said how many writes settle at it.
use Rattle.std.specs.Prelude.{◌≡◌, ℕ, ◌<◌, ◌≤◌, cond, List, [], ◌++◌, length, take, drop, Some, None, Ok, Err, Option, Result}
use Rattle.fault.specs.declared.Fault.{Fault}
use Rattle.fault.specs.declared.Refusal.{Refusal}
use Rattle.fault.specs.declared.Refusal.TheVariants.{Unreadable}
use Rattle.calls.specs.declared.call.Call.{Call}
use Rattle.port.specs.declared.Store.{Store}
use Rattle.port.specs.Memory.{Memory, State, applied, seen, posted, settling, drained}
use Rattle.book.specs.declared.answer.Mode.{Mode}
use Rattle.book.specs.declared.answer.Mode.TheVariants.{Free}
use Rattle.book.specs.declared.answer.Answer.{Answer}
use Rattle.book.specs.declared.answer.Answer.TheVariants.{Done, Word}
use Rattle.book.specs.Tables.{refusal, fault_of, if_taken, posts, masters_writes, goes_to, Rule, none, some, one_or_more, all, settles_by, Asks, nothing, drain, advance, flush, read, peek, snoop, write, through, outside, deed}

pub record Book : Type 0 where
  pub mode : Mode
  pub state : State

abbrev pub book_of : Mode → State → Book
book_of m s = record { mode = m; state = s }

-- A board is made free, and with nothing waiting: what was seen is the first content.
abbrev pub first : State → Book
first s = book_of Free (drained s)

abbrev pub refused : Book → Call → Option Refusal
refused b c = refusal b.mode b.state.facts.words c

-- The waiting line once the call's own has joined it.
abbrev pub joins : Book → Call → List Store
joins b c = if_taken (refused b c) (posts c) []

abbrev pub waiting_line : Book → Call → List Store
waiting_line b c = b.state.waiting ++ joins b c

-- A master's write goes past the waiting line, and settles at once.
abbrev pub masters : Book → Call → List Store
masters b c = if_taken (refused b c) (masters_writes c) []

-- The oldest k of the waiting writes settle.
abbrev pub settle : ℕ → State → State
settle k s = settling (take k s.waiting) (drop k s.waiting) s

abbrev pub mastered : List Store → State → State
mastered ws s = record s { settled = applied s.protected ws s.settled }

abbrev pub mode_after : Book → Call → Mode
mode_after b c = if_taken (refused b c) (goes_to b.mode c) b.mode

abbrev pub step : Book → Call → ℕ → Book
step b c k = book_of (mode_after b c) (settle k (posted (joins b c) (mastered (masters b c) b.state)))

-- How many may settle. A read that finds its word unreadable is taken as far as this goes.
abbrev pub rule : Book → Call → Rule
rule b c = if_taken (refused b c) (settles_by c) none

abbrev pub Admits : Rule → ℕ → ℕ → Type 0
Admits none waiting k = k ≡ 0
Admits some waiting k = k ≤ waiting
Admits one_or_more waiting k = (k ≤ waiting) × (0 < waiting → 0 < k)
Admits all waiting k = k ≡ waiting

abbrev pub Allowed : Book → Call → ℕ → Type 0
Allowed b c k = Admits (rule b c) (length (waiting_line b c)) k

-- What a call that is taken says: a processor's read the seen word, a locked or a master's read the settled one.
abbrev pub reading : Memory → ℕ → Result Answer Refusal
reading m w = cond (m.readable w) (Ok (Word (m.word w))) (Err Unreadable)

abbrev pub told_of : State → Asks → Result Answer Refusal
told_of s nothing = Ok Done
told_of s drain = Ok Done
told_of s advance = Ok Done
told_of s flush = Ok Done
told_of s (read w) = reading (seen s) w
told_of s (peek w) = reading s.settled w
told_of s (snoop w) = Ok Done
told_of s (write x) = Ok Done
told_of s (through x) = Ok Done
told_of s (outside x) = Ok Done

abbrev pub says : State → Call → Result Answer Refusal
says s c = told_of s (deed c).asks

abbrev pub unless : Option Refusal → Result Answer Refusal → Result Answer Refusal
unless None r = r
unless (Some x) r = Err x

abbrev pub verdict : Book → Call → Result Answer Refusal
verdict b c = unless (refused b c) (says b.state c)

abbrev pub told : ℕ → Call → Result Answer Refusal → Result Answer Fault
told floor c (Ok a) = Ok a
told floor c (Err r) = Err (fault_of floor c r)

-- The answer, with place and floor of a refusal.
abbrev pub answer : Book → Call → Result Answer Fault
answer b c = told b.state.facts.floor c (verdict b c)
