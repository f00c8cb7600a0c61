-- What each call of a port answers, and what it does to the port's state.
use Rattle.std.specs.Prelude.{◌≡◌, ◌≢◌, ℕ, ◌-◌, ◌/◌, ◌^◌, ◌<◌, min, Bool, cond, ◌&&◌, List, ◌++◌, length, Ok, Err, Result, nat_le, nat_lt}
use Rattle.std.specs.Result.{result_and}
use Rattle.fault.specs.declared.Fault.{Fault}
use Rattle.fault.specs.declared.Refusal.TheVariants.{PastEnd, BadLanes, Unreadable}
use Rattle.port.specs.declared.Store.{Store}
use Rattle.port.specs.Memory.{Memory, Facts, State, seen, settling}

-- Refusals: past the end and lanes bear the floor of the port that was called, an unreadable word bears floor 0.
abbrev pub past_end : ℕ → ℕ → Fault
past_end place floor = record { refusal = PastEnd; place = place; floor = floor }

abbrev pub bad_lanes : ℕ → ℕ → Fault
bad_lanes place floor = record { refusal = BadLanes; place = place; floor = floor }

abbrev pub unreadable : ℕ → Fault
unreadable place = record { refusal = Unreadable; place = place; floor = 0 }

-- The checks of every port: range first, then lanes.
abbrev pub within : ℕ → ℕ → ℕ → Result (Unit {0}) Fault
within place end floor = cond (nat_lt place end) (Ok tt) (Err (past_end place floor))

abbrev pub laned : ℕ → Bool
laned lanes = nat_le 1 lanes && nat_le lanes 3

abbrev pub writable : ℕ → ℕ → ℕ → ℕ → Result (Unit {0}) Fault
writable place lanes end floor =
    result_and (within place end floor) (cond (laned lanes) (Ok tt) (Err (bad_lanes place floor)))

-- What is told of a word of some memory.
abbrev pub told : Facts → Memory → ℕ → Result ℕ Fault
told f m w = result_and (within w f.words f.floor) (cond (m.readable w) (Ok (m.word w)) (Err (unreadable w)))

-- The answers of a port's calls and questions.
abbrev pub read_answer : State → ℕ → Result ℕ Fault
read_answer s w = told s.facts (seen s) w

abbrev pub settled_answer : State → ℕ → Result ℕ Fault
settled_answer s w = told s.facts s.settled w

abbrev pub write_answer : State → Store → Result (Unit {0}) Fault
write_answer s w = writable w.word w.lanes s.facts.words s.facts.floor

abbrev pub snoop_answer : State → ℕ → Result (Unit {0}) Fault
snoop_answer s w = within w s.facts.words s.facts.floor

abbrev pub marks_answer : State → ℕ → Result (Bool × Bool) Fault
marks_answer s line =
    result_and (within line (s.facts.words / 8) s.facts.floor) (Ok (s.facts.cacheable line, s.protected line))

-- The waiting count stops at the largest number it can show.
abbrev pub waiting_answer : State → ℕ
waiting_answer s = min (length s.waiting) (2 ^ 32 - 1)

-- Settling: of the waiting line the oldest, as many as it may be, leave it in their order, each stored as it leaves.
pub record Settles (s t : State) : Type 0 where
  pub gone : List Store
  pub rest : List Store
  pub split : s.waiting ≡ gone ++ rest
  pub after : t ≡ settling gone rest s

-- An advance: where a write waits, one or more of the oldest settle.
pub record Advances (s t : State) : Type 0 where
  pub settles : Settles s t
  pub some : 0 < length s.waiting → length t.waiting < length s.waiting

-- One statement of an accepted call, another of a refused one.
abbrev pub ByAnswer : Result (Unit {0}) Fault → Type 0 → Type 0 → Type 0
ByAnswer (Ok _) accepted refused = accepted
ByAnswer (Err _) accepted refused = refused

-- What is refused leaves the whole port as it was, unless a word was found unreadable: then writes may have settled on the way, and a
-- stage may have changed what it keeps.
abbrev pub Kept : {X P : Type 0} → Result X Fault → P → P → Type 0
Kept (Ok _) p q = Unit {0}
Kept (Err fault) p q = (fault.refusal ≢ Unreadable) → q ≡ p
