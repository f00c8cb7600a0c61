-- A map of two ports, the high one after the low one, as one port on which nothing waits.
use Rattle.std.specs.Prelude.{◌≡◌, ℕ, ◌+◌, ◌-◌, ◌*◌, ◌/◌, ◌%◌, ◌<◌, ◌≤◌, max, cond, [], Ok, Err, Result, nat_lt}
use Rattle.fault.specs.declared.Fault.{Fault}
use Rattle.port.specs.declared.Store.{Store}
use Rattle.port.specs.Memory.{State, floor_above}
use Rattle.banks.specs.Sizes.{words_of_lines}

-- What stands at a number: of the low side below its end, else of the high side, counted from there.
abbrev pub side : {X : Type 0} → ℕ → (ℕ → X) → (ℕ → X) → ℕ → X
side end low high number = cond (nat_lt number end) (low number) (high (number - end))

-- One floor above the higher of the sides.
abbrev pub joint_floor : ℕ → ℕ → ℕ
joint_floor low high = floor_above (max low high)

abbrev pub joint_state : State → State → State
joint_state a b = record {
  facts = record {
    words = words_of_lines ((a.facts.words + b.facts.words) / 8);
    floor = joint_floor a.facts.floor b.facts.floor;
    cacheable = side (a.facts.words / 8) a.facts.cacheable b.facts.cacheable;
  };
  protected = side (a.facts.words / 8) a.protected b.protected;
  settled = record {
    word = side a.facts.words a.settled.word b.settled.word;
    readable = side a.facts.words a.settled.readable b.settled.readable;
  };
  waiting = [];
}

-- Words and lines of the low side keep their numbers, those of the high side come after them. All of both are there, if that is no more than
-- a port may have. The floor is one above the higher side's.
pub record HighFollowsLow (a b : State) : Type 0 where
  pub all : a.facts.words % 8 ≡ 0 → b.facts.words % 8 ≡ 0 → 1 ≤ a.facts.words + b.facts.words → a.facts.words + b.facts.words ≤ 8388608 →
      (joint_state a b).facts.words ≡ a.facts.words + b.facts.words
  pub none : 8388608 < a.facts.words + b.facts.words → a.facts.words % 8 ≡ 0 → b.facts.words % 8 ≡ 0 → (joint_state a b).facts.words ≡ 0
  pub low_word : (w : ℕ) → w < a.facts.words → ((joint_state a b).settled.word w ≡ a.settled.word w) × ((joint_state a b).settled.readable w ≡ a.settled.readable w)
  pub high_word : (w : ℕ) →
      ((joint_state a b).settled.word (a.facts.words + w) ≡ b.settled.word w) × ((joint_state a b).settled.readable (a.facts.words + w) ≡ b.settled.readable w)
  pub low_line : (k : ℕ) → k * 8 + 8 ≤ a.facts.words → ((joint_state a b).facts.cacheable k ≡ a.facts.cacheable k) × ((joint_state a b).protected k ≡ a.protected k)
  pub high_line : (k : ℕ) →
      ((joint_state a b).facts.cacheable (a.facts.words / 8 + k) ≡ b.facts.cacheable k) × ((joint_state a b).protected (a.facts.words / 8 + k) ≡ b.protected k)
  pub floor_low : b.facts.floor ≤ a.facts.floor → (joint_state a b).facts.floor ≡ floor_above a.facts.floor
  pub floor_high : a.facts.floor ≤ b.facts.floor → (joint_state a b).facts.floor ≡ floor_above b.facts.floor

-- Nothing waits on either side.
pub record Still (a b : State) : Type 0 where
  pub low : a.waiting ≡ []
  pub high : b.waiting ≡ []

-- A fault of the high side has its place shifted by the low side's words.
abbrev pub shifted : {X : Type 0} → ℕ → Result X Fault → Result X Fault
shifted by (Ok x) = Ok x
shifted by (Err fault) = Err (record { refusal = fault.refusal; place = fault.place + by; floor = fault.floor })

-- A write as the high side counts words.
abbrev pub lowered : ℕ → Store → Store
lowered by w = record { word = w.word - by; lanes = w.lanes; value = w.value }
