-- What holds of a directory and of a fill, and of what is done to them.
use Rattle.std.specs.Prelude.{◌≡◌, ℕ, zero, suc, ◌+◌, ◌*◌, ◌/◌, ◌%◌, ◌^◌, ◌<◌, ◌≤◌, true, false, cond, ◌≢◌, List, [], ◌∷◌, replicate, find, is_some, Some, None, Option, ◌==◌, nat_lt, count_ones}
use Rattle.directory.specs.declared.lru.LruBits.{LruBits}
use Rattle.directory.specs.declared.lru.WayNumber.{WayNumber}
use Rattle.directory.specs.declared.lru.WayNumber.TheVariants.{Zero, One, Two, Three}
use Rattle.directory.specs.declared.sets.Way.{Way}
use Rattle.directory.specs.declared.fills.Fill.{Fill}
use Rattle.directory.specs.Touch.{index_of, same_way, touched_bits, victim_of}
use Rattle.directory.specs.Dirs.{Dir, set_of, tag_of, emptied, put, holds, found, twins, installed, valid_ways}
use Rattle.directory.specs.Ticks.{ticked, tick, offset_at, next_word, fetched_word}

-- The way just touched is never the next victim.
abbrev pub TouchedWayIsSpared : Type 0
TouchedWayIsSpared = (m : LruBits) (k : WayNumber) → victim_of (touched_bits m k) ≢ k

-- The victims of a set where each takes in a line, and nothing else is touched.
abbrev pub victims : ℕ → LruBits → List WayNumber
victims zero m = []
victims (suc n) m = victim_of m ∷ victims n (touched_bits m (victim_of m))

-- The two ways touched last are not the next victim, and each way is one of the next four.
pub record VictimsGoRound : Type 0 where
  pub two : (m : LruBits) (j k : WayNumber) → victim_of (touched_bits (touched_bits m j) k) ≢ j
  pub four : (m : LruBits) (k : WayNumber) → is_some (find (same_way k) (victims 4 m)) ≡ true

-- A touch sets the bit of the pairs, and the bit of its way within its pair. The other pair's bit stays.
pub record TouchSetsItsPair (before after : LruBits) (k : WayNumber) : Type 0 where
  pub pair : after.m0 ≡ nat_lt (index_of k) 2
  pub first : index_of k < 2 → (after.m1 ≡ (index_of k == 0)) × (after.m2 ≡ before.m2)
  pub second : 2 ≤ index_of k → (after.m2 ≡ (index_of k == 2)) × (after.m1 ≡ before.m1)

abbrev pub EachTouchSetsItsPair : Type 0
EachTouchSetsItsPair = (m : LruBits) (k : WayNumber) → TouchSetsItsPair m (touched_bits m k) k

-- Of the LRU bits of a directory, those of the line's set are as after a touch of way k, and the others stay.
pub record WayIsTouched (before after : Dir) (line : ℕ) (k : WayNumber) : Type 0 where
  pub lru : TouchSetsItsPair (before.lru (set_of line)) (after.lru (set_of line)) k
  pub others : (i : ℕ) → i ≢ set_of line → after.lru i ≡ before.lru i

-- Line 256 t + k is of set k, and t is its tag.
pub record LinesAreDealtToSets : Type 0 where
  pub set : (t k : ℕ) → k < 256 → set_of (256 * t + k) ≡ k
  pub tag : (t k : ℕ) → k < 256 → tag_of (256 * t + k) ≡ t

-- No two valid ways of a set have the same tag.
abbrev pub TagsAreApart : Dir → Type 0
TagsAreApart d = (i : ℕ) (j k : WayNumber) → twins d i j k ≡ false

-- A line is found in the one way that holds it, and not found where none does.
pub record OneWayHoldsALine (d : Dir) : Type 0 where
  pub one : (line : ℕ) (j k : WayNumber) → holds d line j ≡ true → holds d line k ≡ true → j ≡ k
  pub finds : (line : ℕ) (k : WayNumber) → holds d line k ≡ true → found d line ≡ Some k
  pub held : (line : ℕ) (k : WayNumber) → found d line ≡ Some k → holds d line k ≡ true
  pub none : (line : ℕ) → found d line ≡ None → (k : WayNumber) → holds d line k ≡ false

-- A touch changes the LRU bits of its set, and nothing else.
pub record OnlyBitsOfOneSet (before after : Dir) (i : ℕ) : Type 0 where
  pub ways : after.way ≡ before.way
  pub others : (j : ℕ) → j ≢ i → after.lru j ≡ before.lru j

-- A line just installed is found in its way, which is touched, and every other line that was found and not displaced is found where it was.
-- The one displaced is found no more, and no other line has come.
pub record InstallKeepsOtherLines (before after : Dir) (line : ℕ) (k : WayNumber) : Type 0 where
  pub new : found after line ≡ Some k
  pub touch : WayIsTouched before after line k
  pub others : (other : ℕ) (j : WayNumber) → found before other ≡ Some j → (set_of other ≡ set_of line → j ≢ k) → found after other ≡ Some j
  pub displaced : (other : ℕ) → other ≢ line → set_of other ≡ set_of line → found before other ≡ Some k → found after other ≡ None
  pub no_more : (other : ℕ) → other ≢ line → found before other ≡ None → found after other ≡ None

-- The ways that lines come into one after another, each the victim of its moment.
abbrev pub ways_taken : Dir → List ℕ → List WayNumber
ways_taken d [] = []
ways_taken d (line ∷ lines) =
    victim_of (d.lru (set_of line)) ∷ ways_taken (installed d line (victim_of (d.lru (set_of line))) false (replicate 8 0)) lines

-- Five lines of set 196 come into an empty directory: one into each way, and the fifth into the way of the first.
abbrev pub FiveLinesTakeTheWaysInTurn : Type 0
FiveLinesTakeTheWaysInTurn = ways_taken emptied (196 ∷ 452 ∷ 708 ∷ 964 ∷ 1220 ∷ []) ≡ Zero ∷ Two ∷ One ∷ Three ∷ Zero ∷ []

-- A line just dropped is not found, and every other line is found where it was; the LRU bits stay.
pub record DropForgetsOneLine (before after : Dir) (line : ℕ) : Type 0 where
  pub gone : found after line ≡ None
  pub others : (other : ℕ) → other ≢ line → found after other ≡ found before other
  pub lru : after.lru ≡ before.lru

-- A changed word moves no line.
abbrev pub ChangeMovesNoLine : Dir → Dir → Type 0
ChangeMovesNoLine before after = (line : ℕ) → found after line ≡ found before line

-- 1 for a way that holds something, else 0.
abbrev pub as_one : Option Way → ℕ
as_one o = cond (is_some o) 1 0

-- An empty directory has no valid way, and what comes into a way counts instead of what was there.
pub record EachValidWayCounts : Type 0 where
  pub none : valid_ways emptied ≡ 0
  pub one : (d : Dir) (i : ℕ) (k : WayNumber) (w : Option Way) → i < 256 → valid_ways (put d i k w) + as_one (d.way i k) ≡ valid_ways d + as_one w

-- The first offset, with those of its three bits turned that the step has.
abbrev pub turned : ℕ → ℕ → ℕ
turned first step = (first + step) % 2 + (first / 2 + step / 2) % 2 * 2 + (first / 4 + step / 4) % 2 * 4

-- The eight steps visit each offset of the line, and none twice, whatever the first. A fill goes in this order: its first word's neighbour next, then the other pair of its half line,
-- then the other half alike.
pub record FillFetchesEachWordOnce : Type 0 where
  pub within : (first step : ℕ) → first < 8 → step < 8 → offset_at first step < 8
  pub reached : (first offset : ℕ) → first < 8 → offset < 8 → (step : ℕ) × (step < 8) × (offset_at first step ≡ offset)
  pub once : (first j k : ℕ) → first < 8 → j < 8 → k < 8 → offset_at first j ≡ offset_at first k → j ≡ k
  pub order : (b : Fill) → b.first < 8 → count_ones b.ticks < 8 → next_word b ≡ b.line * 8 + turned b.first (count_ones b.ticks)

-- Ticking a new offset adds one.
abbrev pub NewTickAddsOne : Type 0
NewTickAddsOne = (ticks offset : ℕ) → ticks < 2 ^ 8 → offset < 8 → ticked ticks offset ≡ false → count_ones (tick ticks offset) ≡ count_ones ticks + 1

-- Eight ones mean that every offset is there.
abbrev pub EightTicksAreAll : Type 0
EightTicksAreAll = (ticks offset : ℕ) → ticks < 2 ^ 8 → offset < 8 → count_ones ticks ≡ 8 → ticked ticks offset ≡ true

-- The word that was fetched next is there from then on, and of the other words the same are there as before.
pub record StoreAddsItsWord (before after : Fill) (value : ℕ) : Type 0 where
  pub new : fetched_word after (next_word before) ≡ Some value
  pub others : (word : ℕ) → word ≢ next_word before → fetched_word after word ≡ fetched_word before word
