-- Ticks and offsets: facts of small numbers, by one computed test each.
use Rattle.std.proofs.Common.{◌≡◌, ℕ, zero, suc, ◌+◌, ◌*◌, ◌%◌, ◌^◌, ◌<◌, Bool, true, false, cond, not, ◌&&◌, ◌||◌, eqb, ltb, ◌≢◌, get_or, set, Some, None, sym, refl, ap, ◌∙◌, subst, ap₂, inl, inr, add-one, arith, length-set, count_ones}
use lib.Bits.{bit_or}
use lib.Count.{ones, ones_in}
use Rattle.std.proofs.lemmas.Nat.{one_shl, div-mul-add, mod-mul-add}
use Rattle.std.proofs.lemmas.List.{get_or-set_same, get_or-set_other}
use Rattle.std.proofs.lemmas.Bool.Decides.{Decides-below_and}
use Rattle.std.proofs.lemmas.Bool.{or_cases, eqb-true, eq-eqb, ltb-true, both_ways, not_from_true, cases_eq, ne_eqb, cond-true, cond-false, and_from, and_left, or_right}
use Rattle.directory.specs.declared.lru.WayNumber.{WayNumber}
use Rattle.directory.specs.declared.fills.Fill.{Fill}
use Rattle.port.specs.Memory.{line_of, offset_of}
use Rattle.directory.specs.Ticks.{ticked, tick, offset_at, ticks_after, next_offset, next_word, fetched_word, starting, with_word, Ordered, UnderWay}
use Rattle.directory.specs.Laws.{turned, FillFetchesEachWordOnce, NewTickAddsOne, StoreAddsItsWord, EightTicksAreAll}

-- the test p passes at each number below n
abbrev passes : (ℕ → Bool) → ℕ → Bool
passes p zero = true
passes p (suc n) = p n && passes p n

below : (p : ℕ → Bool) (n : ℕ) → passes p n ≡ true → (k : ℕ) → k < n → p k ≡ true
below p n t = (Decides-below_and p (λ k. p k ≡ true) (passes p) (λ k. ((λ e. e), (λ e. e))) refl (λ _. refl) n).0 t

-- and at each pair
below_both : (p : ℕ → ℕ → Bool) (n m : ℕ) → passes (λ a. passes (p a) m) n ≡ true → (a b : ℕ) → a < n → b < m → p a b ≡ true
below_both p n m t a b h k = below (p a) m (below (λ x. passes (p x) m) n t a h) b k

abbrev agree : Bool → Bool → Bool
agree true b = b
agree false b = not b

agree_same : (x y : Bool) → agree x y ≡ true → x ≡ y
agree_same true true e = refl
agree_same true false e = sym e
agree_same false true e = e
agree_same false false e = refl

abbrev adds : ℕ → ℕ → Bool
adds t p = ticked t p || eqb (ones (tick t p)) (ones t + 1)

pub new_tick_adds_one : NewTickAddsOne
unfolding ones ones_in
new_tick_adds_one t p ht hp e =
    elim (or_cases (ticked t p) (eqb (ones (tick t p)) (ones t + 1)) (below_both adds 256 8 refl t p ht hp))
    [ inl y ↦ absurd (both_ways (ticked t p) e y) | inr y ↦ eqb-true (ones (tick t p)) (ones t + 1) y ]

abbrev full : ℕ → ℕ → Bool
full t p = not (eqb (ones t) 8) || ticked t p

pub eight_ticks_are_all : EightTicksAreAll
unfolding ones ones_in
eight_ticks_are_all t p ht hp e =
    elim (or_cases (not (eqb (ones t) 8)) (ticked t p) (below_both full 256 8 refl t p ht hp))
    [ inl y ↦ absurd (both_ways (not (eqb (ones t) 8)) (not_from_true (eqb (ones t) 8) (eq-eqb (ones t) 8 e)) y) | inr y ↦ y ]

pub within : (first step : ℕ) → first < 8 → step < 8 → offset_at first step < 8
within first step hf hs = ltb-true (offset_at first step) 8 (below_both (λ a b. ltb (offset_at a b) 8) 8 8 refl first step hf hs)

-- XOR undoes itself, so the step that reaches an offset is first XOR offset
pub undone : (first p : ℕ) → first < 8 → p < 8 → offset_at first (offset_at first p) ≡ p
undone first p hf hp = eqb-true (offset_at first (offset_at first p)) p (below_both (λ a b. eqb (offset_at a (offset_at a b)) b) 8 8 refl first p hf hp)

in_order : (first step : ℕ) → first < 8 → step < 8 → offset_at first step ≡ turned first step
in_order first step hf hs = eqb-true (offset_at first step) (turned first step) (below_both (λ a b. eqb (offset_at a b) (turned a b)) 8 8 refl first step hf hs)

pub each_offset_once : FillFetchesEachWordOnce
each_offset_once = record {
  within = within;
  reached = λ first p hf hp. (offset_at first p, within first p hf hp, undone first p hf hp);
  once = λ first j k hf hj hk e. sym (undone first j hf hj) ∙ ap (λ (x : ℕ). offset_at first x) e ∙ undone first k hf hk;
  order = λ b hf hs. ap (λ (o : ℕ). b.line * 8 + o) (in_order b.first (count_ones b.ticks) hf hs);
}

-- k steps tick k offsets
ones_after : (first k : ℕ) → first < 8 → k < 9 → ones (ticks_after first k) ≡ k
unfolding ones ones_in
ones_after first k hf hk = eqb-true (ones (ticks_after first k)) k (below_both (λ a b. eqb (ones (ticks_after a b)) b) 8 9 refl first k hf hk)

-- what one more step ticks
pub ticked_more : (first k p : ℕ) → first < 8 → k < 8 → p < 8 → ticked (ticks_after first (suc k)) p ≡ (ticked (ticks_after first k) p || eqb p (offset_at first k))
ticked_more first k p hf hk hp =
    agree_same _ _
    (below (λ c. agree (ticked (ticks_after first (suc k)) c) (ticked (ticks_after first k) c || eqb c (offset_at first k))) 8
    (below_both (λ a b. passes (λ c. agree (ticked (ticks_after a (suc b)) c) (ticked (ticks_after a b) c || eqb c (offset_at a b))) 8) 8 8 refl first k hf hk) p hp)

-- the last step leaves none unticked
pub ticked_all : (first p : ℕ) → first < 8 → p < 8 → ticked (ticks_after first 8) p ≡ true
ticked_all first p hf hp = below_both (λ a b. ticked (ticks_after a 8) b) 8 8 refl first p hf hp

ones_zero : ones 0 ≡ 0
unfolding ones ones_in
ones_zero = refl

pub starts : (word : ℕ) (k : WayNumber) (protect : Bool) → word < 2 ^ 32 → UnderWay (starting word k protect)
starts word k protect h = record {
  ordered = record { low = omega arith; offset = omega arith; order = ap (ticks_after (word % 8)) (sym ones_zero); sized = refl };
  short = omega (arith, ones_zero);
}

or_no : (x y : Bool) → y ≡ false → (x || y) ≡ x
or_no true y e = refl
or_no false y e = e

-- a step of a fill under way
module _ (b : Fill) (u : UnderWay b) where
  next : tick b.ticks (next_offset b) ≡ ticks_after b.first (suc (ones b.ticks))
  next = ap (λ (t : ℕ). tick t (next_offset b)) u.ordered.order

  next_ones : ones (tick b.ticks (next_offset b)) ≡ suc (ones b.ticks)
  next_ones = ap ones next ∙ ones_after b.first (suc (ones b.ticks)) u.ordered.offset (omega (arith, u.short))

  pub next_small : next_offset b < 8
  next_small = within b.first (ones b.ticks) u.ordered.offset u.short

  pub stored_count : (value : ℕ) → ones (with_word b value).ticks ≡ ones b.ticks + 1
  stored_count value = rw add-one next_ones

  pub stored_ordered : (value : ℕ) → Ordered (with_word b value)
  stored_ordered value = record {
    low = u.ordered.low;
    offset = u.ordered.offset;
    order = next ∙ ap (ticks_after b.first) (sym next_ones);
    sized = length-set b.words (next_offset b) value ∙ u.ordered.sized;
  }

  pub ticked_stored : (q : ℕ) → q < 8 → ticked (tick b.ticks (next_offset b)) q ≡ (ticked b.ticks q || eqb q (next_offset b))
  ticked_stored q h =
      ap (λ (t : ℕ). ticked t q) next
      ∙ ticked_more b.first (ones b.ticks) q u.ordered.offset u.short h
      ∙ ap (λ (t : ℕ). ticked t q || eqb q (next_offset b)) (sym u.ordered.order)

  pub store_adds : (value : ℕ) → StoreAddsItsWord b (with_word b value) value
  store_adds value = record {
    new =
        cond-true (eqb b.line (line_of (next_word b)) && ticked (tick b.ticks (next_offset b)) (offset_of (next_word b))) _ None
        (and_from (eqb b.line (line_of (next_word b))) _ (eq-eqb b.line (line_of (next_word b)) (sym (div-mul-add b.line 8 (next_offset b) next_small)))
        (ap (ticked (tick b.ticks (next_offset b))) (mod-mul-add b.line 8 (next_offset b) next_small) ∙ ticked_stored (next_offset b) next_small ∙ or_right (ticked b.ticks (next_offset b)) _ (eq-eqb (next_offset b) (next_offset b) refl)))
        ∙ ap (λ (q : ℕ). Some (get_or (set b.words (next_offset b) value) q 0)) (mod-mul-add b.line 8 (next_offset b) next_small)
        ∙ ap Some (get_or-set_same b.words (next_offset b) value 0 (omega (arith, next_small, u.ordered.sized)));
    others = other;
  }
    where
      other : (word : ℕ) → word ≢ next_word b → fetched_word (with_word b value) word ≡ fetched_word b word
      other word n =
          elim (cases_eq b.line (line_of word)) [
            | inr away ↦
                cond-false (eqb b.line (line_of word) && ticked (tick b.ticks (next_offset b)) (offset_of word)) _ _ (and_left _ _ (ne_eqb b.line (line_of word) away))
                ∙ sym (cond-false (eqb b.line (line_of word) && ticked b.ticks (offset_of word)) _ _ (and_left _ _ (ne_eqb b.line (line_of word) away)))
            | inl e ↦
                (let m : offset_of word ≢ next_offset b = λ f. n (omega arith) in
                let h : offset_of word < 8 = omega arith in
                ap₂ (λ (t : Bool) (v : ℕ). cond (eqb b.line (line_of word) && t) (Some v) None)
                (ticked_stored (offset_of word) h ∙ or_no (ticked b.ticks (offset_of word)) _ (ne_eqb (offset_of word) (next_offset b) m))
                (get_or-set_other b.words (next_offset b) (offset_of word) value 0 m))
          ]

-- the fill as the code leaves it: p is the next offset as computed, and the byte is what `ticks | (1 << p)` gives
abbrev pub left : Fill → ℕ → ℕ → Fill
left b p value = record {
  line = b.line;
  first = b.first;
  way = b.way;
  protect = b.protect;
  ticks = bit_or b.ticks ((1 * 2 ^ p) % 256);
  words = set b.words p value;
}

module _ (b : Fill) (u : UnderWay b) (p value : ℕ) (e : p ≡ next_offset b) (h : p < 8) where
  byte : bit_or b.ticks ((1 * 2 ^ p) % 256) ≡ tick b.ticks (next_offset b)
  byte = ap (λ (x : ℕ). bit_or b.ticks x) (one_shl p 8 h ∙ ap (λ (x : ℕ). 2 ^ x) e)

  pub left_stored : left b p value ≡ with_word b value
  left_stored = λ n. record {
    line = b.line;
    first = b.first;
    way = b.way;
    protect = b.protect;
    ticks = byte n;
    words = ap (λ (q : ℕ). set b.words q value) e n;
  }

  pub left_ordered : Ordered (left b p value)
  left_ordered = subst Ordered (sym left_stored) (stored_ordered b u value)

  pub left_count : ones (left b p value).ticks ≡ ones b.ticks + 1
  left_count = ap (λ (x : Fill). ones x.ticks) left_stored ∙ stored_count b u value

  pub left_adds : StoreAddsItsWord b (left b p value) value
  left_adds = subst (λ (x : Fill). StoreAddsItsWord b x value) (sym left_stored) (store_adds b u value)
