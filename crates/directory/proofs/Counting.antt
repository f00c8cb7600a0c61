-- How many ways are valid.
use Rattle.std.proofs.Common.{◌≡◌, ◌≢◌, ℕ, zero, suc, ◌+◌, ◌<◌, Bool, cond, is_some, count_by, Option, refl, ap, ap₂, inl, inr, arith}
use Rattle.std.proofs.lemmas.Bool.{cases_eq}
use Rattle.directory.specs.declared.lru.WayNumber.{WayNumber}
use Rattle.directory.specs.declared.lru.WayNumber.TheVariants.{Zero, One, Two, Three}
use Rattle.directory.specs.declared.sets.Way.{Way}
use Rattle.directory.specs.Touch.{index_of, every_way}
use Rattle.directory.specs.Dirs.{Dir, emptied, put, sum_below, valid_in, valid_ways}
use Rattle.directory.specs.Laws.{EachValidWayCounts}
use Rattle.directory.proofs.Apart.{put_here, put_other_set, put_other_way}

abbrev pub one_if : Bool → ℕ
one_if b = cond b 1 0

-- ---- two sums that differ in one place

sum_same : (f g : ℕ → ℕ) (n : ℕ) → ((j : ℕ) → j < n → g j ≡ f j) → sum_below g n ≡ sum_below f n
unfolding sum_below
sum_same f g zero a = refl
sum_same f g (suc n) a = ap₂ (λ (x y : ℕ). x + y) (sum_same f g n (λ j h. a j (omega arith))) (a n (omega arith))

sum_change : (f g : ℕ → ℕ) (i n : ℕ) → ((j : ℕ) → j ≢ i → g j ≡ f j) → i < n → sum_below g n + f i ≡ sum_below f n + g i
unfolding sum_below
sum_change f g i zero a h = absurd (omega arith)
sum_change f g i (suc n) a h =
    elim (cases_eq n i) [
      | inl e ↦ (let rest = sum_same f g n (λ j l. a j (λ q. absurd (omega arith))) in
          let here : g n ≡ g i = ap g e in
          let was : f n ≡ f i = ap f e in
          omega (arith, rest, here, was))
      | inr e ↦ (let rest = sum_change f g i n a (omega (arith, e)) in let here = a n e in omega (arith, rest, here))
    ]

-- ---- one set

module _ (d : Dir) (i : ℕ) (w : Option Way) where
  abbrev counts : Dir → WayNumber → ℕ
  counts e l = one_if (is_some (e.way i l))

  same : (k l : WayNumber) → (index_of l ≡ index_of k → ⊥) → counts (put d i k w) l ≡ counts d l
  same k l n = ap (λ (o : Option Way). one_if (is_some o)) (put_other_way d i k w i l n)

  new : (k : WayNumber) → counts (put d i k w) k ≡ one_if (is_some w)
  new k = ap (λ (o : Option Way). one_if (is_some o)) (put_here d i k w i k refl refl)

  pub set_count : (k : WayNumber) → valid_in (put d i k w) i + counts d k ≡ valid_in d i + one_if (is_some w)
  set_count Zero =
      let a = new Zero in let b = same Zero One (λ e. absurd (omega arith)) in let c = same Zero Two (λ e. absurd (omega arith)) in let e = same Zero Three (λ e. absurd (omega arith)) in
      omega (arith, a, b, c, e)
  set_count One =
      let a = new One in let b = same One Zero (λ e. absurd (omega arith)) in let c = same One Two (λ e. absurd (omega arith)) in let e = same One Three (λ e. absurd (omega arith)) in
      omega (arith, a, b, c, e)
  set_count Two =
      let a = new Two in let b = same Two Zero (λ e. absurd (omega arith)) in let c = same Two One (λ e. absurd (omega arith)) in let e = same Two Three (λ e. absurd (omega arith)) in
      omega (arith, a, b, c, e)
  set_count Three =
      let a = new Three in let b = same Three Zero (λ e. absurd (omega arith)) in let c = same Three One (λ e. absurd (omega arith)) in let e = same Three Two (λ e. absurd (omega arith)) in
      omega (arith, a, b, c, e)

  -- and all sets
  pub put_count : (k : WayNumber) → i < 256 → valid_ways (put d i k w) + counts d k ≡ valid_ways d + one_if (is_some w)
  put_count k h =
      let all = sum_change (valid_in d) (valid_in (put d i k w)) i 256 (λ j n. ap (count_four j) (other j n)) h in
      let one = set_count k in
      omega (arith, all, one)
    where
      count_four : ℕ → (WayNumber → Option Way) → ℕ
      count_four j f = count_by (λ k. is_some (f k)) every_way

      other : (j : ℕ) → j ≢ i → (put d i k w).way j ≡ d.way j
      other j n = λ m l. put_other_set d i k w j l n m

sum_none : (n : ℕ) → sum_below (λ _. 0) n ≡ 0
unfolding sum_below
sum_none zero = refl
sum_none (suc n) = let rest = sum_none n in omega (arith, rest)

pub none_valid : valid_ways emptied ≡ 0
none_valid = sum_none 256

pub each_valid_way_counts : EachValidWayCounts
each_valid_way_counts = record { none = none_valid; one = λ d i k w h. put_count d i w k h }
