-- Lines of eight words.
use Rattle.std.proofs.Common.{◌≡◌, ℕ, zero, suc, ◌+◌, ◌*◌, ◌/◌, ◌%◌, ◌<◌, ◌≤◌, Bool, true, false, ◌≢◌, List, length, get_or, set, sym, refl, ap, ◌∙◌, inl, inr, arith, length-set}
use Rattle.std.proofs.lemmas.List.{get_or-set_same, get_or-set_other, ext_get_or}
use Rattle.std.proofs.lemmas.Bool.{cases_eq, cases_Bool, and_from, and_parts, both_ways}
use Rattle.cache_tables.specs.Showing.{eight, all_below}

pub eight_at : (f : ℕ → ℕ) (p : ℕ) → p < 8 → get_or (eight f) p 0 ≡ f p
eight_at f zero h = refl
eight_at f (suc zero) h = refl
eight_at f (suc (suc zero)) h = refl
eight_at f (suc (suc (suc zero))) h = refl
eight_at f (suc (suc (suc (suc zero)))) h = refl
eight_at f (suc (suc (suc (suc (suc zero))))) h = refl
eight_at f (suc (suc (suc (suc (suc (suc zero)))))) h = refl
eight_at f (suc (suc (suc (suc (suc (suc (suc zero))))))) h = refl
eight_at f (suc (suc (suc (suc (suc (suc (suc (suc p)))))))) h = absurd (omega arith)

pub all_at : (g : ℕ → Bool) (n : ℕ) → all_below g n ≡ true → (p : ℕ) → p < n → g p ≡ true
all_at g zero e p h = absurd (omega arith)
all_at g (suc n) e p h =
    elim (cases_eq p n) [
      | inl y ↦ ap g y ∙ (and_parts (g n) (all_below g n) e).0
      | inr y ↦ all_at g n (and_parts (g n) (all_below g n) e).1 p (omega (arith, y))
    ]

pub all_from : (g : ℕ → Bool) (n : ℕ) → ((p : ℕ) → p < n → g p ≡ true) → all_below g n ≡ true
all_from g zero a = refl
all_from g (suc n) a = and_from (g n) (all_below g n) (a n (omega arith)) (all_from g n (λ p h. a p (omega arith)))

pub not_all : (g : ℕ → Bool) (n p : ℕ) → p < n → g p ≡ false → all_below g n ≡ false
not_all g n p h e = elim (cases_Bool (all_below g n)) [ inl y ↦ absurd (both_ways (g p) e (all_at g n y p h)) | inr x ↦ x ]

-- a list of eight is the one that it agrees with at each index
pub eight_is : (ws : List ℕ) (f : ℕ → ℕ) → length ws ≡ 8 → ((p : ℕ) → p < 8 → get_or ws p 0 ≡ f p) → ws ≡ eight f
eight_is ws f l a = ext_get_or 0 ws (eight f) l (λ p h. let hp : p < 8 = omega arith in a p hp ∙ sym (eight_at f p hp))

pub eight_ext : (f g : ℕ → ℕ) → ((p : ℕ) → p < 8 → f p ≡ g p) → eight f ≡ eight g
eight_ext f g a = eight_is (eight f) g refl (λ p h. eight_at f p h ∙ a p h)

pub eight_set : (f g : ℕ → ℕ) (q x : ℕ) → q < 8 → g q ≡ x → ((p : ℕ) → p < 8 → p ≢ q → g p ≡ f p) → set (eight f) q x ≡ eight g
eight_set f g q x hq e a = eight_is (set (eight f) q x) g (length-set (eight f) q x) at
  where
    at : (p : ℕ) → p < 8 → get_or (set (eight f) q x) p 0 ≡ g p
    at p h =
        elim (cases_eq p q) [
          | inl y ↦ ap (λ (m : ℕ). get_or (set (eight f) q x) m 0) y ∙ get_or-set_same (eight f) q x 0 hq ∙ sym e ∙ ap g (sym y)
          | inr n ↦ get_or-set_other (eight f) q p x 0 n ∙ eight_at f p h ∙ sym (a p h n)
        ]

-- where a word stands in its line, and a line in its set
pub line_word : (w : ℕ) → w / 8 * 8 + w % 8 ≡ w
line_word w = omega arith

pub line_set : (l : ℕ) → l / 256 * 256 + l % 256 ≡ l
line_set l = omega arith

pub line_inside : (w n : ℕ) → w < n → n % 8 ≡ 0 → w / 8 * 8 + 8 ≤ n
line_inside w n h e = omega arith
