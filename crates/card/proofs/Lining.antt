-- The lines of answers, one call after another.
use Rattle.std.proofs.Common.{◌≡◌, ℕ, ◌+◌, ◌<◌, ◌≤◌, suc, min, List, [], ◌∷◌, ◌++◌, length, drop, Option, Result, refl, sym, ap, ap₂, ◌∙◌, subst, arith, slice_index_or, drop_of_length-le}
use Rattle.std.proofs.Math.Seq.{drop-cons}
use Rattle.std.proofs.KnownBytes.{Appends-nil, Appends-trans}
use Rattle.std.specs.Io.KnownBytes.{Appends}
use native.Mathlib.Decide.{dec_le}
use Rattle.fault.specs.declared.Fault.{Fault}
use Rattle.calls.specs.declared.call.Call.{Call}
use Rattle.book.specs.declared.answer.Answer.{Answer}
use Rattle.printed.specs.declared.Printed.TheVariants.{Answered}
use Rattle.card.specs.Output.{printed_line, answered_lines}

module _ (cs : List Call) (rs : List (Result Answer Fault)) where
  -- The lines that are left before call i, where the calls are numbered from 1.
  abbrev pub left_from : ℕ → List ℕ
  left_from i = answered_lines (i + 1) (drop i cs) (drop i rs)

  abbrev line_at : ℕ → Call → Result Answer Fault → List ℕ
  line_at i c r = printed_line (Answered (i + 1) (slice_index_or cs i c) (slice_index_or rs i r))

  next_line : (i : ℕ) (c : Call) (r : Result Answer Fault) → i < length cs → i < length rs → left_from i ≡ line_at i c r ++ left_from (i + 1)
  next_line i c r h k =
      let one : suc i ≡ i + 1 = omega arith in
      ap₂ (λ (xs : List Call) (ys : List (Result Answer Fault)). answered_lines (i + 1) xs ys) (drop-cons cs i c h) (drop-cons rs i r k)
      ∙ ap (λ (n : ℕ). line_at i c r ++ answered_lines (i + 1 + 1) (drop n cs) (drop n rs)) one

  no_answers : (n : ℕ) (xs : List Call) → answered_lines n xs [] ≡ []
  no_answers n [] = refl
  no_answers n (x ∷ xs) = refl

  none_left : (i : ℕ) → min (length cs) (length rs) ≤ i → left_from i ≡ []
  none_left i h = elim (dec_le (length cs) i) [
    | yes over ↦ ap (λ (xs : List Call). answered_lines (i + 1) xs (drop i rs)) (drop_of_length-le cs over)
    | no more ↦ ap (λ (ys : List (Result Answer Fault)). answered_lines (i + 1) (drop i cs) ys) (drop_of_length-le rs (omega arith)) ∙ no_answers (i + 1) (drop i cs)
  ]

  module _ (i n : ℕ) (size : n ≡ min (length cs) (length rs)) where
    pub line_written : (a b : Option (List ℕ)) (c : Call) (r : Result Answer Fault) → i < n → Appends a b (line_at i c r)
        → (end : Option (List ℕ)) → Appends b end (left_from (i + 1)) → Appends a end (left_from i)
    line_written a b c r lt p end h = subst (Appends a end) (sym (next_line i c r (omega arith) (omega arith))) (Appends-trans a b end _ _ p h)

    pub all_written : (a : Option (List ℕ)) → n ≤ i → Appends a a (left_from i)
    all_written a le = subst (Appends a a) (sym (none_left i (omega arith))) (Appends-nil a)
