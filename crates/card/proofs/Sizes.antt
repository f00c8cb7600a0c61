-- What the size of a card comes to.
use Rattle.std.proofs.Common.{◌≡◌, ℕ, ◌+◌, ◌*◌, Bool, true, false, cond, Ok, Err, Result, refl, ap, ap₂, ◌∙◌, inl, inr, arith}
use Rattle.std.specs.Result.{result_and}
use Rattle.fault.specs.declared.Fault.{Fault}
use Rattle.banks.specs.Sizes.{unfit, fit_lines, size_of_lines, lines_of_bytes}
use Rattle.banks.proofs.Numbers.{unfit_sizes}
use Rattle.card.specs.Card.{SizesAddUp}

-- what is refused later on is refused, whatever is said first
later : (fits : Bool) (n : ℕ) (rest : Result ℕ Fault) → rest ≡ Err unfit → result_and (cond fits (Ok n) (Err unfit)) rest ≡ Err unfit
later true n rest e = e
later false n rest e = refl

-- the card's size, where the bytes make so many lines
abbrev by_lines : ℕ → ℕ → Result ℕ Fault
by_lines lines more = result_and (size_of_lines lines) (result_and (size_of_lines more) (size_of_lines (lines + more)))

no_more : (lines more : ℕ) → size_of_lines more ≡ Err unfit → by_lines lines more ≡ Err unfit
no_more lines more e = later (fit_lines lines) (lines * 8) _ (ap (λ (r : Result ℕ Fault). result_and r (size_of_lines (lines + more))) e)

pub sizes_add_up : SizesAddUp
sizes_add_up = record {
  both = λ lines more h k m.
      let one : size_of_lines lines ≡ Ok (lines * 8) = (unfit_sizes.fit lines h (omega arith)).0 in
      let other : size_of_lines more ≡ Ok (more * 8) = (unfit_sizes.fit more k (omega arith)).0 in
      let all : size_of_lines (lines + more) ≡ Ok ((lines + more) * 8) = (unfit_sizes.fit (lines + more) (omega arith) m).0 in
      ap (by_lines lines) (unfit_sizes.even more)
      ∙ ap₂ (λ (r s : Result ℕ Fault). result_and r (result_and s (size_of_lines (lines + more)))) one other ∙ all;
  no_ram = λ bytes. ap (λ (r : Result ℕ Fault). result_and r (result_and (size_of_lines (lines_of_bytes bytes)) (size_of_lines (lines_of_bytes bytes)))) (unfit_sizes.unfit 0 (inl refl)).0;
  no_eprom = λ lines. no_more lines 0 (unfit_sizes.unfit 0 (inl refl)).0;
  left_over = λ lines more over h k. ap (by_lines lines) (unfit_sizes.odd more over h k) ∙ no_more lines 0 (unfit_sizes.unfit 0 (inl refl)).0;
  too_large = λ lines more h.
      ap (by_lines lines) (unfit_sizes.even more)
      ∙ later (fit_lines lines) (lines * 8) _ (later (fit_lines more) (more * 8) _ (unfit_sizes.unfit (lines + more) (inr h)).0);
}
