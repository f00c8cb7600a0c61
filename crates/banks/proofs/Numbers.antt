-- What sizes and places come to in numbers.
use Rattle.std.proofs.Common.{◌≡◌, ◌⊎◌, ℕ, ◌+◌, ◌*◌, ◌/◌, ◌%◌, ◌<◌, ◌≤◌, true, false, length, inl, inr, refl, ap, ◌∙◌, ap₂, Ok, Err, arith}
use Rattle.std.proofs.lemmas.Bool.{cond-true, cond-false}
use Rattle.std.proofs.lemmas.Bool.Decides.{nat_tests}
use Rattle.banks.specs.Sizes.{fit_lines, unfit, UnfitSizesHaveNoWords}
use Rattle.banks.specs.Sizes.{lines_of_bytes, words_of_lines}
use Rattle.banks.specs.Lines.{line_at}
use Rattle.banks.specs.Ram.{EachRecordIsALine}
use Rattle.banks.specs.Eprom.{SixteenBytesAreALine}
use Rattle.std.specs.Prelude.{slice_index, slice_index_or}

fits : (lines : ℕ) → 1 ≤ lines → lines ≤ 1048576 → fit_lines lines ≡ true
fits lines h k = grind (arith, nat_tests)

fits_not : (lines : ℕ) → (lines ≡ 0) ⊎ (1048576 < lines) → fit_lines lines ≡ false
fits_not lines (inl e) = grind (arith, nat_tests)
fits_not lines (inr h) = grind (arith, nat_tests)

pub unfit_sizes : UnfitSizesHaveNoWords
unfit_sizes = record {
  fit = λ lines h k. (cond-true (fit_lines lines) (Ok (lines * 8)) (Err unfit) (fits lines h k), cond-true (fit_lines lines) (lines * 8) 0 (fits lines h k));
  unfit = λ lines h. (cond-false (fit_lines lines) (Ok (lines * 8)) (Err unfit) (fits_not lines h), cond-false (fit_lines lines) (lines * 8) 0 (fits_not lines h));
  even = λ lines. grind (arith, nat_tests);
  odd = λ lines over h k. grind (arith, nat_tests);
}

pub each_record : EachRecordIsALine
each_record = record {
  word = λ lines k offset h.
      let line : (k * 8 + offset) / 8 ≡ k = omega arith in
      let at : (k * 8 + offset) % 8 ≡ offset = omega arith in
      ap₂ (λ (l p : ℕ). slice_index (line_at lines l).words p) line at;
  readable = λ lines k offset h.
      let line : (k * 8 + offset) / 8 ≡ k = omega arith in
      let at : (k * 8 + offset) % 8 ≡ offset = omega arith in
      ap₂ (λ (l p : ℕ). slice_index_or (line_at lines l).readable p false) line at;
  cacheable = λ lines k. refl;
  protected = λ lines k. refl;
  all = λ lines h k. (unfit_sizes.fit (length lines) h k).1;
  none = λ lines h. (unfit_sizes.unfit (length lines) h).1;
  on_floor_0 = λ lines. refl;
}

no_words : (n : ℕ) → (n ≡ 0) ⊎ (1048576 * 16 < n) → words_of_lines (lines_of_bytes n) ≡ 0
no_words n (inl e) = ap (λ (m : ℕ). words_of_lines (lines_of_bytes m)) e
no_words n (inr h) = grind (arith, nat_tests)

pub sixteen_bytes : SixteenBytesAreALine
sixteen_bytes = record {
  all = λ bytes lines e h k. ap (λ (n : ℕ). words_of_lines (lines_of_bytes n)) e ∙ ap words_of_lines (unfit_sizes.even lines) ∙ (unfit_sizes.fit lines h k).1;
  none = λ bytes h. no_words (length bytes) h;
  left_over = λ bytes lines over e h k. ap (λ (n : ℕ). words_of_lines (lines_of_bytes n)) e ∙ ap words_of_lines (unfit_sizes.odd lines over h k);
  cacheable = λ bytes k. refl;
  protected = λ bytes k. refl;
  readable = λ bytes a. refl;
  on_floor_0 = λ bytes. refl;
}
