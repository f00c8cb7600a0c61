-- Four capital hexadecimal digits, as the library writes a word with zeros before it.
use Rattle.std.proofs.Common.{◌≡◌, ℕ, ◌/◌, ◌%◌, ◌-◌, ◌^◌, ◌<◌, ◌≤◌, true, false, [], ◌∷◌, sym, ap, ◌∙◌, ap₂, arith}
use Rattle.std.specs.Fmt.{digit_glyph, digits, padded_integral, char_count, format_spec}
use native.Mathlib.Decide.{dec_lt}
use Rattle.std.proofs.DigitsParse.{digits_onto-nil, digits_onto_step, digits_onto_last}
use Rattle.std.proofs.lemmas.Fmt.{hex_one_digit, hex_two_digits}
use Rattle.printed.specs.Texts.{hex_word}

hex_three_digits : (n : ℕ) → 256 ≤ n → n < 4096 → digits 16 true n ≡ digit_glyph true (n / 256) ∷ digit_glyph true (n / 16 % 16) ∷ digit_glyph true (n % 16) ∷ []
hex_three_digits n large small =
    let same : n / 16 / 16 % 16 ≡ n / 256 = omega arith in
    sym (digits_onto-nil 16 true n) ∙ digits_onto_step 16 true n [] 64 (omega arith) (omega arith)
    ∙ digits_onto_step 16 true (n / 16) (digit_glyph true (n % 16) ∷ []) 63 (omega arith) (omega arith)
    ∙ digits_onto_last 16 true (n / 16 / 16) (digit_glyph true (n / 16 % 16) ∷ digit_glyph true (n % 16) ∷ []) 62 (omega arith) (omega arith)
    ∙ ap (λ d. digit_glyph true d ∷ digit_glyph true (n / 16 % 16) ∷ digit_glyph true (n % 16) ∷ []) same

hex_four_digits : (n : ℕ) → 4096 ≤ n → n < 65536
    → digits 16 true n ≡ digit_glyph true (n / 4096) ∷ digit_glyph true (n / 256 % 16) ∷ digit_glyph true (n / 16 % 16) ∷ digit_glyph true (n % 16) ∷ []
hex_four_digits n large small =
    let third : n / 16 / 16 % 16 ≡ n / 256 % 16 = omega arith in
    let fourth : n / 16 / 16 / 16 % 16 ≡ n / 4096 = omega arith in
    sym (digits_onto-nil 16 true n) ∙ digits_onto_step 16 true n [] 64 (omega arith) (omega arith)
    ∙ digits_onto_step 16 true (n / 16) (digit_glyph true (n % 16) ∷ []) 63 (omega arith) (omega arith)
    ∙ digits_onto_step 16 true (n / 16 / 16) (digit_glyph true (n / 16 % 16) ∷ digit_glyph true (n % 16) ∷ []) 62 (omega arith) (omega arith)
    ∙ digits_onto_last 16 true (n / 16 / 16 / 16) (digit_glyph true (n / 16 / 16 % 16) ∷ digit_glyph true (n / 16 % 16) ∷ digit_glyph true (n % 16) ∷ []) 61 (omega arith) (omega arith)
    ∙ ap₂ (λ d e. digit_glyph true d ∷ digit_glyph true e ∷ digit_glyph true (n / 16 % 16) ∷ digit_glyph true (n % 16) ∷ []) fourth third

-- What `{:04X}` writes of a word.
pub hex_word_written : (n : ℕ) → n < 65536 → padded_integral (format_spec 32 0 4 4 (2 ^ 64 - 1)) false [] (digits 16 true n) ≡ hex_word n
unfolding padded_integral char_count
hex_word_written n small =
    elim (dec_lt n 16) [
      | yes one ↦ (let a : n / 4096 ≡ 0 = omega arith in let b : n / 256 % 16 ≡ 0 = omega arith in let c : n / 16 % 16 ≡ 0 = omega arith in let d : n % 16 ≡ n = omega arith in
          rw (hex_one_digit true n one, a, b, c, d))
      | no ten ↦ elim (dec_lt n 256) [
        | yes two ↦ (let a : n / 4096 ≡ 0 = omega arith in let b : n / 256 % 16 ≡ 0 = omega arith in let c : n / 16 % 16 ≡ n / 16 = omega arith in
            rw (hex_two_digits true n (omega arith) two, a, b, c))
        | no hundred ↦ elim (dec_lt n 4096) [
          | yes three ↦ (let a : n / 4096 ≡ 0 = omega arith in let b : n / 256 % 16 ≡ n / 256 = omega arith in rw (hex_three_digits n (omega arith) three, a, b))
          | no four ↦ rw (hex_four_digits n (omega arith) small)
        ]
      ]
    ]
