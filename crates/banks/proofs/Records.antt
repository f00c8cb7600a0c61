-- What one changed record does to a RAM bank.
use Rattle.std.proofs.Common.{◌≡◌, ℕ, ◌<◌, false, List, [], length, get_or, set, refl, ap, ◌∙◌, inl, inr, arith, length-set, get_or-set_other, get_or-set_same}
use Rattle.std.proofs.lemmas.Bool.{cases_eq}
use Rattle.std.proofs.lemmas.Bool.Decides.{nat_tests}
use Rattle.port.specs.declared.Store.{Store}
use Rattle.port.specs.Lanes.{merged}
use Rattle.port.specs.Memory.{line_of, stored, outside, offset_of}
use Rattle.banks.specs.declared.line.Line.{Line}
use Rattle.banks.specs.Sizes.{words_of_lines}
use Rattle.banks.specs.Lines.{blank, line_at, memory_of, changed}
use Rattle.banks.specs.Ram.{ram_state}

-- what a changed record shows as before
kept : {B : Type 0} (f : Line → B) (ls : List Line) (i k : ℕ) (l : Line) → i < length ls → f l ≡ f (line_at ls i) → f (line_at (set ls i l) k) ≡ f (line_at ls k)
kept f ls i k l h e =
    elim (cases_eq k i) [
      | inl p ↦ let s = get_or-set_same ls i l blank h in cc
      | inr n ↦ ap f (get_or-set_other ls i k l blank n)
    ]

module _ (ls : List Line) (w : Store) (fits : line_of w.word < length ls) (full : length (line_at ls (line_of w.word)).words ≡ 8) (free : (line_at ls (line_of w.word)).protect ≡ false) where
  abbrev line : ℕ
  line = line_of w.word

  abbrev new : Line
  new = changed (line_at ls line) w

  word_after : (a : ℕ) → (memory_of (set ls line new)).word a ≡ (stored (ram_state ls).protected w (memory_of ls)).word a
  word_after a =
      let at = get_or-set_same ls line new blank fits in
      let else = get_or-set_other ls line (line_of a) new blank in
      let low : offset_of w.word < length (line_at ls line).words = omega arith in
      let at' = get_or-set_same (line_at ls line).words (offset_of w.word) (merged w.lanes ((memory_of ls).word w.word) w.value) 0 low in
      let else' = get_or-set_other (line_at ls line).words (offset_of w.word) (offset_of a) (merged w.lanes ((memory_of ls).word w.word) w.value) 0 in
      grind (arith, nat_tests)

  state_after : ram_state (set ls line new) ≡ outside w (ram_state ls)
  state_after = λ i. record {
    facts = record { words = words_of_lines (length-set ls line new i); floor = 0; cacheable = λ k. kept (λ l. l.cacheable) ls line k new fits refl i };
    protected = λ k. kept (λ l. l.protect) ls line k new fits refl i;
    settled = record { word = λ a. word_after a i; readable = λ a. kept (λ l. get_or l.readable (offset_of a) false) ls line (line_of a) new fits refl i };
    waiting = [];
  }

  pub changed_state : (l : Line) → l ≡ new → ram_state (set ls line l) ≡ outside w (ram_state ls)
  changed_state l e = ap (λ x. ram_state (set ls line x)) e ∙ state_after
