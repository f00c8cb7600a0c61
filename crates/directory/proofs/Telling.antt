-- What is told of a way.
use Rattle.std.proofs.Common.{◌≡◌, ℕ, ◌<◌, ◌≤◌, true, false, cond, ltb, Some, None, Option, is_some, sym, refl, ap, ◌∙◌, arith}
use Rattle.std.proofs.lemmas.Bool.{cond-true, lt-ltb}
use Rattle.std.proofs.lemmas.Bool.Decides.{nat_tests}
use Rattle.std.specs.Option.{option_map_or}
use Rattle.directory.specs.declared.lru.WayNumber.{WayNumber}
use Rattle.directory.specs.declared.lru.WayNumber.TheVariants.{Zero, One, Two, Three}
use Rattle.directory.specs.declared.sets.Way.{Way}
use Rattle.directory.specs.declared.directory.questions.WayState.{WayState}
use Rattle.directory.specs.Touch.{index_of, way_numbered}
use Rattle.directory.specs.Sets.{has_tag}
use Rattle.directory.specs.Dirs.{Dir, set_of, tag_of}
use Rattle.directory.specs.View.{way_state, inspected, TellsWhatStands}
use Rattle.directory.proofs.Apart.{held}

numbered : (k : WayNumber) → way_numbered (index_of k) ≡ Some k
numbered Zero = refl
numbered One = refl
numbered Two = refl
numbered Three = refl

unnumbered : (n : ℕ) → 4 ≤ n → way_numbered n ≡ None
unnumbered n h = grind (arith, nat_tests)

module _ (d : Dir) where
  asked : (i : ℕ) (k : WayNumber) → i < 256 → inspected d i (index_of k) ≡ way_state d i (Some k)
  asked i k h = cond-true (ltb i 256) _ None (lt-ltb i 256 h) ∙ ap (way_state d i) (numbered k)

  abbrev told : ℕ → WayNumber → Option Way → WayState
  told i k o = record { valid = is_some o; protect = option_map_or (λ w. w.protect) o false; tag = option_map_or (λ w. w.tag) o 0; lru = d.lru i }

  tells_the_line : (line i : ℕ) (k : WayNumber) (o : Option Way) (w : WayState) → has_tag (tag_of line) o ≡ true → told i k o ≡ w → (w.valid ≡ true) × (w.tag ≡ tag_of line)
  tells_the_line line i k None w h e = absurd (cc)
  tells_the_line line i k (Some y) w h e = (
    sym (ap (λ (x : WayState). x.valid) e),
    sym (ap (λ (x : WayState). x.tag) e) ∙ grind (arith, nat_tests),
  )

  pub tells_what_stands : TellsWhatStands d
  tells_what_stands = record {
    line = λ line k w f e.
        let same : Some (told (set_of line) k (d.way (set_of line) k)) ≡ Some w = sym (asked (set_of line) k (omega arith)) ∙ e in
        tells_the_line line (set_of line) k (d.way (set_of line) k) w (held d line k f) (cc);
    flag = λ i k y h e. asked i k h ∙ ap (λ (o : Option Way). Some (told i k o)) e;
    empty = λ i k h e. asked i k h ∙ ap (λ (o : Option Way). Some (told i k o)) e;
    no_set = λ i way h. grind (arith, nat_tests);
    no_way = λ i way h. ap (λ (k : Option WayNumber). cond (ltb i 256) (way_state d i k) None) (unnumbered way h) ∙ grind (arith, nat_tests);
  }
