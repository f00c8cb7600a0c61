-- No two valid ways of a set have the same tag: what keeps it, and what follows.
use Rattle.std.proofs.Common.{◌≡◌, ℕ, Bool, true, false, not, ◌&&◌, ◌≢◌, List, [], ◌∷◌, Some, None, find, Option, sym, refl, ap, ◌∙◌, ap₂, inl, inr, arith}
use Rattle.std.proofs.lemmas.Bool.{cases_eq, cases_Bool, eq-eqb, ne_eqb, cond-true, cond-false, and_left, and_right, not_from_true, both_ways}
use Rattle.std.proofs.lemmas.Bool.Decides.{nat_tests}
use Rattle.std.specs.Option.{option_map}
use Rattle.directory.specs.declared.lru.WayNumber.{WayNumber}
use Rattle.directory.specs.declared.lru.WayNumber.TheVariants.{Zero, One, Two, Three}
use Rattle.directory.specs.declared.sets.Way.{Way}
use Rattle.directory.specs.Touch.{index_of, same_way, every_way}
use Rattle.directory.specs.Sets.{filled_way, worded_way, has_tag}
use Rattle.directory.specs.Dirs.{Dir, set_of, tag_of, emptied, put, holds, found, installed, dropped_of, dropped, changed, twin_ways}
use Rattle.port.specs.Memory.{line_of, offset_of}
use Rattle.directory.specs.Laws.{LinesAreDealtToSets, TagsAreApart, OneWayHoldsALine, InstallKeepsOtherLines, DropForgetsOneLine, ChangeMovesNoLine}
use Rattle.directory.proofs.Numbering.{index_injective}
use Rattle.directory.proofs.Sparing.{touch_touches}

twin_sym : (x y : Option Way) → twin_ways x y ≡ false → twin_ways y x ≡ false
twin_sym x y e = grind (arith, nat_tests)

-- a way after another, or the same, was put in its offset
module _ (d : Dir) (i : ℕ) (k : WayNumber) (w : Option Way) where
  pub put_here : (j : ℕ) (l : WayNumber) → j ≡ i → index_of l ≡ index_of k → (put d i k w).way j l ≡ w
  put_here j l e f = grind (arith, nat_tests)

  pub put_other_set : (j : ℕ) (l : WayNumber) → j ≢ i → (put d i k w).way j l ≡ d.way j l
  put_other_set j l n = grind (arith, nat_tests)

  pub put_other_way : (j : ℕ) (l : WayNumber) → (index_of l ≡ index_of k → ⊥) → (put d i k w).way j l ≡ d.way j l
  put_other_way j l n = grind (arith, nat_tests)

  -- the way that is put there has no twin among the others of its set
  pub apart_put : TagsAreApart d → ((l : WayNumber) → (index_of l ≡ index_of k → ⊥) → twin_ways w (d.way i l) ≡ false) → TagsAreApart (put d i k w)
  apart_put a f n j l =
      elim (cases_eq n i) [
        | inr other ↦ ap₂ (λ (x y : Option Way). not (same_way j l) && twin_ways x y) (put_other_set n j other) (put_other_set n l other) ∙ a n j l
        | inl e ↦ elim (cases_eq (index_of j) (index_of k)) [
          | inl jk ↦ elim (cases_eq (index_of l) (index_of k)) [
            | inl lk ↦ and_left (not (same_way j l)) _ (not_from_true (same_way j l) (eq-eqb (index_of j) (index_of l) (jk ∙ sym lk)))
            | inr ln ↦ and_right (not (same_way j l)) _ (ap₂ twin_ways (put_here n j e jk) (put_other_way n l ln) ∙ ap (λ (m : ℕ). twin_ways w (d.way m l)) e ∙ f l ln)
          ]
          | inr jn ↦ elim (cases_eq (index_of l) (index_of k)) [
            | inl lk ↦ and_right (not (same_way j l)) _ (ap₂ twin_ways (put_other_way n j jn) (put_here n l e lk) ∙ twin_sym w (d.way n j) (ap (λ (m : ℕ). twin_ways w (d.way m j)) e ∙ f j jn))
            | inr ln ↦ ap₂ (λ (x y : Option Way). not (same_way j l) && twin_ways x y) (put_other_way n j jn) (put_other_way n l ln) ∙ a n j l
          ]
        ]
      ]

-- ---- the search of a set

first_passes : (p : WayNumber → Bool) (ks : List WayNumber) (k : WayNumber) → find p ks ≡ Some k → p k ≡ true
first_passes p [] k e = absurd (cc)
first_passes p (x ∷ ks) k e =
    elim (cases_Bool (p x)) [
      | inl y ↦ (let same : Some x ≡ Some k = sym (cond-true (p x) (Some x) (find p ks) y) ∙ e in cc)
      | inr n ↦ first_passes p ks k (sym (cond-false (p x) (Some x) (find p ks) n) ∙ e)
    ]

module _ (d : Dir) where
  pub held : (line : ℕ) (k : WayNumber) → found d line ≡ Some k → holds d line k ≡ true
  held line k e = first_passes (holds d line) every_way k e

  pub absent : (line : ℕ) → found d line ≡ None → (k : WayNumber) → holds d line k ≡ false
  absent line e Zero = grind (arith, nat_tests)
  absent line e One = grind (arith, nat_tests)
  absent line e Two = grind (arith, nat_tests)
  absent line e Three = grind (arith, nat_tests)

  pub unheld : (line : ℕ) → ((k : WayNumber) → holds d line k ≡ false) → found d line ≡ None
  unheld line e = λ n. find (λ k. e k n) every_way

-- two ways of one tag are twins
both_twins : (tag : ℕ) (x y : Option Way) → has_tag tag x ≡ true → has_tag tag y ≡ true → twin_ways x y ≡ false → ⊥
both_twins tag x y f g e = grind (arith, nat_tests)

module _ (d : Dir) (a : TagsAreApart d) where
  pub one : (line : ℕ) (j k : WayNumber) → holds d line j ≡ true → holds d line k ≡ true → j ≡ k
  one line j k hj hk =
      elim (cases_eq (index_of j) (index_of k)) [
        | inl e ↦ index_injective j k e
        | inr n ↦ absurd (let t = a (set_of line) j k in grind (arith, nat_tests, both_twins (tag_of line) (d.way (set_of line) j) (d.way (set_of line) k) hj hk))
      ]

  pub finds : (line : ℕ) (k : WayNumber) → holds d line k ≡ true → found d line ≡ Some k
  finds line k h = by_answer (found d line) refl
    where
      by_answer : (o : Option WayNumber) → found d line ≡ o → found d line ≡ Some k
      by_answer None e = absurd (both_ways (holds d line k) (absent d line e k) h)
      by_answer (Some j) e = e ∙ ap Some (one line j k (held d line j e) h)

  pub one_way : OneWayHoldsALine d
  one_way = record { one = one; finds = finds; held = held d; none = absent d }

-- ---- what each change keeps

pub apart_emptied : TagsAreApart emptied
apart_emptied i j k = and_right (not (same_way j k)) _ refl

pub apart_installed : (d : Dir) (line : ℕ) (k : WayNumber) (protect : Bool) (words : List ℕ) → TagsAreApart d → found d line ≡ None → TagsAreApart (installed d line k protect words)
apart_installed d line k protect words a e =
    apart_put d (set_of line) k (Some (filled_way (tag_of line) protect words)) a
    (λ l _. untwinned (d.way (set_of line) l) (absent d line e l))
  where
    untwinned : (o : Option Way) → has_tag (tag_of line) o ≡ false → twin_ways (Some (filled_way (tag_of line) protect words)) o ≡ false
    untwinned None f = refl
    untwinned (Some w) f = grind (arith, nat_tests)

pub apart_dropped : (d : Dir) (line : ℕ) (k : WayNumber) → TagsAreApart d → TagsAreApart (put d (set_of line) k None)
apart_dropped d line k a = apart_put d (set_of line) k None a (λ l _. refl)

twin_worded : (x y : Option Way) (offset value : ℕ) → twin_ways x y ≡ false → twin_ways (option_map (λ w. worded_way w offset value) x) y ≡ false
twin_worded None y offset value e = refl
twin_worded (Some x) None offset value e = refl
twin_worded (Some x) (Some y) offset value e = e

pub apart_changed : (d : Dir) (word : ℕ) (k : WayNumber) (value : ℕ) → TagsAreApart d → TagsAreApart (changed d word k value)
apart_changed d word k value a =
    apart_put d (set_of (line_of word)) k (option_map (λ w. worded_way w (offset_of word) value) (d.way (set_of (line_of word)) k)) a
    (λ l n. twin_worded (d.way (set_of (line_of word)) k) (d.way (set_of (line_of word)) l) (offset_of word) value
    (let t = a (set_of (line_of word)) k l in grind (arith, nat_tests)))

-- ---- the law of an install

-- where a way holds a line, no other way does
not_two : (d : Dir) → TagsAreApart d → (line : ℕ) (k : WayNumber) → holds d line k ≡ true → (j : WayNumber) → (index_of j ≡ index_of k → ⊥) → holds d line j ≡ false
not_two d a line k h j n = elim (cases_Bool (holds d line j)) [ inl y ↦ absurd (n (ap index_of (one d a line j k y h))) | inr f ↦ f ]

module _ (d : Dir) (line : ℕ) (k : WayNumber) (protect : Bool) (words : List ℕ) (a : TagsAreApart d) (e : found d line ≡ None) where
  abbrev here : Option Way
  here = Some (filled_way (tag_of line) protect words)

  -- a way that holds a line and was not replaced is as it was
  unmoved : (other : ℕ) (j : WayNumber) → (set_of other ≡ set_of line → j ≢ k) → (put d (set_of line) k (Some (filled_way (tag_of line) protect words))).way (set_of other) j ≡ d.way (set_of other) j
  unmoved other j n =
      elim (cases_eq (set_of other) (set_of line)) [
        | inl same ↦ put_other_way d (set_of line) k (Some (filled_way (tag_of line) protect words)) (set_of other) j (λ f. n same (index_injective j k f))
        | inr away ↦ put_other_set d (set_of line) k (Some (filled_way (tag_of line) protect words)) (set_of other) j away
      ]

  -- the way that the line went into holds no other
  new_way : (other : ℕ) → other ≢ line → set_of other ≡ set_of line → (j : WayNumber) → index_of j ≡ index_of k → holds (put d (set_of line) k here) other j ≡ false
  new_way other n e j jk =
      ap (has_tag (tag_of other)) (put_here d (set_of line) k here (set_of other) j e jk) ∙ ne_eqb (tag_of line) (tag_of other) (λ g. n (omega arith))

  pub install_keeps : InstallKeepsOtherLines d (installed d line k protect words) line k
  install_keeps = record {
    new = finds (installed d line k protect words) (apart_installed d line k protect words a e) line k
        (ap (has_tag (tag_of line)) (put_here d (set_of line) k (Some (filled_way (tag_of line) protect words)) (set_of line) k refl refl) ∙ eq-eqb (tag_of line) (tag_of line) refl);
    touch = touch_touches d (put d (set_of line) k (Some (filled_way (tag_of line) protect words))) line k refl;
    others = λ other j f n. finds (installed d line k protect words) (apart_installed d line k protect words a e) other j
        (ap (has_tag (tag_of other)) (unmoved other j n) ∙ held d other j f);
    displaced = λ other n e f. unheld (installed d line k protect words) other (λ j. elim (cases_eq (index_of j) (index_of k)) [
      | inl jk ↦ new_way other n e j jk
      | inr jn ↦ ap (has_tag (tag_of other)) (put_other_way d (set_of line) k here (set_of other) j jn) ∙ not_two d a other k (held d other k f) j jn
    ]);
    no_more = λ other n f. unheld (installed d line k protect words) other (λ j. elim (cases_eq (set_of other) (set_of line)) [
      | inr away ↦ ap (has_tag (tag_of other)) (put_other_set d (set_of line) k here (set_of other) j away) ∙ absent d other f j
      | inl e ↦ elim (cases_eq (index_of j) (index_of k)) [
        | inl jk ↦ new_way other n e j jk
        | inr jn ↦ ap (has_tag (tag_of other)) (put_other_way d (set_of line) k here (set_of other) j jn) ∙ absent d other f j
      ]
    ]);
  }

-- ---- the law of a drop

-- a way that holds a line holds no other line of its set
other_tag : (d : Dir) (line other : ℕ) (k : WayNumber) → holds d line k ≡ true → other ≢ line → set_of other ≡ set_of line → holds d other k ≡ false
other_tag d line other k h n e =
    ap (λ (i : ℕ). has_tag (tag_of other) (d.way i k)) e ∙ one_tag (d.way (set_of line) k) h
  where
    one_tag : (o : Option Way) → has_tag (tag_of line) o ≡ true → has_tag (tag_of other) o ≡ false
    one_tag None f = refl
    one_tag (Some w) f = let t : w.tag ≡ tag_of line = grind (arith, nat_tests) in ne_eqb w.tag (tag_of other) (λ g. n (omega arith))

module _ (d : Dir) (line : ℕ) (a : TagsAreApart d) where
  module _ (k : WayNumber) (h : holds d line k ≡ true) where
    gone_way : (j : WayNumber) → holds (put d (set_of line) k None) line j ≡ false
    gone_way j =
        elim (cases_eq (index_of j) (index_of k)) [
          | inl e ↦ ap (has_tag (tag_of line)) (put_here d (set_of line) k None (set_of line) j refl e)
          | inr n ↦ ap (has_tag (tag_of line)) (put_other_way d (set_of line) k None (set_of line) j n) ∙ not_two d a line k h j n
        ]

    other_way : (other : ℕ) → other ≢ line → (j : WayNumber) → holds (put d (set_of line) k None) other j ≡ holds d other j
    other_way other n j =
        elim (cases_eq (set_of other) (set_of line)) [
          | inr away ↦ ap (has_tag (tag_of other)) (put_other_set d (set_of line) k None (set_of other) j away)
          | inl e ↦ elim (cases_eq (index_of j) (index_of k)) [
            | inr jn ↦ ap (has_tag (tag_of other)) (put_other_way d (set_of line) k None (set_of other) j jn)
            | inl jk ↦ ap (has_tag (tag_of other)) (put_here d (set_of line) k None (set_of other) j e jk)
                ∙ sym (ap (holds d other) (index_injective j k jk) ∙ other_tag d line other k h n e)
          ]
        ]

    pub put_forgets : DropForgetsOneLine d (put d (set_of line) k None) line
    put_forgets = record { gone = unheld (put d (set_of line) k None) line gone_way; others = λ other n. λ m. find (λ j. other_way other n j m) every_way; lru = refl }

  pub drop_forgets : DropForgetsOneLine d (dropped d line) line
  drop_forgets = by_answer (found d line) refl
    where
      by_answer : (o : Option WayNumber) → found d line ≡ o → DropForgetsOneLine d (dropped_of d line o) line
      by_answer None e = record { gone = e; others = λ other n. refl; lru = refl }
      by_answer (Some k) e = put_forgets k (held d line k e)

-- ---- the law of a change

tag_worded : (x : Option Way) (offset value tag : ℕ) → has_tag tag (option_map (λ w. worded_way w offset value) x) ≡ has_tag tag x
tag_worded None offset value tag = refl
tag_worded (Some x) offset value tag = refl

module _ (d : Dir) (word : ℕ) (k : WayNumber) (value : ℕ) where
  same_holds : (line : ℕ) (j : WayNumber) → holds (changed d word k value) line j ≡ holds d line j
  same_holds line j =
      elim (cases_eq (set_of line) (set_of (line_of word))) [
        | inr away ↦ ap (has_tag (tag_of line)) (put_other_set d (set_of (line_of word)) k w (set_of line) j away)
        | inl e ↦ elim (cases_eq (index_of j) (index_of k)) [
          | inr jn ↦ ap (has_tag (tag_of line)) (put_other_way d (set_of (line_of word)) k w (set_of line) j jn)
          | inl jk ↦ ap (has_tag (tag_of line)) (put_here d (set_of (line_of word)) k w (set_of line) j e jk)
              ∙ tag_worded (d.way (set_of (line_of word)) k) (offset_of word) value (tag_of line)
              ∙ sym (ap₂ (λ (i : ℕ) (l : WayNumber). has_tag (tag_of line) (d.way i l)) e (index_injective j k jk))
        ]
      ]
    where
      w : Option Way
      w = option_map (λ x. worded_way x (offset_of word) value) (d.way (set_of (line_of word)) k)

  pub change_moves_none : ChangeMovesNoLine d (changed d word k value)
  change_moves_none line = λ n. find (λ j. same_holds line j n) every_way

-- ---- sets and tags

pub lines_are_dealt : LinesAreDealtToSets
lines_are_dealt = record { set = λ t k h. omega (arith, h); tag = λ t k h. omega (arith, h) }
