-- A set is written: what can be asked of the directory afterwards.
use Rattle.std.proofs.Common.{◌≡◌, ℕ, ◌<◌, Bool, true, false, cond, ◌&&◌, eqb, List, length, get_or, set, replicate, None, Option, sym, refl, ap, ◌∙◌, subst, inl, inr, arith}
use Rattle.std.proofs.lemmas.List.{get_or-set_same, get_or-set_other, get_or-replicate, get_or_past}
use Rattle.std.proofs.lemmas.Bool.Decides.{nat_tests}
use Rattle.std.proofs.lemmas.Bool.{cases_eq, cases_lt, eqb-true}
use Rattle.directory.specs.declared.lru.LruBits.{LruBits}
use Rattle.directory.specs.declared.lru.WayNumber.{WayNumber}
use Rattle.directory.specs.declared.sets.Way.{Way}
use Rattle.directory.specs.declared.sets.SetRecord.{SetRecord}
use Rattle.directory.specs.Touch.{index_of, same_way, untouched, touched_bits}
use Rattle.directory.specs.Sets.{no_set, way_in, touched_set, put_set}
use Rattle.directory.specs.Dirs.{view_of, emptied, put, touched}
use Rattle.directory.proofs.Numbering.{index_below}

-- a choice whose two sides agree, or whose first side may be replaced
kept : {X : Type 0} (a : Bool) (x y : X) → (a ≡ true → x ≡ y) → cond a x y ≡ y
kept true x y e = e refl
kept false x y e = refl

chosen : {X : Type 0} (a : Bool) (x x' y : X) → (a ≡ true → x ≡ x') → cond a x y ≡ cond a x' y
chosen true x x' y e = e refl
chosen false x x' y e = refl

nested : {X : Type 0} (a b : Bool) (x y z : X) → (a ≡ true → z ≡ y) → cond a (cond b x z) y ≡ cond (a && b) x y
nested true true x y z e = refl
nested true false x y z e = e refl
nested false b x y z e = refl

-- what is asked of one index of a list, after one index is written
at : {A B : Type 0} (f : A → B) (xs : List A) (i : ℕ) (x d : A) → i < length xs → (j : ℕ) → f (get_or (set xs i x) j d) ≡ cond (eqb j i) (f x) (f (get_or xs j d))
at f xs i x d h j =
    elim (cases_eq j i) [
      | inl e ↦ grind (arith, nat_tests, get_or-set_same)
      | inr n ↦ grind (arith, nat_tests, get_or-set_other)
    ]

module _ (sets : List SetRecord) (i : ℕ) (k : WayNumber) (h : i < length sets) where
  here : {B : Type 0} (f : SetRecord → B) (j : ℕ) → eqb j i ≡ true → f (get_or sets i no_set) ≡ f (get_or sets j no_set)
  here f j e = ap (λ (m : ℕ). f (get_or sets m no_set)) (sym (eqb-true j i e))

  ways_kept : (m : LruBits) (j : ℕ) (l : WayNumber) → way_in (get_or (set sets i (record { ways = (get_or sets i no_set).ways; lru = m })) j no_set) l ≡ way_in (get_or sets j no_set) l
  ways_kept m j l =
      at (λ s. way_in s l) sets i (record { ways = (get_or sets i no_set).ways; lru = m }) no_set h j
      ∙ kept (eqb j i) (way_in (get_or sets i no_set) l) (way_in (get_or sets j no_set) l) (here (λ s. way_in s l) j)

  ways_put : (w : Option Way) (m : LruBits) → length (get_or sets i no_set).ways ≡ 4 → (j : ℕ) (l : WayNumber) → way_in (get_or (set sets i (record { ways = set (get_or sets i no_set).ways (index_of k) w; lru = m })) j no_set) l ≡ cond (eqb j i && same_way l k) w (way_in (get_or sets j no_set) l)
  ways_put w m wide j l =
      at (λ s. way_in s l) sets i (record { ways = set (get_or sets i no_set).ways (index_of k) w; lru = m }) no_set h j
      ∙ ap (λ (x : Option Way). cond (eqb j i) x (way_in (get_or sets j no_set) l)) (at (λ x. x) (get_or sets i no_set).ways (index_of k) w None (omega (arith, index_below k)) (index_of l))
      ∙ nested (eqb j i) (same_way l k) w (way_in (get_or sets j no_set) l) (way_in (get_or sets i no_set) l) (here (λ s. way_in s l) j)

  bits_kept : (ws : List (Option Way)) (j : ℕ) → (get_or (set sets i (record { ways = ws; lru = (get_or sets i no_set).lru })) j no_set).lru ≡ (get_or sets j no_set).lru
  bits_kept ws j =
      at (λ s. s.lru) sets i (record { ways = ws; lru = (get_or sets i no_set).lru }) no_set h j
      ∙ kept (eqb j i) (get_or sets i no_set).lru (get_or sets j no_set).lru (here (λ s. s.lru) j)

  bits_touched : (ws : List (Option Way)) (j : ℕ) → (get_or (set sets i (record { ways = ws; lru = touched_bits (get_or sets i no_set).lru k })) j no_set).lru ≡ cond (eqb j i) (touched_bits (get_or sets j no_set).lru k) (get_or sets j no_set).lru
  bits_touched ws j =
      at (λ s. s.lru) sets i (record { ways = ws; lru = touched_bits (get_or sets i no_set).lru k }) no_set h j
      ∙ chosen (eqb j i) (touched_bits (get_or sets i no_set).lru k) (touched_bits (get_or sets j no_set).lru k) (get_or sets j no_set).lru (here (λ s. touched_bits s.lru k) j)

  pub view_touched : view_of (set sets i (touched_set (get_or sets i no_set) k)) ≡ touched (view_of sets) i k
  view_touched = λ n. record {
    way = λ j l. ways_kept (touched_bits (get_or sets i no_set).lru k) j l n;
    lru = λ j. bits_touched (get_or sets i no_set).ways j n;
  }

  pub view_put : (w : Option Way) → length (get_or sets i no_set).ways ≡ 4 → view_of (set sets i (put_set (get_or sets i no_set) k w)) ≡ put (view_of sets) i k w
  view_put w wide = λ n. record {
    way = λ j l. ways_put w (get_or sets i no_set).lru wide j l n;
    lru = λ j. bits_kept (set (get_or sets i no_set).ways (index_of k) w) j n;
  }

  pub view_installed : (w : Option Way) → length (get_or sets i no_set).ways ≡ 4 → view_of (set sets i (touched_set (put_set (get_or sets i no_set) k w) k)) ≡ touched (put (view_of sets) i k w) i k
  view_installed w wide = λ n. record {
    way = λ j l. ways_put w (touched_bits (get_or sets i no_set).lru k) wide j l n;
    lru = λ j. bits_touched (set (get_or sets i no_set).ways (index_of k) w) j n;
  }

-- A set whose four ways are invalid, and that was never touched.
abbrev empty_set : SetRecord
empty_set = record { ways = replicate 4 None; lru = untouched }

empty_set_lem : (P : SetRecord → Type 0) → P empty_set → P no_set → (i : ℕ) → P (get_or (replicate 256 empty_set) i no_set)
empty_set_lem P a b i =
    elim (cases_lt i 256) [
      | inl h ↦ subst P (sym (get_or-replicate 256 i empty_set no_set h)) a
      | inr h ↦ subst P (sym (get_or_past (replicate 256 empty_set) i no_set h)) b
    ]

pub view_empty : view_of (replicate 256 empty_set) ≡ emptied
view_empty = λ n. record {
  way = λ j l. empty_set_lem (λ s. way_in s l ≡ None) (get_or-replicate 4 (index_of l) None None (index_below l)) refl j n;
  lru = λ j. empty_set_lem (λ s. s.lru ≡ untouched) refl refl j n;
}
