-- The way just touched is not the next victim.
use Rattle.std.proofs.Common.{◌≡◌, ℕ, Bool, true, false, cond, eqb, find, is_some, ◌≢◌, sym, refl, ap, ◌∙◌, subst, arith}
use Rattle.std.proofs.lemmas.Bool.{cond-true, cond-false, eq-eqb, ne_eqb}
use Rattle.directory.specs.declared.lru.LruBits.{LruBits}
use Rattle.directory.specs.declared.lru.WayNumber.{WayNumber}
use Rattle.directory.specs.declared.lru.WayNumber.TheVariants.{Zero, One, Two, Three}
use Rattle.directory.specs.Touch.{same_way, touched_bits, victim_of}
use Rattle.directory.specs.Dirs.{Dir, set_of, touched}
use Rattle.directory.specs.Laws.{TouchedWayIsSpared, victims, VictimsGoRound, TouchSetsItsPair, EachTouchSetsItsPair, WayIsTouched}

neither : (b : Bool) (x y k : WayNumber) → x ≢ k → y ≢ k → cond b x y ≢ k
neither true x y k p q = p
neither false x y k p q = q

touched_is_spared : TouchedWayIsSpared
touched_is_spared m Zero = neither m.m2 Three Two Zero (λ e. absurd (cc)) (λ e. absurd (cc))
touched_is_spared m One = neither m.m2 Three Two One (λ e. absurd (cc)) (λ e. absurd (cc))
touched_is_spared m Two = neither m.m1 One Zero Two (λ e. absurd (cc)) (λ e. absurd (cc))
touched_is_spared m Three = neither m.m1 One Zero Three (λ e. absurd (cc)) (λ e. absurd (cc))

-- the same of a set of a directory
pub touch_spares : (d : Dir) (i : ℕ) (k : WayNumber) → victim_of ((touched d i k).lru i) ≢ k
touch_spares d i k e =
    touched_is_spared (d.lru i) k (sym (ap victim_of (cond-true (eqb i i) (touched_bits (d.lru i) k) (d.lru i) (eq-eqb i i refl))) ∙ e)

pub touch_sets : EachTouchSetsItsPair
touch_sets m Zero = record { pair = refl; first = λ h. (refl, refl); second = λ h. absurd (omega arith) }
touch_sets m One = record { pair = refl; first = λ h. (refl, refl); second = λ h. absurd (omega arith) }
touch_sets m Two = record { pair = refl; first = λ h. absurd (omega arith); second = λ h. (refl, refl) }
touch_sets m Three = record { pair = refl; first = λ h. absurd (omega arith); second = λ h. (refl, refl) }

-- to touch a way twice is to touch it once
touched_twice : (m : LruBits) (k : WayNumber) → touched_bits (touched_bits m k) k ≡ touched_bits m k
touched_twice m Zero = refl
touched_twice m One = refl
touched_twice m Two = refl
touched_twice m Three = refl

bits_here : (d : Dir) (i : ℕ) (k : WayNumber) → (touched d i k).lru i ≡ touched_bits (d.lru i) k
bits_here d i k = cond-true (eqb i i) (touched_bits (d.lru i) k) (d.lru i) (eq-eqb i i refl)

bits_there : (d : Dir) (i j : ℕ) (k : WayNumber) → j ≢ i → (touched d i k).lru j ≡ d.lru j
bits_there d i j k n = cond-false (eqb j i) (touched_bits (d.lru j) k) (d.lru j) (ne_eqb j i n)

-- e has the LRU bits of d
pub touch_touches : (d e : Dir) (line : ℕ) (k : WayNumber) → e.lru ≡ d.lru → WayIsTouched d (touched e (set_of line) k) line k
touch_touches d e line k same =
    let i = set_of line in
    let once : (touched e i k).lru i ≡ touched_bits (d.lru i) k = bits_here e i k ∙ ap (λ (f : ℕ → LruBits). touched_bits (f i) k) same in
    record {
      lru = subst (λ (m : LruBits). TouchSetsItsPair (d.lru i) m k) (sym once) (touch_sets (d.lru i) k);
      others = λ j n. bits_there e i j k n ∙ ap (λ (f : ℕ → LruBits). f j) same;
    }

-- e has them as they are once the way was touched
pub touch_again : (d e : Dir) (line : ℕ) (k : WayNumber) → e.lru ≡ (touched d (set_of line) k).lru → WayIsTouched d (touched e (set_of line) k) line k
touch_again d e line k same =
    let i = set_of line in
    let twice : (touched e i k).lru i ≡ touched_bits (d.lru i) k =
    bits_here e i k ∙ ap (λ (f : ℕ → LruBits). touched_bits (f i) k) same ∙ ap (λ (m : LruBits). touched_bits m k) (bits_here d i k) ∙ touched_twice (d.lru i) k in
    record {
      lru = subst (λ (m : LruBits). TouchSetsItsPair (d.lru i) m k) (sym twice) (touch_sets (d.lru i) k);
      others = λ j n. bits_there e i j k n ∙ ap (λ (f : ℕ → LruBits). f j) same ∙ bits_there d i j k n;
    }

two_spared : (m : LruBits) (j k : WayNumber) → victim_of (touched_bits (touched_bits m j) k) ≢ j
two_spared m Zero Zero = neither m.m2 Three Two Zero (λ e. absurd (cc)) (λ e. absurd (cc))
two_spared m Zero One = neither m.m2 Three Two Zero (λ e. absurd (cc)) (λ e. absurd (cc))
two_spared m Zero Two = λ e. absurd (cc)
two_spared m Zero Three = λ e. absurd (cc)
two_spared m One Zero = neither m.m2 Three Two One (λ e. absurd (cc)) (λ e. absurd (cc))
two_spared m One One = neither m.m2 Three Two One (λ e. absurd (cc)) (λ e. absurd (cc))
two_spared m One Two = λ e. absurd (cc)
two_spared m One Three = λ e. absurd (cc)
two_spared m Two Zero = λ e. absurd (cc)
two_spared m Two One = λ e. absurd (cc)
two_spared m Two Two = neither m.m1 One Zero Two (λ e. absurd (cc)) (λ e. absurd (cc))
two_spared m Two Three = neither m.m1 One Zero Two (λ e. absurd (cc)) (λ e. absurd (cc))
two_spared m Three Zero = λ e. absurd (cc)
two_spared m Three One = λ e. absurd (cc)
two_spared m Three Two = neither m.m1 One Zero Three (λ e. absurd (cc)) (λ e. absurd (cc))
two_spared m Three Three = neither m.m1 One Zero Three (λ e. absurd (cc)) (λ e. absurd (cc))

all_in_turn : (m : LruBits) (k : WayNumber) → is_some (find (same_way k) (victims 4 m)) ≡ true
all_in_turn m k = by_bits m.m0 m.m1 m.m2 k
  where
    by_bits : (a b c : Bool) (k : WayNumber) → is_some (find (same_way k) (victims 4 (record { m0 = a; m1 = b; m2 = c }))) ≡ true
    by_bits true true true Zero = refl
    by_bits true true true One = refl
    by_bits true true true Two = refl
    by_bits true true true Three = refl
    by_bits true true false Zero = refl
    by_bits true true false One = refl
    by_bits true true false Two = refl
    by_bits true true false Three = refl
    by_bits true false true Zero = refl
    by_bits true false true One = refl
    by_bits true false true Two = refl
    by_bits true false true Three = refl
    by_bits true false false Zero = refl
    by_bits true false false One = refl
    by_bits true false false Two = refl
    by_bits true false false Three = refl
    by_bits false true true Zero = refl
    by_bits false true true One = refl
    by_bits false true true Two = refl
    by_bits false true true Three = refl
    by_bits false true false Zero = refl
    by_bits false true false One = refl
    by_bits false true false Two = refl
    by_bits false true false Three = refl
    by_bits false false true Zero = refl
    by_bits false false true One = refl
    by_bits false false true Two = refl
    by_bits false false true Three = refl
    by_bits false false false Zero = refl
    by_bits false false false One = refl
    by_bits false false false Two = refl
    by_bits false false false Three = refl

pub victims_go_round : VictimsGoRound
victims_go_round = record { two = two_spared; four = all_in_turn }
