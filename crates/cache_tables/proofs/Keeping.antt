-- What keeps the tables coherent while the memory below stays as it is seen.
use Rattle.std.proofs.Common.{◌≡◌, ℕ, ◌+◌, ◌*◌, ◌<◌, ◌≤◌, Bool, true, false, cond, ◌&&◌, eqb, List, get_or, Some, None, Option, sym, refl, ap, ◌∙◌, subst, inl, inr, arith}
use lib.Count.{ones}
use Rattle.std.proofs.lemmas.Bool.{cases_eq, eq-eqb, eqb-true, eqb-false, and_parts, and_from, cond-true}
use Rattle.directory.specs.declared.lru.WayNumber.{WayNumber}
use Rattle.directory.specs.declared.sets.Way.{Way}
use Rattle.directory.specs.declared.fills.Fill.{Fill}
use Rattle.directory.specs.Touch.{same_way}
use Rattle.directory.specs.Sets.{filled_way}
use Rattle.directory.specs.Dirs.{Dir, set_of, tag_of, put, touched, found, installed}
use Rattle.port.specs.Memory.{line_of, offset_of}
use Rattle.directory.specs.Ticks.{ticked, ticks_after, next_offset, next_word, complete, with_word, fetched_word}
use Rattle.directory.proofs.Apart.{apart_installed}
use Rattle.directory.proofs.Ticking.{next_small, stored_count, stored_ordered, store_adds, ticked_all}
use Rattle.cache_tables.specs.Showing.{Shown, line_seen, whole}
use Rattle.cache_tables.specs.Rules.{idle, stowed, fetched_of, finished_of, finished}
use Rattle.cache_tables.specs.Coherence.{Sees, WayKept, Filling, FillKept, Coherent}
use Rattle.cache_tables.proofs.Lines.{eight_is, all_from, not_all, line_set}

-- what holds of the value that is there holds of it under another name
pub given : {X : Type 0} (P : X → Type 0) (x y : X) → Some x ≡ Some y → P x → P y
given P x y e h = let same : x ≡ y = cc in subst P same h

-- a way is put: what holds of the others and of it holds of all
pub ways_put : (P : ℕ → Way → Type 0) (d : Dir) (i : ℕ) (k : WayNumber) (o : Option Way) →
    ((j : ℕ) (l : WayNumber) (y : Way) → (eqb j i && same_way l k) ≡ false → d.way j l ≡ Some y → P j y) → ((y : Way) → o ≡ Some y → P i y) →
    (j : ℕ) (l : WayNumber) (y : Way) → (put d i k o).way j l ≡ Some y → P j y
ways_put P d i k o a b j l y = by_test (eqb j i && same_way l k) refl
  where
    by_test : (t : Bool) → (eqb j i && same_way l k) ≡ t → cond t o (d.way j l) ≡ Some y → P j y
    by_test true e h = subst (λ (x : ℕ). P x y) (sym (eqb-true j i (and_parts (eqb j i) (same_way l k) e).0)) (b y h)
    by_test false e h = a j l y e h

-- no fill is under way
pub no_filling : (v : Shown) (d : Dir) → FillKept v d None
no_filling v d b e = absurd (cc)

-- the fill is given up
pub abandon : (v : Shown) (d : Dir) (f : Option Fill) → Coherent v (record { dir = d; fill = f }) → Coherent v (idle d)
abandon v d f c = record { few = c.few; lined = c.lined; ways = c.ways; apart = c.apart; fill = no_filling v d }

-- a fill goes on where its line is still in no way
pub still_filling : (v : Shown) (d e : Dir) (b : Fill) → found e b.line ≡ found d b.line → Filling v d b → Filling v e b
still_filling v d e b same h = record { under = h.under; inside = h.inside; cached = h.cached; shut = h.shut; got = h.got; absent = same ∙ h.absent }

-- a touch leaves the ways
pub touch : (v : Shown) (d : Dir) (f : Option Fill) (i : ℕ) (k : WayNumber) → Coherent v (record { dir = d; fill = f }) → Coherent v (record { dir = touched d i k; fill = f })
touch v d f i k c = record { few = c.few; lined = c.lined; ways = c.ways; apart = c.apart; fill = λ b e. still_filling v d (touched d i k) b refl (c.fill b e) }

-- ---- a whole line goes into a way

pub kept_line : (v : Shown) (l : ℕ) (p : Bool) (ws : List ℕ) → l * 8 + 8 ≤ v.words → p ≡ v.protected l → ws ≡ line_seen v l → whole v l ≡ true → WayKept v (set_of l) (filled_way (tag_of l) p ws)
kept_line v l p ws inside shut same legible = record {
  set = omega arith;
  inside = omega (arith, line_set l);
  same = subst (λ (x : ℕ). ws ≡ line_seen v x) (sym (line_set l)) same;
  legible = subst (λ (x : ℕ). whole v x ≡ true) (sym (line_set l)) legible;
  shut = subst (λ (x : ℕ). p ≡ v.protected x) (sym (line_set l)) shut;
}

pub install : (v : Shown) (d : Dir) (f : Option Fill) (l : ℕ) (k : WayNumber) (p : Bool) (ws : List ℕ) → Coherent v (record { dir = d; fill = f }) → found d l ≡ None →
    WayKept v (set_of l) (filled_way (tag_of l) p ws) → Coherent v (idle (installed d l k p ws))
install v d f l k p ws c absent kept = record {
  few = c.few;
  lined = c.lined;
  ways = ways_put (WayKept v) d (set_of l) k (Some (filled_way (tag_of l) p ws)) (λ j m y _. c.ways j m y) (λ y e. given (WayKept v (set_of l)) (filled_way (tag_of l) p ws) y e kept);
  apart = apart_installed d l k p ws c.apart absent;
  fill = no_filling v (installed d l k p ws);
}

pub install_fill : (v : Shown) (d : Dir) (f : Option Fill) (b : Fill) (ws : List ℕ) → Coherent v (record { dir = d; fill = f }) → b.line * 8 + 8 ≤ v.words → b.protect ≡ v.protected b.line →
    found d b.line ≡ None → ws ≡ line_seen v b.line → whole v b.line ≡ true → Coherent v (idle (installed d b.line b.way b.protect ws))
install_fill v d f b ws c inside shut absent same legible =
    install v d f b.line b.way b.protect ws c absent (kept_line v b.line b.protect ws inside shut same legible)

-- ---- one word comes

module _ (v : Shown) (d : Dir) (b : Fill) (h : Filling v d b) where
  pub next_below : next_offset b < 8
  next_below = next_small b h.under

  pub next_inside : next_word b < v.words
  next_inside = omega (arith, next_below, h.inside)

  module _ (r : v.readable (next_word b) ≡ true) where
    got_more : (w x : ℕ) → fetched_word (with_word b (v.word (next_word b))) w ≡ Some x → Sees v w x
    got_more w x e =
        elim (cases_eq w (next_word b)) [
          | inl y ↦ (let same : Some (v.word (next_word b)) ≡ Some x = sym (store_adds b h.under (v.word (next_word b))).new ∙ ap (fetched_word (with_word b (v.word (next_word b)))) (sym y) ∙ e in
              let value : v.word (next_word b) ≡ x = cc in
              (ap (λ (a : ℕ). v.readable a) y ∙ r, sym value ∙ ap (λ (a : ℕ). v.word a) (sym y)))
          | inr n ↦ h.got w x (sym ((store_adds b h.under (v.word (next_word b))).others w n) ∙ e)
        ]

    pub count_more : ones (with_word b (v.word (next_word b))).ticks ≡ ones b.ticks + 1
    count_more = stored_count b h.under (v.word (next_word b))

    pub filling_more : ones (with_word b (v.word (next_word b))).ticks < 8 → Filling v d (with_word b (v.word (next_word b)))
    filling_more s = record {
      under = record { ordered = stored_ordered b h.under (v.word (next_word b)); short = s };
      inside = h.inside;
      cached = h.cached;
      shut = h.shut;
      got = got_more;
      absent = h.absent;
    }

    module _ (full : ones (with_word b (v.word (next_word b))).ticks ≡ 8) where
      all_ticked : (p : ℕ) → p < 8 → ticked (with_word b (v.word (next_word b))).ticks p ≡ true
      all_ticked p hp =
          ap (λ (x : ℕ). ticked x p) ((stored_ordered b h.under (v.word (next_word b))).order ∙ ap (ticks_after b.first) full) ∙ ticked_all b.first p h.under.ordered.offset hp

      sees_all : (p : ℕ) → p < 8 → Sees v (b.line * 8 + p) (get_or (with_word b (v.word (next_word b))).words p 0)
      sees_all p hp =
          let b' = with_word b (v.word (next_word b)) in
          let at : line_of (b.line * 8 + p) ≡ b.line = omega arith in
          let offset : offset_of (b.line * 8 + p) ≡ p = omega arith in
          got_more (b.line * 8 + p) (get_or b'.words p 0)
          (cond-true (eqb b.line (line_of (b.line * 8 + p)) && ticked b'.ticks (offset_of (b.line * 8 + p))) _ None
          (and_from _ _ (eq-eqb b.line (line_of (b.line * 8 + p)) (sym at)) (ap (ticked b'.ticks) offset ∙ all_ticked p hp))
          ∙ ap (λ (q : ℕ). Some (get_or b'.words q 0)) offset)

      pub words_full : (with_word b (v.word (next_word b))).words ≡ line_seen v b.line
      words_full = eight_is _ (λ p. v.word (b.line * 8 + p)) (stored_ordered b h.under (v.word (next_word b))).sized (λ p hp. (sees_all p hp).1)

      pub whole_full : whole v b.line ≡ true
      whole_full = all_from (λ p. v.readable (b.line * 8 + p)) 8 (λ p hp. (sees_all p hp).0)

-- a word that cannot be read
pub not_whole : (v : Shown) (d : Dir) (b : Fill) → Filling v d b → v.readable (next_word b) ≡ false → whole v b.line ≡ false
not_whole v d b h e = not_all (λ p. v.readable (b.line * 8 + p)) 8 (next_offset b) (next_below v d b h) e

-- one word fetched: the tables stay coherent, to finish them comes to the same, and fewer words are lacking
module _ (v : Shown) (d : Dir) (b : Fill) (c : Coherent v (record { dir = d; fill = Some b })) where
  abbrev next : Fill
  next = with_word b (v.word (next_word b))

  pub stow_keeps : v.readable (next_word b) ≡ true → (t : Bool) → complete next ≡ t → Coherent v (cond t (idle (installed d b.line b.way b.protect next.words)) (record { dir = d; fill = Some next }))
  stow_keeps r true e =
      let full = eqb-true (ones next.ticks) 8 e in
      install_fill v d (Some b) next next.words c (c.fill b refl).inside (c.fill b refl).shut (c.fill b refl).absent (words_full v d b (c.fill b refl) r full) (whole_full v d b (c.fill b refl) r full)
  stow_keeps r false e =
      let n : ones next.ticks < 8 = omega (arith, count_more v d b (c.fill b refl) r, (c.fill b refl).under.short, eqb-false (ones next.ticks) 8 e) in
      record { few = c.few; lined = c.lined; ways = c.ways; apart = c.apart; fill = λ a same. given (Filling v d) next a same (filling_more v d b (c.fill b refl) r n) }

  pub stow_finishes : v.readable (next_word b) ≡ true → (t : Bool) → complete next ≡ t →
      finished v (cond t (idle (installed d b.line b.way b.protect next.words)) (record { dir = d; fill = Some next })) ≡ finished_of v d (Some b)
  stow_finishes r true e =
      let full = eqb-true (ones next.ticks) 8 e in
      ap (λ (ws : List ℕ). idle (installed d b.line b.way b.protect ws)) (words_full v d b (c.fill b refl) r full)
      ∙ ap (λ (t : Bool). idle (cond t (installed d b.line b.way b.protect (line_seen v b.line)) d)) (sym (whole_full v d b (c.fill b refl) r full))
  stow_finishes r false e = refl

pub fetch_keeps : (v : Shown) (d : Dir) (f : Option Fill) → Coherent v (record { dir = d; fill = f }) → Coherent v (fetched_of v d f)
fetch_keeps v d None c = abandon v d None c
fetch_keeps v d (Some b) c = by_test (v.readable (next_word b)) refl
  where
    by_test : (t : Bool) → v.readable (next_word b) ≡ t → Coherent v (cond t (stowed d (with_word b (v.word (next_word b)))) (idle d))
    by_test true e = stow_keeps v d b c e (complete (with_word b (v.word (next_word b)))) refl
    by_test false e = abandon v d (Some b) c

pub fetch_finishes : (v : Shown) (d : Dir) (f : Option Fill) → Coherent v (record { dir = d; fill = f }) → finished v (fetched_of v d f) ≡ finished_of v d f
fetch_finishes v d None c = refl
fetch_finishes v d (Some b) c = by_test (v.readable (next_word b)) refl
  where
    by_test : (t : Bool) → v.readable (next_word b) ≡ t → finished v (cond t (stowed d (with_word b (v.word (next_word b)))) (idle d)) ≡ finished_of v d (Some b)
    by_test true e = stow_finishes v d b c e (complete (with_word b (v.word (next_word b)))) refl
    by_test false e = ap (λ (t : Bool). idle (cond t (installed d b.line b.way b.protect (line_seen v b.line)) d)) (sym (not_whole v d b (c.fill b refl) e))
