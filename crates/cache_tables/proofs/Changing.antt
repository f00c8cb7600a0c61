-- What keeps the tables coherent when a line leaves them, or when the memory below changes.
use Rattle.std.proofs.Common.{◌≡◌, ℕ, ◌+◌, ◌*◌, ◌/◌, ◌%◌, ◌<◌, ◌≤◌, Bool, true, false, cond, if◌then◌else◌, not, ◌&&◌, eqb, ◌≢◌, List, [], ◌∷◌, get_or, set, Some, None, Option, sym, refl, ap, ◌∙◌, subst, inl, inr, arith}
use Rattle.std.proofs.lemmas.Bool.{ne_eqb, eqb-true, eq-eqb, eqb-false, both_ways, and_from, and_cases, cond-true, cond-false, not-false}
use Rattle.port.specs.declared.Store.{Store}
use Rattle.port.specs.Lanes.{merged}
use Rattle.port.specs.Memory.{State, Memory, stored, applied, posted, outside, line_of, offset_of, most_words}
use Rattle.port.proofs.Settling.{applied-append, applied_readable}
use Rattle.directory.specs.declared.lru.WayNumber.{WayNumber}
use Rattle.directory.specs.declared.sets.Way.{Way}
use Rattle.directory.specs.declared.fills.Fill.{Fill}
use Rattle.std.specs.Option.{option_map}
use Rattle.directory.specs.Touch.{index_of, same_way}
use Rattle.directory.specs.Sets.{has_tag, worded_way}
use Rattle.directory.specs.Dirs.{Dir, set_of, tag_of, holds, found, changed, dropped_of}
use Rattle.directory.specs.Dirs.{dropped as dropped_dir}
use Rattle.directory.specs.Ticks.{ticked, fetched_word}
use Rattle.directory.specs.Laws.{TagsAreApart}
use Rattle.directory.proofs.Apart.{held, finds, apart_emptied, drop_forgets, apart_dropped, apart_changed, change_moves_none}
use Rattle.cache_tables.specs.Showing.{Shown, shown, shown_as, line_seen, all_below}
use Rattle.cache_tables.specs.Rules.{Model, cleared, left_of, dropped, changed_word, changed_way, changed_of, written, fills_open}
use Rattle.cache_tables.specs.Coherence.{line_in, WayKept, Filling, FillKept, Coherent}
use Rattle.cache_tables.proofs.Lines.{eight_at, eight_ext, eight_set, line_word}
use Rattle.cache_tables.proofs.Keeping.{given, ways_put, no_filling, still_filling, touch}
use Rattle.cache_tables.proofs.Reading.{Holding, held_line}

-- a valid way of a line is the one that is found
pub found_only : (v : Shown) (t : Model) (l i : ℕ) (k : WayNumber) (y : Way) → Coherent v t → t.dir.way i k ≡ Some y → line_in i y ≡ l → (i ≡ set_of l) × (found t.dir l ≡ Some k)
found_only v t l i k y c q e = (at, finds t.dir c.apart l k has)
  where
    at : i ≡ set_of l
    at = omega (arith, e, (c.ways i k y q).set)

    tag : y.tag ≡ tag_of l
    tag = omega (arith, e, (c.ways i k y q).set)

    has : holds t.dir l k ≡ true
    has = ap (has_tag (tag_of l)) (ap (λ (x : ℕ). t.dir.way x k) (sym at) ∙ q) ∙ eq-eqb y.tag (tag_of l) tag

-- ---- a line leaves the tables

-- a fill that goes on is one of another line
pub left_some : (l : ℕ) (f : Option Fill) (b : Fill) → left_of l f ≡ Some b → (f ≡ Some b) × (b.line ≢ l)
left_some l None b e = absurd (cc)
left_some l (Some x) b e = by_test (eqb x.line l) refl e
  where
    by_test : (p : Bool) → eqb x.line l ≡ p → cond p None (Some x) ≡ Some b → (◌≡◌ {A = Option Fill} (Some x) (Some b)) × (b.line ≢ l)
    by_test true q e = absurd (cc)
    by_test false q e = let s : x ≡ b = cc in (e, λ y. eqb-false x.line l q (ap (λ (k : Fill). k.line) s ∙ y))

module _ (v : Shown) (t : Model) (l : ℕ) (c : Coherent v t) where
  ways_dropped : (o : Option WayNumber) (i : ℕ) (k : WayNumber) (y : Way) → (dropped_of t.dir l o).way i k ≡ Some y → WayKept v i y
  ways_dropped None = c.ways
  ways_dropped (Some k) = ways_put (WayKept v) t.dir (set_of l) k None (λ j m y _. c.ways j m y) (λ y e. absurd (cc))

  tags_dropped : (o : Option WayNumber) → TagsAreApart (dropped_of t.dir l o)
  tags_dropped None = c.apart
  tags_dropped (Some k) = apart_dropped t.dir l k c.apart

  pub drop_keeps : Coherent v (dropped t l)
  drop_keeps = record {
    few = c.few;
    lined = c.lined;
    ways = ways_dropped (found t.dir l);
    apart = tags_dropped (found t.dir l);
    fill = λ b e.
        let q = left_some l t.fill b e in
        still_filling v t.dir (dropped_dir t.dir l) b ((drop_forgets t.dir l c.apart).others b.line q.1) (c.fill b q.0);
  }

  -- and no valid way has it
  drop_absent : (i : ℕ) (k : WayNumber) (y : Way) → (dropped t l).dir.way i k ≡ Some y → line_in i y ≢ l
  drop_absent i k y q e = absurd (cc ((drop_forgets t.dir l c.apart).gone, (found_only v (dropped t l) l i k y drop_keeps q e).1))

pub clear_keeps : (v : Shown) → v.words ≤ most_words → v.words % 8 ≡ 0 → Coherent v cleared
clear_keeps v few lined = record {
  few = few;
  lined = lined;
  ways = λ i k y e. absurd (cc);
  apart = apart_emptied;
  fill = no_filling v cleared.dir;
}

-- ---- two ports that differ in the contents of words alone

pub record Alike (v u : Shown) : Type 0 where
  pub words : u.words ≡ v.words
  pub cacheable : u.cacheable ≡ v.cacheable
  pub protected : u.protected ≡ v.protected
  pub readable : u.readable ≡ v.readable

-- a line of which both show the same
abbrev pub Same : Shown → Shown → ℕ → Type 0
Same v u l = (a : ℕ) → line_of a ≡ l → u.word a ≡ v.word a

abbrev pub FillSame : Shown → Shown → Option Fill → Type 0
FillSame v u f = (b : Fill) → f ≡ Some b → Same v u b.line

line_same : (v u : Shown) (l : ℕ) → Same v u l → line_seen v l ≡ line_seen u l
line_same v u l a = eight_ext (λ p. v.word (l * 8 + p)) (λ p. u.word (l * 8 + p)) (λ p hp. sym (a (l * 8 + p) (omega arith)))

kept_alike : (v u : Shown) (i : ℕ) (y : Way) → Alike v u → Same v u (line_in i y) → WayKept v i y → WayKept u i y
kept_alike v u i y e a h = record {
  set = h.set;
  inside = subst (λ (n : ℕ). line_in i y * 8 + 8 ≤ n) (sym e.words) h.inside;
  same = h.same ∙ line_same v u (line_in i y) a;
  legible = ap (λ (r : ℕ → Bool). all_below (λ p. r (line_in i y * 8 + p)) 8) e.readable ∙ h.legible;
  shut = h.shut ∙ ap (λ (r : ℕ → Bool). r (line_in i y)) (sym e.protected);
}

fetched_line : (b : Fill) (a x : ℕ) → fetched_word b a ≡ Some x → line_of a ≡ b.line
fetched_line b a x e = by_test (eqb b.line (line_of a)) (ticked b.ticks (offset_of a)) refl e
  where
    by_test : (p q : Bool) → eqb b.line (line_of a) ≡ p → cond (p && q) (Some (get_or b.words (offset_of a) 0)) None ≡ Some x → line_of a ≡ b.line
    by_test true q h e = sym (eqb-true b.line (line_of a) h)
    by_test false q h e = absurd (cc)

filling_alike : (v u : Shown) (d : Dir) (b : Fill) → Alike v u → Same v u b.line → Filling v d b → Filling u d b
filling_alike v u d b e a h = record {
  under = h.under;
  inside = subst (λ (n : ℕ). b.line * 8 + 8 ≤ n) (sym e.words) h.inside;
  cached = ap (λ (r : ℕ → Bool). r b.line) e.cacheable ∙ h.cached;
  shut = h.shut ∙ ap (λ (r : ℕ → Bool). r b.line) (sym e.protected);
  got = λ w x y. (ap (λ (r : ℕ → Bool). r w) e.readable ∙ (h.got w x y).0, (h.got w x y).1 ∙ sym (a w (fetched_line b w x y)));
  absent = h.absent;
}

coherent_alike : (v u : Shown) (t : Model) → Alike v u → Coherent v t → ((i : ℕ) (k : WayNumber) (y : Way) → t.dir.way i k ≡ Some y → Same v u (line_in i y)) → FillSame v u t.fill → Coherent u t
coherent_alike v u t e c a b = record {
  few = subst (λ (n : ℕ). n ≤ most_words) (sym e.words) c.few;
  lined = subst (λ (n : ℕ). n % 8 ≡ 0) (sym e.words) c.lined;
  ways = λ i k y q. kept_alike v u i y e (a i k y q) (c.ways i k y q);
  apart = c.apart;
  fill = λ f q. filling_alike v u t.dir f e (b f q) (c.fill f q);
}

-- ---- a write from outside

-- what becomes of a word depends on that word alone
applied_at : (p : ℕ → Bool) (ws : List Store) (m n : Memory) (a : ℕ) → m.word a ≡ n.word a → (applied p ws m).word a ≡ (applied p ws n).word a
applied_at p [] m n a e = e
applied_at p (w ∷ ws) m n a e =
    applied_at p ws (stored p w m) (stored p w n) a (ap (λ (x : ℕ). cond (eqb a w.word) (cond (p (a / 8)) x (merged w.lanes x w.value)) x) e)

module _ (s : State) (w : Store) where
  outside_alike : Alike (shown s) (shown (outside w s))
  outside_alike = record {
    words = refl;
    cacheable = refl;
    protected = refl;
    readable = applied_readable s.protected s.waiting (stored s.protected w s.settled) ∙ sym (applied_readable s.protected s.waiting s.settled);
  }

  outside_same : (l : ℕ) → l ≢ line_of w.word → Same (shown s) (shown (outside w s)) l
  outside_same l n a e =
      applied_at s.protected s.waiting (stored s.protected w s.settled) s.settled a
      (cond-false (eqb a w.word) _ _ (ne_eqb a w.word (λ q. n (sym e ∙ ap line_of q))))

  pub outside_keeps : (t : Model) → Coherent (shown s) t → Coherent (shown (outside w s)) (dropped t (line_of w.word))
  outside_keeps t c =
      coherent_alike (shown s) (shown (outside w s)) (dropped t (line_of w.word)) outside_alike (drop_keeps (shown s) t (line_of w.word) c)
      (λ i k y q. outside_same (line_in i y) (drop_absent (shown s) t (line_of w.word) c i k y q))
      (λ b q. outside_same b.line (left_some (line_of w.word) t.fill b q).1)

-- ---- a write of the processor

abbrev pub overwritten : Shown → Store → Shown
overwritten v w = record {
  words = v.words;
  cacheable = v.cacheable;
  protected = v.protected;
  word = λ a. cond (eqb a w.word) (cond (v.protected (a / 8)) (v.word a) (merged w.lanes (v.word a) w.value)) (v.word a);
  readable = v.readable;
}

pub shown_posted : (s : State) (w : Store) → shown (posted (w ∷ []) s) ≡ overwritten (shown s) w
shown_posted s w = ap (shown_as s.facts s.protected) (applied-append s.protected s.waiting (w ∷ []) s.settled)

module _ (v : Shown) (w : Store) where
  abbrev line : ℕ
  line = line_of w.word

  alike : Alike v (overwritten v w)
  alike = record { words = refl; cacheable = refl; protected = refl; readable = refl }

  -- a line keeps what it shows, unless it is the line of the write and open to it
  line_kept : (l : ℕ) → (l ≡ line → v.protected l ≡ true) → Same v (overwritten v w) l
  line_kept l a x e = by_test (eqb x w.word) refl
    where
      by_test : (q : Bool) → eqb x w.word ≡ q → cond q (cond (v.protected (x / 8)) (v.word x) (merged w.lanes (v.word x) w.value)) (v.word x) ≡ v.word x
      by_test false h = refl
      by_test true h =
          cond-true (v.protected (x / 8)) (v.word x) _ (ap (λ (y : ℕ). v.protected y) e ∙ a (sym e ∙ ap line_of (eqb-true x w.word h)))

  line_written : v.protected line ≡ false →
      set (line_seen v line) (offset_of w.word) (merged w.lanes (get_or (line_seen v line) (offset_of w.word) 0) w.value) ≡ line_seen (overwritten v w) line
  line_written o = eight_set (λ p. v.word (line * 8 + p)) (λ p. (overwritten v w).word (line * 8 + p)) (offset_of w.word) _ (omega arith) here other
    where
      here : (overwritten v w).word (line * 8 + offset_of w.word) ≡ merged w.lanes (get_or (line_seen v line) (offset_of w.word) 0) w.value
      here =
          let hp : offset_of w.word < 8 = omega arith in
          let at : (line * 8 + offset_of w.word) / 8 ≡ line = omega arith in
          cond-true (eqb (line * 8 + offset_of w.word) w.word) _ _ (eq-eqb (line * 8 + offset_of w.word) w.word (line_word w.word))
          ∙ cond-false (v.protected ((line * 8 + offset_of w.word) / 8)) _ _ (ap (λ (x : ℕ). v.protected x) at ∙ o)
          ∙ ap (λ (x : ℕ). merged w.lanes x w.value) (sym (eight_at (λ p. v.word (line * 8 + p)) (offset_of w.word) hp))

      other : (p : ℕ) → p < 8 → p ≢ offset_of w.word → (overwritten v w).word (line * 8 + p) ≡ v.word (line * 8 + p)
      other p hp n = cond-false (eqb (line * 8 + p) w.word) _ _ (ne_eqb (line * 8 + p) w.word (λ e. n (omega arith)))

  fill_open : (d : Dir) (f : Option Fill) → FillKept v d f → fills_open f line ≡ false → FillSame v (overwritten v w) f
  fill_open d f h e b q = line_kept b.line shut
    where
      shut : b.line ≡ line → v.protected b.line ≡ true
      shut y =
          elim (and_cases (eqb b.line line) (not b.protect) (ap (λ (o : Option Fill). fills_open o line) (sym q) ∙ e)) [
            | inl n ↦ absurd (eqb-false b.line line n y)
            | inr n ↦ sym (h b q).shut ∙ not-false b.protect n
          ]

  module _ (t : Model) (c : Coherent v t) (none : fills_open t.fill line ≡ false) where
    -- where no way holds the line, or it is protected, the ways stay
    unchanged : ((i : ℕ) (k : WayNumber) (y : Way) → t.dir.way i k ≡ Some y → line_in i y ≡ line → v.protected line ≡ true) → Coherent (overwritten v w) t
    unchanged a =
        coherent_alike v (overwritten v w) t alike c
        (λ i k y q. line_kept (line_in i y) (λ e. ap (λ (x : ℕ). v.protected x) e ∙ a i k y q e))
        (fill_open t.dir t.fill c.fill none)

    module _ (k : WayNumber) (is : found t.dir line ≡ Some k) where
      holding : Holding v t.dir line k
      holding = held_line v t line k c (held t.dir line k is)

      abbrev way : Way
      way = holding.way

      shut : way.protect ≡ v.protected line
      shut = holding.kept.shut ∙ ap (λ (x : ℕ). v.protected x) holding.line

      abbrev mine : Way
      mine = worded_way way (offset_of w.word) (changed_word w way)

      kept_mine : way.protect ≡ false → WayKept (overwritten v w) (set_of line) mine
      kept_mine o = record {
        set = holding.kept.set;
        inside = holding.kept.inside;
        same =
            ap (λ (ws : List ℕ). set ws (offset_of w.word) (merged w.lanes (get_or ws (offset_of w.word) 0) w.value)) (holding.kept.same ∙ ap (line_seen v) holding.line)
            ∙ line_written (sym shut ∙ o)
            ∙ ap (line_seen (overwritten v w)) (sym holding.line);
        legible = holding.kept.legible;
        shut = holding.kept.shut;
      }

      others : (j : ℕ) (l : WayNumber) (y : Way) → (eqb j (set_of line) && same_way l k) ≡ false → t.dir.way j l ≡ Some y → WayKept (overwritten v w) j y
      others j l y z q = kept_alike v (overwritten v w) j y alike (line_kept (line_in j y) (λ e. absurd (no e))) (c.ways j l y q)
        where
          no : line_in j y ≢ line
          no e =
              let r = found_only v t line j l y c q e in
              both_ways (eqb j (set_of line) && same_way l k) z
              (and_from (eqb j (set_of line)) (same_way l k) (eq-eqb j (set_of line) r.0) (eq-eqb (index_of l) (index_of k) (let same : l ≡ k = cc (r.1, is) in ap index_of same)))

      hit_changes : way.protect ≡ false → Coherent (overwritten v w) (record { dir = changed t.dir w.word k (changed_word w way); fill = t.fill })
      hit_changes o = record {
        few = c.few;
        lined = c.lined;
        ways = ways_put (WayKept (overwritten v w)) t.dir (set_of line) k (option_map (λ (y : Way). worded_way y (offset_of w.word) (changed_word w way)) (t.dir.way (set_of line) k)) others
            (λ y q. given (WayKept (overwritten v w) (set_of line)) mine y (sym (ap (option_map (λ (x : Way). worded_way x (offset_of w.word) (changed_word w way))) holding.there) ∙ q) (kept_mine o));
        apart = apart_changed t.dir w.word k (changed_word w way) c.apart;
        fill = λ b q.
            still_filling (overwritten v w) t.dir (changed t.dir w.word k (changed_word w way)) b (change_moves_none t.dir w.word k (changed_word w way) b.line)
            (filling_alike v (overwritten v w) t.dir b alike (fill_open t.dir t.fill c.fill none b q) (c.fill b q));
      }

      by_protect : (p : Bool) → way.protect ≡ p → Coherent (overwritten v w) (record { dir = if p then t.dir else changed t.dir w.word k (changed_word w way); fill = t.fill })
      by_protect true e = unchanged (λ _ _ _ _ _. sym shut ∙ e)
      by_protect false e = hit_changes e

      hit_keeps : Coherent (overwritten v w) (record { dir = changed_of t.dir w (Some k); fill = t.fill })
      hit_keeps =
          touch (overwritten v w) (changed_way t.dir w k (t.dir.way (set_of line) k)) t.fill (set_of line) k
          (subst (λ (o : Option Way). Coherent (overwritten v w) (record { dir = changed_way t.dir w k o; fill = t.fill })) (sym holding.there) (by_protect way.protect refl))

    pub write_keeps : Coherent (overwritten v w) (written t w)
    write_keeps = by_answer (found t.dir line) refl
      where
        by_answer : (o : Option WayNumber) → found t.dir line ≡ o → Coherent (overwritten v w) (record { dir = changed_of t.dir w o; fill = t.fill })
        by_answer None q = unchanged (λ i k y h e. absurd (cc (q, (found_only v t line i k y c h e).1)))
        by_answer (Some k) q = hit_keeps k q
