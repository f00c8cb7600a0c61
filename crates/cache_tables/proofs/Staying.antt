-- What each call makes of the tables, in the words of the laws.
use Rattle.std.proofs.Common.{◌≡◌, ℕ, ◌<◌, Bool, true, false, cond, if◌then◌else◌, not, ◌&&◌, eqb, [], ◌∷◌, ◌++◌, Some, None, Ok, Option, count_ones, sym, refl, ap, ◌∙◌, subst, inl, inr, arith, ◌/◌, zero, suc, ◌≤◌, length, length-append}
use Rattle.std.specs.Option.{option_map_or}
use Rattle.std.proofs.lemmas.Bool.{cond-true, cond-false, cases_eq, eq-eqb, ne_eqb, and_left, and_right, and_from, not_from_true}
use Rattle.port.specs.declared.Store.{Store}
use Rattle.port.specs.Steps.{advances, reads, writes}
use Rattle.port.specs.Memory.{line_of}
use Rattle.directory.specs.declared.lru.WayNumber.{WayNumber}
use Rattle.directory.specs.declared.sets.Way.{Way}
use Rattle.directory.specs.declared.fills.Fill.{Fill}
use Rattle.directory.specs.Touch.{victim_of}
use Rattle.directory.specs.Dirs.{Dir, set_of, touched, found, installed, changed}
use Rattle.directory.specs.Ticks.{next_word, complete, starting, with_word, fetched_word, UnderWay}
use Rattle.directory.specs.Laws.{WayIsTouched, InstallKeepsOtherLines, StoreAddsItsWord}
use Rattle.directory.proofs.Apart.{install_keeps, change_moves_none}
use Rattle.directory.proofs.Sparing.{touch_touches, touch_again}
use Rattle.directory.proofs.Ticking.{within, starts, store_adds}
use Rattle.cache_tables.specs.Showing.{Shown, line_seen, whole, reading}
use Rattle.cache_tables.specs.Rules.{Model, Turn, turn, idle, stowed, fetched_of, finished_of, finished, finish_calls, finish_turn, buffered_of, hit_of, hit, touched_of, touched_by, begun_fill, begun, read_after, read_turn, changed_word, changed_way, changed_of, written, fills_open, ready_turn, write_turn, advance_turn, fetches, lacking, fetch_calls, fetched}
use Rattle.cache_tables.specs.Coherence.{Coherent}
use Rattle.cache_tables.specs.Laws.{ReadsOfLine, ReadsWhatLacks, Fetched, NotFetched, AsksForTheWord, ReadLeavesAll, ReadOnlyTouches, NothingAnswers, FillBegins, LateHitTouches, HitTouches, MissFills, NoneOpen, WriteOnlyTouches, WriteLandsTheLine, WriteLandsOrTouches, GoesOn, OneWordComes, AdvanceFetchesOne}
use Rattle.cache_tables.proofs.Keeping.{given, abandon, install_fill, fetch_keeps}
use Rattle.cache_tables.proofs.Reading.{hit_sees, none_found, nothing_fetched, starts_there, begun_at}
use Rattle.cache_tables.proofs.Changing.{overwritten, write_keeps}

-- ---- how many words are fetched

one_call : (v : Shown) (f : Option Fill) → length (fetch_calls v f) ≤ 1
one_call v None = omega arith
one_call v (Some b) = omega arith

few_fetched : (n : ℕ) (v : Shown) (t : Model) → length (fetches n v t) ≤ n
few_fetched zero v t = omega arith
few_fetched (suc n) v t =
    let one = one_call v t.fill in
    let rest = few_fetched n v (fetched v t) in
    let sum = length-append (fetch_calls v t.fill) (fetches n v (fetched v t)) in
    omega (arith, one, rest, sum)

pub goes_on : (v : Shown) (d : Dir) (f : Option Fill) (b c : Fill) → f ≡ Some b → (fetched_of v d f).fill ≡ Some c → GoesOn b c
goes_on v d None b c is e = absurd (cc)
goes_on v d (Some a) b c is e = by_read (v.readable (next_word a)) e
  where
    by_full : (full : Bool) → (cond full (idle (installed d a.line a.way a.protect (with_word a (v.word (next_word a))).words)) (record { dir = d; fill = Some (with_word a (v.word (next_word a))) })).fill ≡ Some c → GoesOn b c
    by_full true e = absurd (cc)
    by_full false e =
        let same : c ≡ with_word a (v.word (next_word a)) = cc in
        let began : a ≡ b = cc in
        record {
          line = ap (λ (x : Fill). x.line) same ∙ ap (λ (x : Fill). x.line) began;
          first = ap (λ (x : Fill). x.first) same ∙ ap (λ (x : Fill). x.first) began;
          way = ap (λ (x : Fill). x.way) same ∙ ap (λ (x : Fill). x.way) began;
          protect = ap (λ (x : Fill). x.protect) same ∙ ap (λ (x : Fill). x.protect) began;
        }

    by_read : (r : Bool) → (cond r (stowed d (with_word a (v.word (next_word a)))) (idle d)).fill ≡ Some c → GoesOn b c
    by_read true e = by_full (complete (with_word a (v.word (next_word a)))) e
    by_read false e = absurd (cc)

in_line : (b : Fill) → UnderWay b → line_of (next_word b) ≡ b.line
in_line b u = let small = within b.first (count_ones b.ticks) u.ordered.offset u.short in omega (arith, small)

fetches_line : (v : Shown) (n : ℕ) (d : Dir) (f : Option Fill) (l : ℕ) → Coherent v (record { dir = d; fill = f }) → ((b : Fill) → f ≡ Some b → b.line ≡ l) → ReadsOfLine v l (fetches n v (record { dir = d; fill = f }))
fetches_line v zero d f l c h = tt
fetches_line v (suc n) d None l c h = fetches_line v n d None l c h
fetches_line v (suc n) d (Some b) l c h =
    let next = fetched_of v d (Some b) in (
      (next_word b, in_line b (c.fill b refl).under ∙ h b refl, refl),
      fetches_line v n next.dir next.fill l (fetch_keeps v d (Some b) c) (λ x e. (goes_on v d (Some b) b x refl e).line ∙ h b refl),
    )

what_lacks : (v : Shown) (t : Model) → Coherent v t → ReadsWhatLacks v t (finish_calls v t)
what_lacks v t c = record {
  few = few_fetched (lacking t.fill) v t;
  line = λ b is. fetches_line v (lacking t.fill) t.dir t.fill b.line c (λ x e. let same : x ≡ b = cc in ap (λ (y : Fill). y.line) same);
}

-- ---- a read

-- where a way holds the line, a way answers
hit_some : (d : Dir) (w : ℕ) (k : WayNumber) → found d (line_of w) ≡ Some k → (x : ℕ) × (hit d w ≡ Some x)
hit_some d w k e = by_answer (hit d w) refl
  where
    by_answer : (o : Option ℕ) → hit d w ≡ o → (x : ℕ) × (hit d w ≡ Some x)
    by_answer None h = absurd (let none = none_found d w (sym h) in cc)
    by_answer (Some x) h = (x, h)

hit_none : (d : Dir) (w : ℕ) → found d (line_of w) ≡ None → hit d w ≡ None
hit_none d w e = ap (hit_of d w) e

none_buffered : (f : Option Fill) (w : ℕ) → ((b : Fill) → f ≡ Some b → fetched_word b w ≡ None) → buffered_of f w ≡ None
none_buffered None w h = refl
none_buffered (Some b) w h = h b refl

module _ (v : Shown) (t : Model) (w : ℕ) where
  abbrev after_buffer : Turn
  after_buffer = option_map_or (λ _. turn (touched_by t w) []) (hit t.dir w) (read_after v (finish_turn v t) w)

  read_buffered : (x : ℕ) → buffered_of t.fill w ≡ Some x → read_turn v t w ≡ turn t []
  read_buffered x e = ap (λ (o : Option ℕ). option_map_or (λ _. turn t []) o after_buffer) e

  module _ (b : buffered_of t.fill w ≡ None) where
    past_buffer : read_turn v t w ≡ after_buffer
    past_buffer = ap (λ (o : Option ℕ). option_map_or (λ _. turn t []) o after_buffer) b

    pub read_hit : (k : WayNumber) → found t.dir (line_of w) ≡ Some k → read_turn v t w ≡ turn (touched_of t w (Some k)) []
    read_hit k e =
        past_buffer
        ∙ ap (λ (o : Option ℕ). option_map_or (λ _. turn (touched_by t w) []) o (read_after v (finish_turn v t) w)) (hit_some t.dir w k e).1
        ∙ ap (λ (o : Option WayNumber). turn (touched_of t w o) []) e

    module _ (n : found t.dir (line_of w) ≡ None) where
      past_ways : read_turn v t w ≡ read_after v (finish_turn v t) w
      past_ways =
          past_buffer ∙ ap (λ (o : Option ℕ). option_map_or (λ _. turn (touched_by t w) []) o (read_after v (finish_turn v t) w)) (hit_none t.dir w n)

      abbrev missed : Turn
      missed = turn (begun v (finished v t).dir w) (finish_calls v t ++ (reads w (reading v w) ∷ []))

      read_late : (k : WayNumber) → found (finished v t).dir (line_of w) ≡ Some k → read_turn v t w ≡ turn (touched_of (finished v t) w (Some k)) (finish_calls v t)
      read_late k e =
          past_ways
          ∙ ap (λ (o : Option ℕ). option_map_or (λ _. turn (touched_by (finished v t) w) (finish_calls v t)) o missed) (hit_some (finished v t).dir w k e).1
          ∙ ap (λ (o : Option WayNumber). turn (touched_of (finished v t) w o) (finish_calls v t)) e

      pub read_missed : found (finished v t).dir (line_of w) ≡ None → read_turn v t w ≡ missed
      read_missed e =
          past_ways ∙ ap (λ (o : Option ℕ). option_map_or (λ _. turn (touched_by (finished v t) w) (finish_calls v t)) o missed) (hit_none (finished v t).dir w e)

  pub finish_idle : finished v t ≡ idle (finished v t).dir
  finish_idle = by_fill t.fill
    where
      by_fill : (f : Option Fill) → finished_of v t.dir f ≡ idle (finished_of v t.dir f).dir
      by_fill None = refl
      by_fill (Some b) = refl

  pub not_buffered : NotFetched t w → buffered_of t.fill w ≡ None
  not_buffered = none_buffered t.fill w

  buffered_leaves_all : Fetched t w → ReadLeavesAll t (read_turn v t w)
  buffered_leaves_all f =
      let same = read_buffered f.1 (ap (λ (o : Option Fill). buffered_of o w) f.2 ∙ f.3) in
      record { tables = ap (λ (u : Turn). u.tables) same; calls = ap (λ (u : Turn). u.calls) same }

  held_only_touches : (k : WayNumber) → NotFetched t w → found t.dir (line_of w) ≡ Some k → ReadOnlyTouches t w k (read_turn v t w)
  held_only_touches k b e =
      let same = read_hit (not_buffered b) k e in
      let F : Turn → Type 0 = λ u. WayIsTouched t.dir u.tables.dir (line_of w) k in
      record {
        touch = subst F (sym same) (touch_touches t.dir t.dir (line_of w) k refl);
        ways = ap (λ (u : Turn). u.tables.dir.way) same;
        fill = ap (λ (u : Turn). u.tables.fill) same;
        calls = ap (λ (u : Turn). u.calls) same;
      }

  late_hits_touch : Coherent v t → (k : WayNumber) → NotFetched t w → found t.dir (line_of w) ≡ None → found (finished v t).dir (line_of w) ≡ Some k → LateHitTouches v t w k (read_turn v t w)
  late_hits_touch c k b n e =
      let same = read_late (not_buffered b) n k e in
      let F : Turn → Type 0 = λ u. WayIsTouched (finished v t).dir u.tables.dir (line_of w) k in
      record {
        touch = subst F (sym same) (touch_touches (finished v t).dir (finished v t).dir (line_of w) k refl);
        ways = ap (λ (u : Turn). u.tables.dir.way) same;
        fill = ap (λ (u : Turn). u.tables.fill) same ∙ ap (λ (m : Model). m.fill) finish_idle;
        calls = subst (ReadsWhatLacks v t) (sym (ap (λ (u : Turn). u.calls) same)) (what_lacks v t c);
      }

  pub hit_touches : Coherent v t → HitTouches v t w (read_turn v t w)
  hit_touches c = record { buffered = buffered_leaves_all; held = held_only_touches; late = late_hits_touch c }

  all_missed : NothingAnswers v t w → read_turn v t w ≡ turn (begun v (finished v t).dir w) (finish_calls v t ++ (reads w (reading v w) ∷ []))
  all_missed n = read_missed (not_buffered n.buffer) n.way n.late

  misses_ask_once : Coherent v t → NothingAnswers v t w → AsksForTheWord v t w (read_turn v t w)
  misses_ask_once c n = record { first = finish_calls v t; finishing = what_lacks v t c; calls = ap (λ (u : Turn). u.calls) (all_missed n) }

  misses_else_nothing : NothingAnswers v t w → (v.readable w ≡ true → v.cacheable (line_of w) ≡ false) → (read_turn v t w).tables ≡ finished v t
  misses_else_nothing n barred =
      ap (λ (u : Turn). u.tables) (all_missed n)
      ∙ begun_at v (finished v t).dir w (v.readable w) (v.cacheable (line_of w)) refl refl
      ∙ cond-false (v.readable w && v.cacheable (line_of w)) _ _ (never (v.readable w) (v.cacheable (line_of w)) barred)
      ∙ sym finish_idle
    where
      never : (r k : Bool) → (r ≡ true → k ≡ false) → (r && k) ≡ false
      never true k h = h refl
      never false k h = refl

  misses_fill : Coherent v t → w < v.words → NothingAnswers v t w → v.readable w ≡ true → v.cacheable (line_of w) ≡ true → FillBegins v t w (read_turn v t w)
  misses_fill c inside n r k =
      let d = (finished v t).dir in
      let p = v.protected (line_of w) in
      let m = victim_of (d.lru (set_of (line_of w))) in
      let s = starting w m p in
      let same = ap (λ (u : Turn). u.tables) (all_missed n) ∙ begun_at v d w true true r k in
      let adds = store_adds s (starts w m p (omega (arith, inside, c.few))) (v.word w) in
      let at = starts_there w m p in
      record {
        fill = begun_fill d w p (v.word w);
        under = ap (λ (u : Model). u.fill) same;
        word = ap (fetched_word (begun_fill d w p (v.word w))) (sym at) ∙ adds.new;
        alone = λ a x e. elim (cases_eq a w) [
          | inl y ↦ y
          | inr y ↦ absurd (nothing_fetched w m p a x (sym (adds.others a (λ z. y (z ∙ at))) ∙ e))
        ];
        way = refl;
        dir = ap (λ (u : Model). u.dir) same;
      }

  pub miss_fills : Coherent v t → w < v.words → MissFills v t w (read_turn v t w)
  miss_fills c inside = record { asks = misses_ask_once c; no_fill = misses_else_nothing; fills = misses_fill c inside }

-- ---- a fill is finished

module _ (v : Shown) (d : Dir) where
  pub finish_keeps : (f : Option Fill) → Coherent v (record { dir = d; fill = f }) → Coherent v (finished_of v d f)
  finish_keeps None c = abandon v d None c
  finish_keeps (Some b) c = by_whole (whole v b.line) refl
    where
      by_whole : (t : Bool) → whole v b.line ≡ t → Coherent v (idle (cond t (installed d b.line b.way b.protect (line_seen v b.line)) d))
      by_whole true e = install_fill v d (Some b) b (line_seen v b.line) c (c.fill b refl).inside (c.fill b refl).shut (c.fill b refl).absent refl e
      by_whole false e = abandon v d (Some b) c

-- ---- a write

-- a write moves no line
pub same_lines : (d : Dir) (w : Store) (k : WayNumber) (o : Option Way) (line : ℕ) → found (changed_way d w k o) line ≡ found d line
same_lines d w k None line = refl
same_lines d w k (Some y) line = by_mark y.protect
  where
    by_mark : (p : Bool) → found (if p then d else changed d w.word k (changed_word w y)) line ≡ found d line
    by_mark true = refl
    by_mark false = change_moves_none d w.word k (changed_word w y) line

-- nor does it mark a set
same_lru : (d : Dir) (w : Store) (k : WayNumber) (o : Option Way) → (changed_way d w k o).lru ≡ d.lru
same_lru d w k None = refl
same_lru d w k (Some y) = by_mark y.protect
  where
    by_mark : (p : Bool) → (if p then d else changed d w.word k (changed_word w y)).lru ≡ d.lru
    by_mark true = refl
    by_mark false = refl

moves_none : (d : Dir) (w : Store) (o : Option WayNumber) (line : ℕ) → found (changed_of d w o) line ≡ found d line
moves_none d w None line = refl
moves_none d w (Some k) line = same_lines d w k (d.way (set_of (line_of w.word)) k) line

none_open : (v : Shown) (t : Model) (line : ℕ) → Coherent v t → NoneOpen v t line → fills_open t.fill line ≡ false
none_open v t line c barred = by_fill t.fill refl
  where
    by_fill : (f : Option Fill) → t.fill ≡ f → fills_open f line ≡ false
    by_fill None e = refl
    by_fill (Some b) e =
        elim (cases_eq b.line line) [
          | inr n ↦ and_left (eqb b.line line) (not b.protect) (ne_eqb b.line line n)
          | inl y ↦ and_right (eqb b.line line) (not b.protect) (not_from_true b.protect ((c.fill b e).shut ∙ ap (λ (l : ℕ). v.protected l) y ∙ barred b e y))
        ]

module _ (v : Shown) (t : Model) (w : Store) (c : Coherent v t) where
  abbrev done : Turn
  done = write_turn v t w (Ok tt)

  abbrev line : ℕ
  line = line_of w.word

  module _ (barred : NoneOpen v t line) where
    ready : ready_turn v t line ≡ turn t []
    ready = cond-false (fills_open t.fill line) (finish_turn v t) (turn t []) (none_open v t line c barred)

    after : done.tables ≡ written t w
    after = ap (λ (u : Turn). written u.tables w) ready

    writes_only_touch : WriteOnlyTouches t w done
    writes_only_touch = record {
      fill = ap (λ (m : Model). m.fill) after;
      lines = λ l. ap (λ (m : Model). found m.dir l) after ∙ moves_none t.dir w (found t.dir line) l;
      touch = λ k e.
          let F : Dir → Type 0 = λ d. WayIsTouched t.dir d line k in
          let new = changed_way t.dir w k (t.dir.way (set_of line) k) in
          let same : done.tables.dir ≡ touched new (set_of line) k = ap (λ (m : Model). m.dir) after ∙ ap (changed_of t.dir w) e in
          subst F (sym same) (touch_touches t.dir new line k (same_lru t.dir w k (t.dir.way (set_of line) k)));
      misses = λ e. after ∙ ap (λ (o : Option WayNumber). record { dir = changed_of t.dir w o; fill = t.fill }) e;
      calls = ap (λ (u : Turn). u.calls ++ (writes w (Ok tt) ∷ [])) ready;
    }

  module _ (b : Fill) (is : t.fill ≡ Some b) (at : b.line ≡ line) (o : v.protected b.line ≡ false) where
    is_open : fills_open t.fill line ≡ true
    is_open =
        ap (λ (f : Option Fill). fills_open f line) is
        ∙ and_from (eqb b.line line) (not b.protect) (eq-eqb b.line line at) (ap not ((c.fill b is).shut ∙ o))

    ends : done.tables ≡ written (finished v t) w
    ends = ap (λ (u : Turn). written u.tables w) (cond-true (fills_open t.fill line) (finish_turn v t) (turn t []) is_open)

    done_with : finished v t ≡ finished_of v t.dir (Some b)
    done_with = ap (finished_of v t.dir) is

    module _ (all : whole v b.line ≡ true) where
      abbrev landed : Dir
      landed = installed t.dir b.line b.way b.protect (line_seen v b.line)

      has_landed : done.tables ≡ written (idle landed) w
      has_landed =
          ends ∙ ap (λ (m : Model). written m w) done_with
          ∙ ap (λ (x : Bool). written (idle (cond x landed t.dir)) w) all

      keeps : InstallKeepsOtherLines t.dir landed b.line b.way
      keeps = install_keeps t.dir b.line b.way b.protect (line_seen v b.line) c.apart (c.fill b is).absent

      found_there : found landed line ≡ Some b.way
      found_there = ap (found landed) (sym at) ∙ keeps.new

      same_found : (l : ℕ) → found done.tables.dir l ≡ found landed l
      same_found l = ap (λ (m : Model). found m.dir l) has_landed ∙ moves_none landed w (found landed line) l

      -- what the way answers is what is seen with the write in it
      answers : (a : ℕ) → line_of a ≡ b.line → hit done.tables.dir a ≡ Some ((overwritten v w).word a)
      answers a e =
          let u = done.tables in
          let some = hit_some u.dir a b.way (ap (found u.dir) e ∙ same_found b.line ∙ keeps.new) in
          let kept : Coherent (overwritten v w) u =
          subst (λ (m : Model). Coherent (overwritten v w) m) (sym ends)
          (write_keeps v w (finished v t) (finish_keeps v t.dir t.fill c) (ap (λ (m : Model). fills_open m.fill line) (finish_idle v t w.word))) in
          some.1 ∙ ap Some (hit_sees (overwritten v w) u a some.0 kept (sym some.1)).1

      is_touched : WayIsTouched t.dir done.tables.dir b.line b.way
      is_touched =
          let new = changed_way landed w b.way (landed.way (set_of line) b.way) in
          let F : Dir → Type 0 = λ d. WayIsTouched t.dir d b.line b.way in
          let same : done.tables.dir ≡ touched new (set_of b.line) b.way =
          ap (λ (m : Model). m.dir) has_landed ∙ ap (changed_of landed w) found_there ∙ ap (λ (l : ℕ). touched new (set_of l) b.way) (sym at) in
          subst F (sym same) (touch_again t.dir new b.line b.way (same_lru landed w b.way (landed.way (set_of line) b.way)))

      landed_alone : InstallKeepsOtherLines t.dir done.tables.dir b.line b.way
      landed_alone = record {
        new = same_found b.line ∙ keeps.new;
        touch = is_touched;
        others = λ l j f n. same_found l ∙ keeps.others l j f n;
        displaced = λ l n e f. same_found l ∙ keeps.displaced l n e f;
        no_more = λ l n f. same_found l ∙ keeps.no_more l n f;
      }

    writes_land : WriteLandsTheLine v t w b done
    writes_land = record {
      ends = ap (λ (m : Model). m.fill) ends ∙ ap (λ (m : Model). m.fill) (finish_idle v t w.word);
      lands = landed_alone;
      here = λ all.
          answers all w.word (sym at)
          ∙ ap Some (cond-true (eqb w.word w.word) _ _ (eq-eqb w.word w.word refl) ∙ cond-false (v.protected (w.word / 8)) _ _ (ap (λ (l : ℕ). v.protected l) (sym at) ∙ o));
      rest = λ all a e n. answers all a e ∙ ap Some (cond-false (eqb a w.word) _ _ (ne_eqb a w.word n));
      torn = λ none.
          ends ∙ ap (λ (m : Model). written m w) done_with
          ∙ ap (λ (x : Bool). written (idle (cond x (installed t.dir b.line b.way b.protect (line_seen v b.line)) t.dir)) w) none
          ∙ ap (λ (k : Option WayNumber). idle (changed_of t.dir w k)) (ap (found t.dir) (sym at) ∙ (c.fill b is).absent);
      first = finish_calls v t;
      finishing = what_lacks v t c;
      calls = ap (λ (u : Turn). u.calls ++ (writes w (Ok tt) ∷ [])) (cond-true (fills_open t.fill line) (finish_turn v t) (turn t []) is_open);
    }

  pub write_lands_or_touches : WriteLandsOrTouches v t w done
  write_lands_or_touches = record { only_touch = writes_only_touch; land = writes_land }

-- ---- an advance

module _ (v : Shown) (d : Dir) (b : Fill) (c : Coherent v (record { dir = d; fill = Some b })) where
  abbrev next : Fill
  next = with_word b (v.word (next_word b))

  same_fill : GoesOn b next
  same_fill = record { line = refl; first = refl; way = refl; protect = refl }

  fetch_more : (e : Fill) → (fetched_of v d (Some b)).fill ≡ Some e → StoreAddsItsWord b e (v.word (next_word b)) × GoesOn b e × ((fetched_of v d (Some b)).dir ≡ d)
  fetch_more e = by_read (v.readable (next_word b))
    where
      by_full : (full : Bool) → (cond full (idle (installed d b.line b.way b.protect next.words)) (record { dir = d; fill = Some next })).fill ≡ Some e →
          StoreAddsItsWord b e (v.word (next_word b)) × GoesOn b e × ((cond full (idle (installed d b.line b.way b.protect next.words)) (record { dir = d; fill = Some next })).dir ≡ d)
      by_full true h = absurd (cc)
      by_full false h = (given (λ (x : Fill). StoreAddsItsWord b x (v.word (next_word b))) next e h (store_adds b (c.fill b refl).under (v.word (next_word b))), given (GoesOn b) next e h same_fill, refl)

      by_read : (t : Bool) → (cond t (stowed d next) (idle d)).fill ≡ Some e → StoreAddsItsWord b e (v.word (next_word b)) × GoesOn b e × ((cond t (stowed d next) (idle d)).dir ≡ d)
      by_read true h = by_full (complete next) h
      by_read false h = absurd (cc)

  fetch_last : v.readable (next_word b) ≡ true → (fetched_of v d (Some b)).fill ≡ None → InstallKeepsOtherLines d (fetched_of v d (Some b)).dir b.line b.way
  fetch_last = by_read (v.readable (next_word b))
    where
      by_full : (full : Bool) → (cond full (idle (installed d b.line b.way b.protect next.words)) (record { dir = d; fill = Some next })).fill ≡ None →
          InstallKeepsOtherLines d (cond full (idle (installed d b.line b.way b.protect next.words)) (record { dir = d; fill = Some next })).dir b.line b.way
      by_full true h = install_keeps d b.line b.way b.protect next.words c.apart (c.fill b refl).absent
      by_full false h = absurd (cc)

      by_read : (t : Bool) → t ≡ true → (cond t (stowed d next) (idle d)).fill ≡ None → InstallKeepsOtherLines d (cond t (stowed d next) (idle d)).dir b.line b.way
      by_read true q h = by_full (complete next) h
      by_read false q h = absurd (cc)

  one_word_comes : OneWordComes v (record { dir = d; fill = Some b }) b (advance_turn v (record { dir = d; fill = Some b }))
  one_word_comes = record {
    calls = refl;
    more = fetch_more;
    last = fetch_last;
    torn = λ e.
        let same : fetched_of v d (Some b) ≡ idle d = cond-false (v.readable (next_word b)) _ _ e in
        (ap (λ (m : Model). m.fill) same, ap (λ (m : Model). m.dir) same);
  }

advances_fetch_one : (v : Shown) (d : Dir) (f : Option Fill) (b : Fill) → Coherent v (record { dir = d; fill = f }) → f ≡ Some b
    → OneWordComes v (record { dir = d; fill = f }) b (advance_turn v (record { dir = d; fill = f }))
advances_fetch_one v d None b c e = absurd (cc)
advances_fetch_one v d (Some a) b c e =
    given (λ (x : Fill). OneWordComes v (record { dir = d; fill = Some a }) x (advance_turn v (record { dir = d; fill = Some a }))) a b e (one_word_comes v d a c)

advances_else_nothing : (v : Shown) (t : Model) → t.fill ≡ None → ((advance_turn v t).tables ≡ t) × ((advance_turn v t).calls ≡ advances ∷ [])
advances_else_nothing v t e = (
  ap (fetched_of v t.dir) e ∙ ap (λ (f : Option Fill). record { dir = t.dir; fill = f }) (sym e),
  ap (λ (f : Option Fill). fetch_calls v f ++ (advances ∷ [])) e,
)

pub advance_fetches_one : (v : Shown) (t : Model) → Coherent v t → AdvanceFetchesOne v t (advance_turn v t)
advance_fetches_one v t c = record { one = λ b. advances_fetch_one v t.dir t.fill b c; passed_on = advances_else_nothing v t }
