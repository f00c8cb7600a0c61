-- What a read answers, and what it leaves.
use Rattle.std.proofs.Common.{◌≡◌, ℕ, ◌+◌, ◌*◌, ◌/◌, ◌<◌, Bool, true, false, cond, ◌&&◌, eqb, List, get_or, Some, None, Ok, Err, Option, Result, sym, refl, ap, ◌∙◌, subst, ap₂, arith}
use Rattle.std.specs.Int.Bits.{xor_zero_r}
use Rattle.std.proofs.lemmas.Nat.Bits.{bit_at-zero}
use Rattle.std.specs.Result.{result_and}
use lib.Bits.{bit_xor}
use lib.Count.{ones, ones_in}
use Rattle.std.proofs.lemmas.Bool.{eqb-true, and_right, cond-false}
use Rattle.fault.specs.declared.Fault.{Fault}
use Rattle.port.specs.Memory.{State, line_of, offset_of}
use Rattle.port.specs.Meaning.{Settles, marks_answer, within}
use Rattle.directory.specs.declared.lru.WayNumber.{WayNumber}
use Rattle.directory.specs.declared.sets.Way.{Way}
use Rattle.directory.specs.declared.fills.Fill.{Fill}
use Rattle.std.specs.Option.{option_map}
use Rattle.directory.specs.Sets.{has_tag}
use Rattle.directory.specs.Touch.{victim_of}
use Rattle.directory.specs.Dirs.{Dir, set_of, tag_of, holds, found}
use Rattle.directory.specs.Ticks.{ticked, next_word, starting, with_word, fetched_word}
use Rattle.directory.proofs.Apart.{held}
use Rattle.directory.proofs.Ticking.{starts}
use Rattle.cache_tables.specs.Showing.{Shown, shown, reading}
use Rattle.cache_tables.specs.Rules.{Model, idle, buffered_of, hit_of, hit, touched_of, touched_by, begun_fill, begun}
use Rattle.cache_tables.specs.Coherence.{line_in, Sees, WayKept, Filling, FillKept, Coherent}
use Rattle.cache_tables.proofs.Lines.{eight_at, all_at, line_word, line_set, line_inside}
use Rattle.cache_tables.proofs.Keeping.{given, touch, abandon, filling_more, count_more}
use Rattle.cache_tables.proofs.Fetching.{shown_kept, move, read_ok, read_err}

-- ---- the line buffer answers

pub buffered_sees : (v : Shown) (d : Dir) (f : Option Fill) (w x : ℕ) → FillKept v d f → Some x ≡ buffered_of f w → Sees v w x
buffered_sees v d None w x h e = absurd (cc)
buffered_sees v d (Some b) w x h e = (h b refl).got w x (sym e)

-- ---- a way answers

-- the way that holds a line, and what is known of it
pub record Holding (v : Shown) (d : Dir) (l : ℕ) (k : WayNumber) : Type 0 where
  pub way : Way
  pub there : d.way (set_of l) k ≡ Some way
  pub kept : WayKept v (set_of l) way
  pub line : line_in (set_of l) way ≡ l

pub held_line : (v : Shown) (t : Model) (l : ℕ) (k : WayNumber) → Coherent v t → holds t.dir l k ≡ true → Holding v t.dir l k
held_line v t l k c = by_way (t.dir.way (set_of l) k) refl
  where
    by_way : (o : Option Way) → t.dir.way (set_of l) k ≡ o → has_tag (tag_of l) o ≡ true → Holding v t.dir l k
    by_way None e f = absurd (cc)
    by_way (Some y) e f = record { way = y; there = e; kept = c.ways (set_of l) k y e; line = ap (λ (x : ℕ). x * 256 + set_of l) (eqb-true y.tag (tag_of l) f) ∙ line_set l }

kept_sees : (v : Shown) (i : ℕ) (y : Way) (w : ℕ) → WayKept v i y → line_in i y ≡ line_of w → Sees v w (get_or y.words (offset_of w) 0)
kept_sees v i y w h e =
    let hp : offset_of w < 8 = omega arith in
    let at : line_in i y * 8 + offset_of w ≡ w = ap (λ (l : ℕ). l * 8 + offset_of w) e ∙ line_word w in (
      ap (λ (a : ℕ). v.readable a) (sym at) ∙ all_at (λ p. v.readable (line_in i y * 8 + p)) 8 h.legible (offset_of w) hp,
      ap (λ (ws : List ℕ). get_or ws (offset_of w) 0) h.same ∙ eight_at (λ p. v.word (line_in i y * 8 + p)) (offset_of w) hp ∙ ap (λ (a : ℕ). v.word a) at,
    )

pub hit_sees : (v : Shown) (t : Model) (w x : ℕ) → Coherent v t → Some x ≡ hit t.dir w → Sees v w x
hit_sees v t w x c = by_answer (found t.dir (line_of w)) refl
  where
    by_answer : (o : Option WayNumber) → found t.dir (line_of w) ≡ o → Some x ≡ hit_of t.dir w o → Sees v w x
    by_answer None y e = absurd (cc)
    by_answer (Some k) y e =
        let q = held_line v t (line_of w) k c (held t.dir (line_of w) k y) in
        let value : Some x ≡ Some (get_or q.way.words (offset_of w) 0) = e ∙ ap (option_map (λ (z : Way). get_or z.words (offset_of w) 0)) q.there in
        let same : x ≡ get_or q.way.words (offset_of w) 0 = cc in
        let sees = kept_sees v (set_of (line_of w)) q.way w q.kept q.line in
        (sees.0, same ∙ sees.1)

pub hit_keeps : (v : Shown) (t : Model) (w : ℕ) → Coherent v t → Coherent v (touched_by t w)
hit_keeps v t w c = by_answer (found t.dir (line_of w))
  where
    by_answer : (o : Option WayNumber) → Coherent v (touched_of t w o)
    by_answer None = c
    by_answer (Some k) = touch v t.dir t.fill (set_of (line_of w)) k c

-- where no way answers, none is touched
pub none_found : (d : Dir) (w : ℕ) → None ≡ hit d w → found d (line_of w) ≡ None
none_found d w = by_answer (found d (line_of w)) refl
  where
    by_way : (o : Option Way) → has_tag (tag_of (line_of w)) o ≡ true → None ≡ option_map (λ (y : Way). get_or y.words (offset_of w) 0) o → ⊥
    by_way None f e = cc
    by_way (Some y) f e = cc

    by_answer : (o : Option WayNumber) → found d (line_of w) ≡ o → None ≡ hit_of d w o → o ≡ None
    by_answer None q e = refl
    by_answer (Some k) q e = absurd (by_way (d.way (set_of (line_of w)) k) (held d (line_of w) k q) e)

pub none_touched : (t : Model) (w : ℕ) → None ≡ hit t.dir w → touched_by t w ≡ t
none_touched t w e = ap (touched_of t w) (none_found t.dir w e)

-- ---- a fill begins

ones_zero : ones 0 ≡ 0
unfolding ones ones_in
ones_zero = refl

nothing_ticked : (p : ℕ) → ticked 0 p ≡ false
nothing_ticked p = ap (λ (x : ℕ). eqb x 1) (bit_at-zero p)

pub nothing_fetched : (w : ℕ) (k : WayNumber) (p : Bool) (a x : ℕ) → fetched_word (starting w k p) a ≡ Some x → ⊥
nothing_fetched w k p a x e =
    let none : fetched_word (starting w k p) a ≡ None = cond-false (eqb (line_of w) (line_of a) && ticked 0 (offset_of a)) _ None (and_right (eqb (line_of w) (line_of a)) (ticked 0 (offset_of a)) (nothing_ticked (offset_of a))) in
    absurd (cc)

pub starts_there : (w : ℕ) (k : WayNumber) (p : Bool) → next_word (starting w k p) ≡ w
starts_there w k p = ap (λ (x : ℕ). line_of w * 8 + x) (ap (bit_xor (offset_of w)) ones_zero ∙ xor_zero_r (offset_of w)) ∙ line_word w

module _ (v : Shown) (d : Dir) (w : ℕ) (c : Coherent v (idle d)) (inside : w < v.words) (absent : found d (line_of w) ≡ None) where
  begin_fill : (k : WayNumber) → v.cacheable (line_of w) ≡ true → Filling v d (starting w k (v.protected (line_of w)))
  begin_fill k cached = record {
    under = starts w k (v.protected (line_of w)) (omega (arith, inside, c.few));
    inside = line_inside w v.words inside c.lined;
    cached = cached;
    shut = refl;
    got = λ a x e. absurd (nothing_fetched w k (v.protected (line_of w)) a x e);
    absent = absent;
  }

  pub begin_keeps : Coherent v (begun v d w)
  begin_keeps = by_tests (v.readable w) (v.cacheable (line_of w)) refl refl
    where
      by_tests : (r k : Bool) → v.readable w ≡ r → v.cacheable (line_of w) ≡ k →
          Coherent v (cond (r && k) (record { dir = d; fill = Some (begun_fill d w (v.protected (line_of w)) (v.word w)) }) (idle d))
      by_tests false k er ek = c
      by_tests true false er ek = c
      by_tests true true er ek =
          let n = victim_of (d.lru (set_of (line_of w))) in
          let b = starting w n (v.protected (line_of w)) in
          let h = begin_fill n ek in
          let at = starts_there w n (v.protected (line_of w)) in
          let r : v.readable (next_word b) ≡ true = ap (λ (x : ℕ). v.readable x) at ∙ er in
          subst (λ (x : ℕ). Coherent v (record { dir = d; fill = Some (with_word b (v.word x)) })) at
          (record { few = c.few; lined = c.lined; ways = c.ways; apart = c.apart; fill = λ a same. given (Filling v d) (with_word b (v.word (next_word b))) a same (filling_more v d b h r (omega (arith, count_more v d b h r, ones_zero))) })

-- ---- the miss, as the code goes about it

abbrev first : Result (Bool × Bool) Fault → Bool
first (Ok x) = x.0
first (Err x) = false

abbrev second : Result (Bool × Bool) Fault → Bool
second (Ok x) = x.1
second (Err x) = false

marks_ok : (s : State) (l : ℕ) (k p : Bool) → ◌≡◌ {A = Result (Bool × Bool) Fault} (Ok (k, p)) (marks_answer s l) → (k ≡ s.facts.cacheable l) × (p ≡ s.protected l)
marks_ok s l k p e = by_answer (within l (s.facts.words / 8) s.facts.floor) e
  where
    by_answer : (r : Result (Unit {0}) Fault) → ◌≡◌ {A = Result (Bool × Bool) Fault} (Ok (k, p)) (result_and r (Ok (s.facts.cacheable l, s.protected l))) → (k ≡ s.facts.cacheable l) × (p ≡ s.protected l)
    by_answer (Ok _) e = (ap first e, ap second e)
    by_answer (Err x) e = absurd (cc)

pub begun_at : (v : Shown) (d : Dir) (w : ℕ) (r k : Bool) → v.readable w ≡ r → v.cacheable (line_of w) ≡ k →
    begun v d w ≡ cond (r && k) (record { dir = d; fill = Some (begun_fill d w (v.protected (line_of w)) (v.word w)) }) (idle d)
begun_at v d w r k er ek = rw (er, ek)

module _ (s t : State) (d : Dir) (f : Option Fill) (w : ℕ) (none : f ≡ None) (a : Settles s t) where
  still : ◌≡◌ {A = Model} (record { dir = d; fill = f }) (idle d)
  still = ap (λ (o : Option Fill). record { dir = d; fill = o }) none

  pub miss_kept : (m : Model) → Coherent (shown s) (record { dir = d; fill = f }) → w < s.facts.words → found d (line_of w) ≡ None → m ≡ begun (shown s) d w → Coherent (shown t) m
  miss_kept m c h e q = move s t m a (subst (λ (x : Model). Coherent (shown s) x) (sym q) (begin_keeps (shown s) d w (abandon (shown s) d f c) h e))

  pub miss_err : (x : Fault) → Err x ≡ reading (shown s) w → ◌≡◌ {A = Model} (record { dir = d; fill = f }) (begun (shown s) d w)
  miss_err x y = still ∙ sym (begun_at (shown s) d w false (s.facts.cacheable (line_of w)) (read_err (shown s) w x y) refl)

  module _ (x : ℕ) (k p : Bool) (y : Ok x ≡ reading (shown s) w) (m : ◌≡◌ {A = Result (Bool × Bool) Fault} (Ok (k, p)) (marks_answer t (line_of w))) where
    cached : k ≡ s.facts.cacheable (line_of w)
    cached = (marks_ok t (line_of w) k p m).0 ∙ ap (λ (v : Shown). v.cacheable (line_of w)) (shown_kept s t a)

    shut : p ≡ s.protected (line_of w)
    shut = (marks_ok t (line_of w) k p m).1 ∙ ap (λ (v : Shown). v.protected (line_of w)) (shown_kept s t a)

    pub miss_pass : k ≡ false → ◌≡◌ {A = Model} (record { dir = d; fill = f }) (begun (shown s) d w)
    miss_pass n = still ∙ sym (begun_at (shown s) d w true false (read_ok (shown s) w x y).0 (sym cached ∙ n))

    pub miss_fill : k ≡ true → (n : Model) → n.dir ≡ d → n.fill ≡ Some (begun_fill d w p x) → n ≡ begun (shown s) d w
    miss_fill n q ed ef =
        ap₂ (λ (e : Dir) (o : Option Fill). record { dir = e; fill = o }) ed ef
        ∙ ap₂ (λ (b : Bool) (z : ℕ). record { dir = d; fill = Some (begun_fill d w b z) }) shut (read_ok (shown s) w x y).1
        ∙ sym (begun_at (shown s) d w true true (read_ok (shown s) w x y).0 (sym cached ∙ n))
