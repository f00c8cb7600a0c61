-- One line is filled after another.
use Rattle.std.proofs.Common.{◌≡◌, ◌≢◌, ℕ, ◌+◌, ◌*◌, ◌%◌, ◌<◌, Bool, true, false, cond, ltb, ◌&&◌, List, [], ◌∷◌, ◌++◌, Some, None, Option, sym, refl, ap, ◌∙◌, subst, append_assoc, inl, inr, arith, is_none, is_some}
use lib.Count.{ones, ones_in}
use Rattle.std.proofs.lemmas.Bool.{cond-true, lt-ltb, ltb-true, and_from, and_parts, both_ways}
use Rattle.port.specs.Memory.{line_of}
use Rattle.directory.specs.declared.lru.WayNumber.{WayNumber}
use Rattle.directory.specs.declared.sets.Way.{Way}
use Rattle.directory.specs.declared.fills.Fill.{Fill}
use Rattle.directory.specs.Touch.{victim_of}
use Rattle.directory.specs.Sets.{filled_way}
use Rattle.directory.specs.Dirs.{Dir, set_of, tag_of, emptied, found, installed, valid_ways}
use Rattle.directory.specs.Ticks.{starting}
use Rattle.directory.proofs.Apart.{install_keeps}
use Rattle.directory.proofs.Ticking.{starts, stored_count}
use Rattle.cache_tables.specs.Showing.{Shown, line_seen, whole}
use Rattle.cache_tables.specs.Rules.{Model, Turn, idle, lacking, begun_fill, begun, read_turn}
use Rattle.cache_tables.specs.Coherence.{line_in, Coherent}
use Rattle.cache_tables.specs.Laws.{fetched_times}
use Rattle.cache_tables.proofs.Lines.{all_at, line_word, line_set, line_inside}
use Rattle.cache_tables.proofs.Keeping.{given, ways_put, touch, kept_line, install}
use Rattle.cache_tables.proofs.Reading.{begun_at, begin_keeps}
use Rattle.cache_tables.proofs.Changing.{found_only}
use Rattle.cache_tables.proofs.Staying.{read_hit, read_missed}
use Rattle.cache_tables.proofs.Lawful.{finishes}
use Rattle.directory.proofs.Counting.{one_if, put_count, none_valid}
use Rattle.directory_walk.specs.Finds.{filled_at, filled, all_filled, CanBeKept, NoneDisplaces, puts, displaces, tally, Among, TheFilledLinesStand}

ones_zero : ones 0 ≡ 0
unfolding ones ones_in
ones_zero = refl

-- ---- a read and seven advances

module _ (v : Shown) (d : Dir) (w : ℕ) (c : Coherent v (idle d)) (inside : w < v.words) where
  abbrev line : ℕ
  line = line_of w

  legible_word : whole v line ≡ true → v.readable w ≡ true
  legible_word e =
      ap (λ (a : ℕ). v.readable a) (sym (line_word w)) ∙ all_at (λ p. v.readable (line * 8 + p)) 8 e (w % 8) (omega arith)

  module _ (none : found d line ≡ None) where
    abbrev way : WayNumber
    way = victim_of (d.lru (set_of line))

    abbrev kept : Dir
    kept = installed d line way (v.protected line) (line_seen v line)

    abbrev first : Fill
    first = begun_fill d w (v.protected line) (v.word w)

    seven : lacking (Some first) ≡ 7
    seven =
        let s = starting w way (v.protected line) in
        let one = stored_count s (starts w way (v.protected line) (omega (arith, inside, c.few))) (v.word w) in
        omega (arith, one, ones_zero)

    finished_first : v.readable w ≡ true → v.cacheable line ≡ true → fetched_times 7 v (begun v d w) ≡ idle (cond (whole v line) kept d)
    finished_first r k =
        let same : begun v d w ≡ record { dir = d; fill = Some first } = begun_at v d w true true r k in
        let F : Model → Type 0 = λ m. Coherent v m in
        let coherent = subst F same (begin_keeps v d w c inside none) in
        ap (fetched_times 7 v) same ∙ ap (λ (n : ℕ). fetched_times n v (record { dir = d; fill = Some first })) (sym seven) ∙
        finishes v (lacking (Some first)) d (Some first) coherent (omega arith)

    missed : fetched_times 7 v (begun v d w) ≡ idle (cond (v.cacheable line && whole v line) kept d)
    missed = by_tests (v.readable w) (v.cacheable line) (whole v line) refl refl refl
      where
        by_tests : (r k a : Bool) → v.readable w ≡ r → v.cacheable line ≡ k → whole v line ≡ a → fetched_times 7 v (begun v d w) ≡ idle (cond (k && a) kept d)
        by_tests true true a er ek ea = finished_first er ek ∙ ap (λ (x : Bool). idle (cond x kept d)) ea
        by_tests true false a er ek ea = ap (fetched_times 7 v) (begun_at v d w true false er ek)
        by_tests false k true er ek ea = absurd (both_ways (v.readable w) er (legible_word ea))
        by_tests false true false er ek ea = ap (fetched_times 7 v) (begun_at v d w false true er ek)
        by_tests false false false er ek ea = ap (fetched_times 7 v) (begun_at v d w false false er ek)

  fills_at : (o : Option WayNumber) → found d line ≡ o → fetched_times 7 v (read_turn v (idle d) w).tables ≡ idle (filled_at v d line o)
  fills_at (Some k) e = ap (λ (u : Turn). fetched_times 7 v u.tables) (read_hit v (idle d) w refl k e)
  fills_at None e = ap (λ (u : Turn). fetched_times 7 v u.tables) (read_missed v (idle d) w refl e e) ∙ missed e

-- what a read makes of the tables, in range or not
abbrev pub read_tables : Shown → Model → ℕ → Model
read_tables v t w = cond (ltb w v.words) (read_turn v t w).tables t

pub fills : (v : Shown) (d : Dir) (w : ℕ) → Coherent v (idle d) → fetched_times 7 v (read_tables v (idle d) w) ≡ idle (filled v d w)
fills v d w c = by_range (ltb w v.words) refl
  where
    by_range : (t : Bool) → ltb w v.words ≡ t → fetched_times 7 v (cond t (read_turn v (idle d) w).tables (idle d)) ≡ idle (cond t (filled_at v d (line_of w) (found d (line_of w))) d)
    by_range true e = fills_at v d w c (ltb-true w v.words e) (found d (line_of w)) refl
    by_range false e = refl

-- ---- what a fill keeps

module _ (v : Shown) (d : Dir) (c : Coherent v (idle d)) (w : ℕ) where
  pub fill_keeps : Coherent v (idle (filled v d w))
  fill_keeps = by_range (ltb w v.words) refl
    where
      l : ℕ
      l = line_of w

      by_test : w < v.words → found d l ≡ None → (x : Bool) → (v.cacheable l && whole v l) ≡ x → Coherent v (idle (cond x (installed d l (victim_of (d.lru (set_of l))) (v.protected l) (line_seen v l)) d))
      by_test inside none true e =
          install v d None l (victim_of (d.lru (set_of l))) (v.protected l) (line_seen v l) c none
          (kept_line v l (v.protected l) (line_seen v l) (line_inside w v.words inside c.lined) refl refl (and_parts (v.cacheable l) (whole v l) e).1)
      by_test inside none false e = c

      by_answer : w < v.words → (o : Option WayNumber) → found d l ≡ o → Coherent v (idle (filled_at v d l o))
      by_answer inside (Some k) e = touch v d None (set_of l) k c
      by_answer inside None e = by_test inside e (v.cacheable l && whole v l) refl

      by_range : (t : Bool) → ltb w v.words ≡ t → Coherent v (idle (cond t (filled_at v d l (found d l)) d))
      by_range true e = by_answer (ltb-true w v.words e) (found d l) refl
      by_range false e = c

pub all_keep : (v : Shown) (d : Dir) (ws : List ℕ) → Coherent v (idle d) → Coherent v (idle (all_filled v d ws))
all_keep v d [] c = c
all_keep v d (w ∷ ws) c = all_keep v (filled v d w) ws (fill_keeps v d c w)

all_append : (v : Shown) (d : Dir) (xs ys : List ℕ) → all_filled v d (xs ++ ys) ≡ all_filled v (all_filled v d xs) ys
all_append v d [] ys = refl
all_append v d (x ∷ xs) ys = all_append v (filled v d x) xs ys

-- ---- a line that can be kept is placed

module _ (v : Shown) (d : Dir) (c : Coherent v (idle d)) (w : ℕ) where
  place : CanBeKept v w → (k : WayNumber) × (found (filled v d w) (line_of w) ≡ Some k)
  place h = by_answer (found d l) refl
    where
      l : ℕ
      l = line_of w

      in_range : filled v d w ≡ filled_at v d l (found d l)
      in_range = cond-true (ltb w v.words) _ d (lt-ltb w v.words h.inside)

      by_answer : (o : Option WayNumber) → found d l ≡ o → (k : WayNumber) × (found (filled v d w) l ≡ Some k)
      by_answer (Some k) e = (k, ap (λ (x : Dir). found x l) in_range ∙ ap (λ (o : Option WayNumber). found (filled_at v d l o) l) e ∙ e)
      by_answer None e =
          let k = victim_of (d.lru (set_of l)) in
          let keep : (v.cacheable l && whole v l) ≡ true = and_from (v.cacheable l) (whole v l) h.cached h.legible in
          let put = installed d l k (v.protected l) (line_seen v l) in (
            k,
            ap (λ (x : Dir). found x l) in_range ∙ ap (λ (o : Option WayNumber). found (filled_at v d l o) l) e ∙
                ap (λ (x : Bool). found (cond x put d) l) keep ∙ (install_keeps d l k (v.protected l) (line_seen v l) c.apart e).new,
          )

  -- and what is found stays there, unless it is displaced
  stay : (line : ℕ) (k : WayNumber) → found d line ≡ Some k → (found d (line_of w) ≡ None → set_of line ≡ set_of (line_of w) → k ≢ victim_of (d.lru (set_of (line_of w)))) →
      found (filled v d w) line ≡ Some k
  stay line k is spared = by_range (ltb w v.words)
    where
      l : ℕ
      l = line_of w

      by_test : found d l ≡ None → (x : Bool) → found (cond x (installed d l (victim_of (d.lru (set_of l))) (v.protected l) (line_seen v l)) d) line ≡ Some k
      by_test e true = (install_keeps d l (victim_of (d.lru (set_of l))) (v.protected l) (line_seen v l) c.apart e).others line k is (spared e)
      by_test e false = is

      by_answer : (o : Option WayNumber) → found d l ≡ o → found (filled_at v d l o) line ≡ Some k
      by_answer (Some j) e = is
      by_answer None e = by_test e (v.cacheable l && whole v l)

      by_range : (t : Bool) → found (cond t (filled_at v d l (found d l)) d) line ≡ Some k
      by_range true = by_answer (found d l) refl
      by_range false = is

all_stay : (v : Shown) (d : Dir) (c : Coherent v (idle d)) (l : ℕ) (k : WayNumber) (ws : List ℕ) → found d l ≡ Some k → NoneDisplaces v d l k ws → found (all_filled v d ws) l ≡ Some k
all_stay v d c l k [] is n = is
all_stay v d c l k (w ∷ ws) is n = all_stay v (filled v d w) (fill_keeps v d c w) l k ws (stay v d c w l k is n.0) n.1

-- ---- whatever is valid is of a line that was filled

module _ (v : Shown) (Q : ℕ → Type 0) where
  abbrev AllOf : Dir → Type 0
  AllOf d = (i : ℕ) (k : WayNumber) (y : Way) → d.way i k ≡ Some y → Q (line_in i y)

  fill_of : (d : Dir) (w : ℕ) → (CanBeKept v w → Q (line_of w)) → AllOf d → AllOf (filled v d w)
  fill_of d w new a = by_range (ltb w v.words) refl
    where
      l : ℕ
      l = line_of w

      by_tests : w < v.words → (x y : Bool) → v.cacheable l ≡ x → whole v l ≡ y → AllOf (cond (x && y) (installed d l (victim_of (d.lru (set_of l))) (v.protected l) (line_seen v l)) d)
      by_tests inside true true ex ey =
          ways_put (λ i y. Q (line_in i y)) d (set_of l) (victim_of (d.lru (set_of l))) (Some (filled_way (tag_of l) (v.protected l) (line_seen v l))) (λ j m y _. a j m y)
          (λ y e. given (λ (z : Way). Q (line_in (set_of l) z)) (filled_way (tag_of l) (v.protected l) (line_seen v l)) y e
          (subst Q (sym (line_set l)) (new (record { inside = inside; cached = ex; legible = ey }))))
      by_tests inside true false ex ey = a
      by_tests inside false y ex ey = a

      by_answer : w < v.words → (o : Option WayNumber) → AllOf (filled_at v d l o)
      by_answer inside (Some k) = a
      by_answer inside None = by_tests inside (v.cacheable l) (whole v l) refl refl

      by_range : (t : Bool) → ltb w v.words ≡ t → AllOf (cond t (filled_at v d l (found d l)) d)
      by_range true e = by_answer (ltb-true w v.words e) (found d l)
      by_range false e = a

  all_of : (d : Dir) (ws : List ℕ) → ((w : ℕ) → Among w ws → CanBeKept v w → Q (line_of w)) → AllOf d → AllOf (all_filled v d ws)
  all_of d [] new a = a
  all_of d (w ∷ ws) new a = all_of (filled v d w) ws (λ x m. new x (inr m)) (fill_of d w (new w (inl refl)) a)

-- ---- how many ways are valid

fill_counts : (v : Shown) (d : Dir) (w : ℕ) → valid_ways (filled v d w) + one_if (displaces v d w) ≡ valid_ways d + one_if (puts v d w)
fill_counts v d w = by_range (ltb w v.words)
  where
    l : ℕ
    l = line_of w

    k : WayNumber
    k = victim_of (d.lru (set_of l))

    held : Bool
    held = is_some (d.way (set_of l) k)

    by_test : (x : Bool) → valid_ways (cond x (installed d l k (v.protected l) (line_seen v l)) d) + one_if (x && held) ≡ valid_ways d + one_if x
    by_test true = put_count d (set_of l) (Some (filled_way (tag_of l) (v.protected l) (line_seen v l))) k (omega arith)
    by_test false = refl

    by_answer : (o : Option WayNumber) →
        valid_ways (filled_at v d l o) + one_if ((is_none o && (v.cacheable l && whole v l)) && held) ≡ valid_ways d + one_if (is_none o && (v.cacheable l && whole v l))
    by_answer (Some j) = refl
    by_answer None = by_test (v.cacheable l && whole v l)

    by_range : (t : Bool) →
        valid_ways (cond t (filled_at v d l (found d l)) d) + one_if ((t && (is_none (found d l) && (v.cacheable l && whole v l))) && held) ≡
        valid_ways d + one_if (t && (is_none (found d l) && (v.cacheable l && whole v l)))
    by_range true = by_answer (found d l)
    by_range false = refl

all_count : (v : Shown) (d : Dir) (ws : List ℕ) → valid_ways (all_filled v d ws) + tally displaces v d ws ≡ valid_ways d + tally puts v d ws
all_count v d [] = refl
all_count v d (w ∷ ws) =
    let one = fill_counts v d w in
    let rest = all_count v (filled v d w) ws in
    omega (arith, one, rest)

-- A word of those that were filled, of the line.
pub record Source (v : Shown) (words : List ℕ) (line : ℕ) : Type 0 where
  pub word : ℕ
  pub among : Among word words
  pub kept : CanBeKept v word
  pub same : line_of word ≡ line

pub they_stand : (v : Shown) (words : List ℕ) → Coherent v (idle emptied) → TheFilledLinesStand v words (all_filled v emptied words)
they_stand v words c = record {
  placed = λ before after w e h.
      let at = all_append v emptied before (w ∷ []) in
      let d = all_filled v emptied before in
      let k = place v d (all_keep v emptied before c) w h in
      (k.0, ap (λ (x : Dir). found x (line_of w)) at ∙ k.1);
  stands = λ before after w k e is n.
      let d = all_filled v emptied (before ++ (w ∷ [])) in
      let split : words ≡ (before ++ (w ∷ [])) ++ after = e ∙ sym (append_assoc before (w ∷ []) after) in
      ap (λ (x : Dir). found x (line_of w)) (ap (all_filled v emptied) split ∙ all_append v emptied (before ++ (w ∷ [])) after) ∙
      all_stay v d (all_keep v emptied (before ++ (w ∷ [])) c) (line_of w) k after is n;
  number = let all = all_count v emptied words in omega (arith, all, none_valid);
  ways = λ i k y e.
      let s = all_of v (Source v words) emptied words (λ w m h. record { word = w; among = m; kept = h; same = refl }) (λ j l z q. absurd (cc)) i k y e in
      record {
        word = s.word;
        among = s.among;
        kept = s.kept;
        line = s.same;
        here = (found_only v (idle (all_filled v emptied words)) (line_of s.word) i k y (all_keep v emptied words c) e (sym s.same)).1;
      };
}
