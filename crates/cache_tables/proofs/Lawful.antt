-- The laws of the rules.
use Rattle.std.proofs.Common.{◌≡◌, ℕ, zero, suc, ◌≤◌, Bool, true, false, cond, ◌&&◌, ◌≢◌, List, [], ◌∷◌, ◌++◌, Some, None, Option, refl, ap, ◌∙◌, subst, eqb, arith}
use Rattle.std.proofs.lemmas.Bool.{cond-false, ne_eqb}
use Rattle.std.specs.Option.{option_map_or}
use Rattle.port.specs.declared.Store.{Store}
use Rattle.port.specs.Steps.{reads}
use Rattle.directory.specs.declared.lru.WayNumber.{WayNumber}
use Rattle.directory.specs.declared.fills.Fill.{Fill}
use Rattle.directory.specs.Touch.{victim_of}
use Rattle.directory.specs.Dirs.{Dir, set_of, touched, found, installed}
use Rattle.port.specs.Memory.{line_of}
use Rattle.directory.specs.Ticks.{next_word, complete, with_word}
use Rattle.directory.specs.Laws.{InstallKeepsOtherLines}
use Rattle.directory.proofs.Apart.{install_keeps, drop_forgets}
use Rattle.directory.proofs.Sparing.{touch_spares}
use Rattle.cache_tables.specs.Showing.{Shown, reading, line_seen, whole}
use Rattle.cache_tables.specs.Rules.{Model, turn, idle, stowed, fetched_of, finished_of, finished, finish_calls, finish_turn, lacking, buffered_of, hit, touched_of, touched_by, begun_fill, left_of, begun, read_after, read_turn, dropped, cleared, changed_way, changed_of, written}
use Rattle.cache_tables.specs.Coherence.{Coherent}
use Rattle.cache_tables.specs.Laws.{NamedAtTheMiss, NotFetched, HolderIsSpared, LineIsGone, AllIsForgotten, fetched_times, SettlingNeverShows, AnswersAreWhatIsSeen, LinesLandWhereNamed}
use Rattle.cache_tables.proofs.Keeping.{fetch_keeps, fetch_finishes}
use Rattle.cache_tables.proofs.Fetching.{shown_kept, fetch_falls}
use Rattle.cache_tables.proofs.Reading.{buffered_sees, hit_sees, none_found}
use Rattle.cache_tables.proofs.Changing.{left_some}
use Rattle.cache_tables.proofs.Trying.{two_line_examples_hold}
use Rattle.cache_tables.proofs.Staying.{goes_on, not_buffered, same_lines}

named : (v : Shown) (d : Dir) (w : ℕ) (b : Fill) → (begun v d w).fill ≡ Some b → NamedAtTheMiss v d w b
named v d w b = by_tests (v.readable w) (v.cacheable (line_of w)) refl
  where
    by_tests : (r k : Bool) → v.cacheable (line_of w) ≡ k → (cond (r && k) (record { dir = d; fill = Some (begun_fill d w (v.protected (line_of w)) (v.word w)) }) (idle d)).fill ≡ Some b → NamedAtTheMiss v d w b
    by_tests true true ek e =
        let same : b ≡ begun_fill d w (v.protected (line_of w)) (v.word w) = cc in
        record { cached = ek; line = ap (λ (x : Fill). x.line) same; way = ap (λ (x : Fill). x.way) same }
    by_tests true false ek e = absurd (cc)
    by_tests false k ek e = absurd (cc)

pub finishes : (v : Shown) (n : ℕ) (d : Dir) (f : Option Fill) → Coherent v (record { dir = d; fill = f }) → lacking f ≤ n → fetched_times n v (record { dir = d; fill = f }) ≡ finished_of v d f
finishes v zero d None c h = refl
finishes v zero d (Some b) c h = absurd (omega (arith, (c.fill b refl).under.short))
finishes v (suc n) d None c h = finishes v n d None c (omega arith)
finishes v (suc n) d (Some b) c h =
    let next = fetched_of v d (Some b) in
    finishes v n next.dir next.fill (fetch_keeps v d (Some b) c) (omega (arith, fetch_falls v d b c)) ∙ fetch_finishes v d (Some b) c

pub gone : (v : Shown) (t : Model) (line : ℕ) → Coherent v t → LineIsGone t (dropped t line) line
gone v t line c = record {
  none_begins = left_some line t.fill;
  goes_on = λ b e n. ap (left_of line) e ∙ cond-false (eqb b.line line) None (Some b) (ne_eqb b.line line n);
  way = (drop_forgets t.dir line c.apart).gone;
  others = (drop_forgets t.dir line c.apart).others;
  lru = (drop_forgets t.dir line c.apart).lru;
}

pub all_gone : AllIsForgotten cleared
all_gone = record { lines = λ line. refl; lru = λ i. refl; fill = refl }

-- ---- the way named at the miss

installs_there : (v : Shown) (d : Dir) (b : Fill) (words : List ℕ) → Coherent v (record { dir = d; fill = Some b }) → found (installed d b.line b.way b.protect words) b.line ≡ Some b.way
installs_there v d b words c = (install_keeps d b.line b.way b.protect words c.apart (c.fill b refl).absent).new

lands : (v : Shown) (d : Dir) (f : Option Fill) (b : Fill) → Coherent v (record { dir = d; fill = f }) → f ≡ Some b
    → v.readable (next_word b) ≡ true → (fetched_of v d f).fill ≡ None → found (fetched_of v d f).dir b.line ≡ Some b.way
lands v d None b c is r e = absurd (cc)
lands v d (Some a) b c is r e =
    let same : a ≡ b = cc in
    subst (λ (x : Fill). found (fetched_of v d (Some a)).dir x.line ≡ Some x.way) same (by_read (v.readable (next_word a)) (ap (λ (x : Fill). v.readable (next_word x)) same ∙ r) e)
  where
    n : Fill
    n = with_word a (v.word (next_word a))

    by_full : (full : Bool) → (cond full (idle (installed d n.line n.way n.protect n.words)) (record { dir = d; fill = Some n })).fill ≡ None
        → found (cond full (idle (installed d n.line n.way n.protect n.words)) (record { dir = d; fill = Some n })).dir a.line ≡ Some a.way
    by_full true e = installs_there v d a n.words c
    by_full false e = absurd (cc)

    by_read : (t : Bool) → t ≡ true → (cond t (stowed d n) (idle d)).fill ≡ None → found (cond t (stowed d n) (idle d)).dir a.line ≡ Some a.way
    by_read true q e = by_full (complete n) e
    by_read false q e = absurd (cc)

ends_there : (v : Shown) (d : Dir) (f : Option Fill) (b : Fill) → Coherent v (record { dir = d; fill = f }) → f ≡ Some b
    → whole v b.line ≡ true → InstallKeepsOtherLines d (finished_of v d f).dir b.line b.way
ends_there v d None b c is r = absurd (cc)
ends_there v d (Some a) b c is r =
    let same : a ≡ b = cc in
    subst (λ (x : Fill). InstallKeepsOtherLines d (finished_of v d (Some a)).dir x.line x.way) same (by_whole (whole v a.line) (ap (λ (x : Fill). whole v x.line) same ∙ r))
  where
    by_whole : (t : Bool) → t ≡ true → InstallKeepsOtherLines d (cond t (installed d a.line a.way a.protect (line_seen v a.line)) d) a.line a.way
    by_whole true q = install_keeps d a.line a.way a.protect (line_seen v a.line) c.apart (c.fill a refl).absent
    by_whole false q = absurd (cc)

ends_torn : (v : Shown) (d : Dir) (f : Option Fill) (b : Fill) → f ≡ Some b → whole v b.line ≡ false → (finished_of v d f).dir ≡ d
ends_torn v d f b is r = ap (λ (x : Option Fill). (finished_of v d x).dir) is ∙ cond-false (whole v b.line) _ d r

ends_idle : (v : Shown) (d : Dir) (f : Option Fill) → (finished_of v d f).fill ≡ None
ends_idle v d None = refl
ends_idle v d (Some b) = refl

-- ---- the way that holds a line that was read or written

touch_spares_it : (t : Model) (w : ℕ) (o : Option WayNumber) → found t.dir (line_of w) ≡ o → HolderIsSpared (touched_of t w o) w
touch_spares_it t w None e k h = absurd (cc)
touch_spares_it t w (Some j) e k h =
    let same : j ≡ k = cc in
    subst (λ (n : WayNumber). victim_of ((touched t.dir (set_of (line_of w)) j).lru (set_of (line_of w))) ≢ n) same (touch_spares t.dir (set_of (line_of w)) j)

module _ (v : Shown) (t : Model) (w : ℕ) where
  begun_dir : (d : Dir) → (begun v d w).dir ≡ d
  begun_dir d = by_test (v.readable w && v.cacheable (line_of w))
    where
      by_test : (x : Bool) → (cond x (record { dir = d; fill = Some (begun_fill d w (v.protected (line_of w)) (v.word w)) }) (idle d)).dir ≡ d
      by_test true = refl
      by_test false = refl

  spares_late : (o : Option ℕ) → o ≡ hit (finished v t).dir w
      → HolderIsSpared (option_map_or (λ _. turn (touched_by (finished v t) w) (finish_calls v t)) o (turn (begun v (finished v t).dir w) (finish_calls v t ++ (reads w (reading v w) ∷ [])))).tables w
  spares_late (Some x) e k h = touch_spares_it (finished v t) w (found (finished v t).dir (line_of w)) refl k h
  spares_late None e k h =
      let none = ap (λ (d : Dir). found d (line_of w)) (begun_dir (finished v t).dir) ∙ none_found (finished v t).dir w e in
      absurd (cc)

  spares_early : (o : Option ℕ) → HolderIsSpared (option_map_or (λ _. turn (touched_by t w) []) o (read_after v (finish_turn v t) w)).tables w
  spares_early (Some x) = touch_spares_it t w (found t.dir (line_of w)) refl
  spares_early None = spares_late (hit (finished v t).dir w) refl

  pub read_spares : NotFetched t w → HolderIsSpared (read_turn v t w).tables w
  read_spares n = by_buffer (buffered_of t.fill w) (not_buffered v t w n)
    where
      by_buffer : (o : Option ℕ) → o ≡ None → HolderIsSpared (option_map_or (λ _. turn t []) o (option_map_or (λ _. turn (touched_by t w) []) (hit t.dir w) (read_after v (finish_turn v t) w))).tables w
      by_buffer None e = spares_early (hit t.dir w)
      by_buffer (Some x) e = absurd (cc)

-- A word that is changed in its way moves no line, and the way is touched.
pub write_spares : (t : Model) (w : Store) → HolderIsSpared (written t w) w.word
write_spares t w = by_answer (found t.dir (line_of w.word)) refl
  where
    by_answer : (o : Option WayNumber) → found t.dir (line_of w.word) ≡ o → HolderIsSpared (record { dir = changed_of t.dir w o; fill = t.fill }) w.word
    by_answer None e k h = absurd (cc)
    by_answer (Some j) e k h =
        let new = changed_way t.dir w j (t.dir.way (set_of (line_of w.word)) j) in
        let there : found new (line_of w.word) ≡ found t.dir (line_of w.word) = same_lines t.dir w j (t.dir.way (set_of (line_of w.word)) j) (line_of w.word) in
        touch_spares_it (record { dir = new; fill = t.fill }) w.word (Some j) (there ∙ e) k h

-- ---- what a cache promises

pub settling_never_shows : SettlingNeverShows
settling_never_shows = shown_kept

pub answers_are_what_is_seen : AnswersAreWhatIsSeen
answers_are_what_is_seen v t c = record { buffer = λ w x. buffered_sees v t.dir t.fill w x c.fill; way = λ w x. hit_sees v t w x c }

pub lines_land_where_named : LinesLandWhereNamed
lines_land_where_named = record {
  begins = named;
  goes_on = λ v t. goes_on v t.dir t.fill;
  finishes = λ v t c. finishes v (lacking t.fill) t.dir t.fill c (omega arith);
  lands = λ v t b c is. record { word_by_word = lands v t.dir t.fill b c is; at_once = ends_there v t.dir t.fill b c is; torn = ends_torn v t.dir t.fill b is; ends = ends_idle v t.dir t.fill };
}

pub ruleset promises = (settling_never_shows, answers_are_what_is_seen, lines_land_where_named, two_line_examples_hold)
