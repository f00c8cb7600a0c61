-- The calls of a cache as a port, over plain values.
use Rattle.std.proofs.Common.{◌≡◌, ℕ, zero, suc, ◌%◌, ◌<◌, ◌≤◌, true, false, ◌⊎◌, List, [], ◌∷◌, ◌++◌, length, Some, None, Ok, Err, Option, Result, sym, refl, ap, ◌∙◌, subst, ap₂, inl, inr, arith}
use Rattle.std.specs.Option.{option_map_or}
use Rattle.std.specs.Result.{result_and}
use Rattle.std.proofs.lemmas.Bool.{cond-true, cond-false}
use Rattle.fault.specs.declared.Fault.{Fault}
use Rattle.port.specs.declared.Port.{Ghosts}
use Rattle.port.specs.declared.Store.{Store}
use Rattle.port.specs.Memory.{State, posted, outside, raised, line_of, most_words}
use Rattle.port.specs.Meaning.{Settles, Advances, ByAnswer, read_answer, write_answer, writable, unreadable}
use Rattle.port.specs.Steps.{Step, reads, advances, Chain, done, then}
use Rattle.port.proofs.Settling.{settles_then, settles_under, settles_raised, settles_length}
use Rattle.port.specs.Checks.{InRange}
use Rattle.port.proofs.Checking.{Answer, as_ok, in_ok}
use Rattle.port.proofs.Chains.{chain_append}
use Rattle.directory.specs.declared.fills.Fill.{Fill}
use Rattle.directory.specs.Dirs.{Dir, found}
use Rattle.directory.specs.Ticks.{next_word, with_word}
use Rattle.cache.specs.declared.cache.Cache.{Cache}
use Rattle.cache_tables.specs.Showing.{Shown, shown, reading}
use Rattle.cache_tables.specs.Rules.{Model, Turn, turn, idle, stowed, fetched, fetch_calls, fetch_turn, finished_of, finished, finish_calls, finish_turn, buffered_of, hit, touched_by, begun, read_after, read_turn, cleared, dropped, written, fills_open, ready_turn, advance_turn}
use Rattle.cache_tables.specs.Coherence.{Sees, Coherent}
use Rattle.cache.specs.Doing.{tables_of, TakesTurn}
use Rattle.cache_tables.proofs.Fetching.{shown_kept, read_there, fetch_inside, fetch_ok, fetch_err, fetch_chain}
use Rattle.cache_tables.proofs.Reading.{hit_keeps, none_found, none_touched}
use Rattle.cache_tables.proofs.Changing.{drop_keeps, clear_keeps, outside_keeps, overwritten, shown_posted, write_keeps}

pub takes_as : {P : Type 0} {G : Ghosts P} {b c : Cache P G} (x y : Turn) → y ≡ x → TakesTurn x b c → TakesTurn y b c
takes_as {P} {G} {b} {c} x y e h = let F : Turn → Type 0 = λ z. TakesTurn z b c in subst F (sym e) h

-- ---- one floor higher

-- some have settled before the port below advances
pub advances_after : (s t u : State) → Settles s t → Advances t u → Advances (raised s) (raised u)
advances_after s t u a b = record { settles = settles_raised s u (settles_then s t u a b.settles); some = fewer }
  where
    empty : (n : ℕ) → (n ≡ 0) ⊎ (0 < n)
    empty zero = inl refl
    empty (suc n) = inr (omega arith)

    fewer : 0 < length s.waiting → length u.waiting < length s.waiting
    fewer h =
        let p = settles_length s t a in
        let q = settles_length t u b.settles in
        elim (empty (length t.waiting)) [ inl z ↦ omega arith | inr z ↦ (let r = b.some z in omega arith) ]

-- ---- a word is fetched: s the port below before, m the tables, b the fill, w the next word

module _ (s : State) (m : Model) (b : Fill) (w : ℕ) (is : m.fill ≡ Some b) (at : w ≡ next_word b) (c : Coherent (shown s) m) where
  there : (r : Result ℕ Fault) → r ≡ read_answer s w → r ≡ reading (shown s) w
  there r e = read_there s w r (fetch_inside (shown s) m.dir m.fill b is c w at) e

  pub word_came : (x : ℕ) (n : Model) → Ok x ≡ read_answer s w → n ≡ stowed m.dir (with_word b x) → n ≡ fetched (shown s) m
  word_came x n r e = fetch_ok (shown s) m.dir m.fill b is c w at x n (there (Ok x) r) e

  pub word_lost : (x : Fault) → Err x ≡ read_answer s w → idle m.dir ≡ fetched (shown s) m
  word_lost x r = fetch_err (shown s) m.dir m.fill b is c w at x (there (Err x) r)

  pub word_asked : {P : Type 0} {does : P → Step → P → Type 0} {p q : P} (r : Result ℕ Fault) → r ≡ read_answer s w → does p (reads w r) q → Chain does p (fetch_calls (shown s) m.fill) q
  word_asked r e h = fetch_chain (shown s) m.dir m.fill b is c w at r (there r e) h

-- ---- the answer of a read

pub sees_reading : (v : Shown) (w x : ℕ) → Sees v w x → Ok x ≡ reading v w
sees_reading v w x h = ap Ok h.1 ∙ sym (cond-true (v.readable w) (Ok (v.word w)) (Err (unreadable w)) h.0)

pub sees_before : (s t : State) (w x : ℕ) → Settles s t → Sees (shown t) w x → Sees (shown s) w x
sees_before s t w x a = subst (λ (v : Shown). Sees v w x) (shown_kept s t a)

pub reading_before : (s t : State) (w : ℕ) (r : Result ℕ Fault) → Settles s t → r ≡ reading (shown t) w → r ≡ reading (shown s) w
reading_before s t w r a e = e ∙ ap (λ (v : Shown). reading v w) (shown_kept s t a)

pub told_above : (s : State) (w : ℕ) (r : Result ℕ Fault) → InRange s w → r ≡ reading (shown s) w → r ≡ read_answer (raised s) w
told_above s w r h e = e ∙ sym (ap (λ (x : Result (Unit {0}) Fault). result_and x (reading (shown s) w)) h.own)

-- ---- the turns of a read

module _ (v : Shown) (t : Model) (w : ℕ) where
  abbrev late : Option ℕ → Turn
  late o = option_map_or (λ _. turn (touched_by (finished v t) w) (finish_calls v t)) o (turn (begun v (finished v t).dir w) (finish_calls v t ++ (reads w (reading v w) ∷ [])))

  abbrev early : Option ℕ → Turn
  early o = option_map_or (λ _. turn (touched_by t w) []) o (read_after v (finish_turn v t) w)

  pub turn_buffered : (x : ℕ) → Some x ≡ buffered_of t.fill w → read_turn v t w ≡ turn t []
  turn_buffered x e = ap (λ (o : Option ℕ). option_map_or (λ _. turn t []) o (early (hit t.dir w))) (sym e)

  module _ (nb : None ≡ buffered_of t.fill w) where
    past : read_turn v t w ≡ early (hit t.dir w)
    past = ap (λ (o : Option ℕ). option_map_or (λ _. turn t []) o (early (hit t.dir w))) (sym nb)

    pub turn_hit : (x : ℕ) → Some x ≡ hit t.dir w → read_turn v t w ≡ turn (touched_by t w) []
    turn_hit x e = past ∙ ap early (sym e)

    module _ (nh : None ≡ hit t.dir w) where
      past_hit : read_turn v t w ≡ late (hit (finished v t).dir w)
      past_hit = past ∙ ap early (sym nh)

      turn_late : (x : ℕ) → Some x ≡ hit (finished v t).dir w → read_turn v t w ≡ turn (touched_by (finished v t) w) (finish_calls v t)
      turn_late x e = past_hit ∙ ap late (sym e)

      turn_miss : None ≡ hit (finished v t).dir w → read_turn v t w ≡ turn (begun v (finished v t).dir w) (finish_calls v t ++ (reads w (reading v w) ∷ []))
      turn_miss e = past_hit ∙ ap late (sym e)

pub coherent_as : (v : Shown) (m n : Model) → n ≡ m → Coherent v m → Coherent v n
coherent_as v m n e = subst (λ (x : Model). Coherent v x) (sym e)

pub touched_kept : (v : Shown) (m n : Model) (w : ℕ) → n ≡ touched_by m w → Coherent v m → Coherent v n
touched_kept v m n w e c = coherent_as v (touched_by m w) n e (hit_keeps v m w c)

untouched : (m n : Model) (w : ℕ) → n ≡ touched_by m w → None ≡ hit m.dir w → n ≡ m
untouched m n w e h = e ∙ none_touched m w h

finished_idle : (v : Shown) (d : Dir) (f : Option Fill) → (finished_of v d f).fill ≡ None
finished_idle v d None = refl
finished_idle v d (Some b) = refl

pub finished_none : (v : Shown) (m n : Model) → n ≡ finished v m → n.fill ≡ None
finished_none v m n e = ap (λ (x : Model). x.fill) e ∙ finished_idle v m.dir m.fill

-- A word was in no way; the fill was finished, and the tables looked through again: m the tables before, n once they were looked through, k when finished, l at the end.
pub record LookedAgain (s t : State) (m n k l : Model) (w : ℕ) : Type 0 where
  pub after : Settles s t
  pub first : n ≡ touched_by m w
  pub absent : None ≡ hit m.dir w
  pub finishes : k ≡ finished (shown s) n
  pub second : l ≡ touched_by k w

module _ {s t : State} {m n k l : Model} {w : ℕ} (h : LookedAgain s t m n k l w) where
  nm : n ≡ m
  nm = untouched m n w h.first h.absent

  km : k ≡ finished (shown s) m
  km = h.finishes ∙ ap (finished (shown s)) nm

  hit_late : (o : Option ℕ) → o ≡ hit k.dir w → o ≡ hit (finished (shown s) m).dir w
  hit_late o e = e ∙ ap (λ (x : Model). hit x.dir w) km

  late_calls : finish_calls (shown s) m ≡ finish_calls (shown s) n
  late_calls = ap (finish_calls (shown s)) (sym nm)

  module _ (nb : None ≡ buffered_of m.fill w) where
    pub turn_found : (x : ℕ) → Some x ≡ hit k.dir w → read_turn (shown s) m w ≡ turn l (finish_calls (shown s) n)
    turn_found x e =
        turn_late (shown s) m w nb h.absent x (hit_late (Some x) e) ∙ ap₂ turn (sym (h.second ∙ ap (λ (x : Model). touched_by x w) km)) late_calls

    pub turn_begun : (o : Model) → None ≡ hit k.dir w → o ≡ begun (shown t) l.dir w →
        read_turn (shown s) m w ≡ turn o (finish_calls (shown s) n ++ (reads w (reading (shown t) w) ∷ []))
    turn_begun o none e =
        let begins : o ≡ begun (shown s) (finished (shown s) m).dir w =
        e ∙ ap (λ (v : Shown). begun v l.dir w) (shown_kept s t h.after) ∙ ap (λ (x : Model). begun (shown s) x.dir w) (untouched k l w h.second none ∙ km)
        in
        turn_miss (shown s) m w nb h.absent (hit_late None none)
        ∙ ap₂ turn (sym begins) (ap₂ (λ (ds : List Step) (v : Shown). ds ++ (reads w (reading v w) ∷ [])) late_calls (sym (shown_kept s t h.after)))

  pub miss_idle : None ≡ hit k.dir w → l.fill ≡ None
  miss_idle none = finished_none (shown s) m l (untouched k l w h.second none ∙ km)

  pub miss_absent : None ≡ hit k.dir w → found l.dir (line_of w) ≡ None
  miss_absent none = ap (λ (x : Model). found x.dir (line_of w)) (untouched k l w h.second none) ∙ none_found k.dir w none

-- ---- drops and clears

pub dropped_kept : (s t : State) (m n : Model) (l : ℕ) → t ≡ s → n ≡ dropped m l → Coherent (shown s) m → Coherent (shown t) n
dropped_kept s t m n l e q c =
    subst (λ (x : State). Coherent (shown x) n) (sym e) (coherent_as (shown s) (dropped m l) n q (drop_keeps (shown s) m l c))

pub outside_kept : (s t : State) (m n : Model) (w : Store) → t ≡ outside w s → n ≡ dropped m (line_of w.word) → Coherent (shown s) m → Coherent (shown t) n
outside_kept s t m n w e q c =
    subst (λ (x : State). Coherent (shown x) n) (sym e) (coherent_as (shown (outside w s)) (dropped m (line_of w.word)) n q (outside_keeps s w m c))

pub cleared_kept : (s t : State) (n : Model) → t ≡ s → n ≡ cleared → s.facts.words ≤ most_words → s.facts.words % 8 ≡ 0 → Coherent (shown t) n
cleared_kept s t n e q few lined =
    subst (λ (x : State). Coherent (shown x) n) (sym e) (coherent_as (shown s) cleared n q (clear_keeps (shown s) few lined))

-- the same of a call with an answer x that the cache's own accepts
module _ (s t : State) (m n : Model) (r x : Answer) (X : Type 0) (e : r ≡ x) (p : x ≡ Ok tt) (c : Coherent (shown s) m) where
  pub answered_dropped : (l : ℕ) → ByAnswer r (t ≡ s) X → n ≡ dropped m l → Coherent (shown t) n
  answered_dropped l a q = dropped_kept s t m n l (in_ok _ X r (e ∙ p) a) q c

  pub answered_outside : (w : Store) → ByAnswer r (t ≡ outside w s) X → n ≡ dropped m (line_of w.word) → Coherent (shown t) n
  answered_outside w a q = outside_kept s t m n w (in_ok _ X r (e ∙ p) a) q c

-- ---- a write

pub ready_open : (v : Shown) (t : Model) (l : ℕ) → fills_open t.fill l ≡ true → ready_turn v t l ≡ finish_turn v t
ready_open v t l e = cond-true (fills_open t.fill l) (finish_turn v t) (turn t []) e

pub ready_still : (v : Shown) (t : Model) (l : ℕ) → fills_open t.fill l ≡ false → ready_turn v t l ≡ turn t []
ready_still v t l e = cond-false (fills_open t.fill l) (finish_turn v t) (turn t []) e

-- s before the call, t once the tables are ready, u after the write below
module _ (s t u : State) (w : Store) (a : Settles s t) (b : Settles (posted (w ∷ []) t) u) where
  pub write_kept : (n o : Model) → Coherent (shown t) n → fills_open n.fill (line_of w.word) ≡ false → o ≡ written n w → Coherent (shown u) o
  write_kept n o c none e =
      let F : Shown → Type 0 = λ v. Coherent v o in
      subst F (sym (shown_kept (posted (w ∷ []) t) u b ∙ shown_posted t w)) (coherent_as (overwritten (shown t) w) (written n w) o e (write_keeps (shown t) w n c none))

  pub write_settles : Settles (posted (w ∷ []) (raised s)) (raised u)
  write_settles = settles_raised (posted (w ∷ []) s) u (settles_then (posted (w ∷ []) s) (posted (w ∷ []) t) u (settles_under s t (w ∷ []) a) b)

-- what the port below took before some settled it takes after
pub taken_later : (s t : State) (w : Store) → Settles s t → write_answer s w ≡ Ok tt → write_answer t w ≡ Ok tt
taken_later s t w a e = ap (λ (x : State). writable w.word w.lanes x.facts.words x.facts.floor) a.after ∙ e

-- ---- a call that is passed on: q is the port below after it, k the tables

module _ {P : Type 0} {G : Ghosts P} (d : Step) (t : Model) (b c : Cache P G) (f : tables_of c ≡ t) (h : G.does b.below d c.below) where
  pub takes_one : TakesTurn (turn t (d ∷ [])) b c
  takes_one = record { tables = f; below = then h done }

  pub takes_answered : (r x : Answer) (Y : Type 0) → r ≡ x → x ≡ Ok tt → ByAnswer r (TakesTurn (turn t (d ∷ [])) b c) Y
  takes_answered r x Y e p = as_ok _ Y r (e ∙ p) takes_one

-- the port below advances once a word has been fetched
pub takes_advance : {P : Type 0} {G : Ghosts P} (v : Shown) (t : Model) (b m c : Cache P G) → TakesTurn (fetch_turn v t) b m → tables_of c ≡ tables_of m → G.does m.below advances c.below →
    TakesTurn (advance_turn v t) b c
takes_advance v t b m c a e h = record { tables = e ∙ a.tables; below = chain_append a.below (then h done) }
