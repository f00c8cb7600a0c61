-- Words fetched one after another, until no fill is under way.
use Rattle.std.proofs.Common.{◌≡◌, ℕ, zero, suc, ◌-◌, ◌<◌, Bool, true, false, cond, ltb, List, [], ◌∷◌, ◌++◌, is_some, Some, None, Ok, Err, Option, Result, sym, refl, ap, ◌∙◌, subst, ap₂, arith}
use Rattle.std.specs.Result.{result_and}
use lib.Count.{ones}
use Rattle.std.proofs.lemmas.Bool.{lt-ltb, cond-true, both_ways}
use Rattle.fault.specs.declared.Fault.{Fault}
use Rattle.port.specs.Memory.{State}
use Rattle.port.specs.Meaning.{Settles, read_answer, within, unreadable, past_end}
use Rattle.port.specs.Steps.{Step, reads, Chain, done, then}
use Rattle.port.proofs.Settling.{seen_kept}
use Rattle.port.proofs.Chains.{chain_append}
use Rattle.directory.specs.declared.fills.Fill.{Fill}
use Rattle.directory.specs.Dirs.{Dir, installed}
use Rattle.directory.specs.Ticks.{next_word, complete, with_word}
use Rattle.cache_tables.specs.Showing.{Shown, shown, shown_as, reading}
use Rattle.cache_tables.specs.Rules.{Model, idle, stowed, fetched_of, fetched, fetch_calls, finished_of, finished, lacking, fetches, finish_calls}
use Rattle.cache_tables.specs.Coherence.{Sees, Filling, Coherent}
use Rattle.cache_tables.proofs.Keeping.{fetch_keeps, fetch_finishes, count_more, next_inside}

-- settling never shows
pub shown_kept : (s t : State) → Settles s t → shown t ≡ shown s
shown_kept s t a = λ n. shown_as (ap (λ (x : State). x.facts) a.after n) (ap (λ (x : State). x.protected) a.after n) (seen_kept s t a n)

pub move : (s t : State) (m : Model) → Settles s t → Coherent (shown s) m → Coherent (shown t) m
move s t m a c = subst (λ (v : Shown). Coherent v m) (sym (shown_kept s t a)) c

-- what a word that is there reads as
pub read_there : (s : State) (w : ℕ) (r : Result ℕ Fault) → w < s.facts.words → r ≡ read_answer s w → r ≡ reading (shown s) w
read_there s w r h e =
    let there : within w s.facts.words s.facts.floor ≡ Ok tt = cond-true (ltb w s.facts.words) (Ok tt) (Err (past_end w s.facts.floor)) (lt-ltb w s.facts.words h) in
    e ∙ ap (λ (x : Result (Unit {0}) Fault). result_and x (reading (shown s) w)) there

pub read_ok : (v : Shown) (w x : ℕ) → Ok x ≡ reading v w → Sees v w x
read_ok v w x = by_test (v.readable w)
  where
    by_test : (t : Bool) → ◌≡◌ {A = Result ℕ Fault} (Ok x) (cond t (Ok (v.word w)) (Err (unreadable w))) → (t ≡ true) × (x ≡ v.word w)
    by_test true e = (refl, (cc))
    by_test false e = absurd (cc)

pub read_err : (v : Shown) (w : ℕ) (x : Fault) → Err x ≡ reading v w → v.readable w ≡ false
read_err v w x = by_test (v.readable w)
  where
    by_test : (t : Bool) → ◌≡◌ {A = Result ℕ Fault} (Err x) (cond t (Ok (v.word w)) (Err (unreadable w))) → t ≡ false
    by_test true e = absurd (cc)
    by_test false e = refl

pub chain_as : {P : Type 0} {does : P → Step → P → Type 0} {p q : P} (ds es : List Step) → es ≡ ds → Chain does p ds q → Chain does p es q
chain_as {P} {does} {p} {q} ds es e c = let F : List Step → Type 0 = λ l. Chain does p l q in subst F (sym e) c

pub one_read : {P : Type 0} {does : P → Step → P → Type 0} {p q : P} (w x : ℕ) (r a : Result ℕ Fault) → w ≡ x → r ≡ a → does p (reads w r) q → Chain does p (reads x a ∷ []) q
one_read w x r a e h d = chain_as (reads w r ∷ []) (reads x a ∷ []) (ap₂ (λ (y : ℕ) (b : Result ℕ Fault). reads y b ∷ []) (sym e) (sym h)) (then d done)

-- ---- one word is fetched

module _ (v : Shown) (d : Dir) (f : Option Fill) (b : Fill) (is : f ≡ Some b) (c : Coherent v (record { dir = d; fill = f })) where
  pub filling : Filling v d b
  filling = c.fill b is

  fetch_at : (t : Bool) → v.readable (next_word b) ≡ t → cond t (stowed d (with_word b (v.word (next_word b)))) (idle d) ≡ fetched_of v d f
  fetch_at t e =
      ap (λ (y : Bool). cond y (stowed d (with_word b (v.word (next_word b)))) (idle d)) (sym e) ∙ ap (fetched_of v d) (sym is)

  module _ (w : ℕ) (at : w ≡ next_word b) where
    pub fetch_inside : w < v.words
    fetch_inside = omega (arith, at, next_inside v d b filling)

    pub fetch_ok : (x : ℕ) (m : Model) → Ok x ≡ reading v w → m ≡ stowed d (with_word b x) → m ≡ fetched_of v d f
    fetch_ok x m r e =
        let sees = read_ok v w x r in
        e ∙ ap (λ (y : ℕ). stowed d (with_word b y)) (sees.1 ∙ ap (λ (y : ℕ). v.word y) at)
        ∙ fetch_at true (ap (λ (y : ℕ). v.readable y) (sym at) ∙ sees.0)

    pub fetch_err : (x : Fault) → Err x ≡ reading v w → idle d ≡ fetched_of v d f
    fetch_err x r = fetch_at false (ap (λ (y : ℕ). v.readable y) (sym at) ∙ read_err v w x r)

    pub fetch_chain : {P : Type 0} {does : P → Step → P → Type 0} {p q : P} (r : Result ℕ Fault) → r ≡ reading v w → does p (reads w r) q → Chain does p (fetch_calls v f) q
    fetch_chain r e h =
        chain_as (reads (next_word b) (reading v (next_word b)) ∷ []) (fetch_calls v f) (ap (fetch_calls v) is)
        (one_read w (next_word b) r (reading v (next_word b)) at (e ∙ ap (reading v) at) h)

-- the tables after it, over a port on which some have settled
pub fetch_kept : (s t : State) (m n : Model) → Settles s t → Coherent (shown s) m → n ≡ fetched (shown s) m → Coherent (shown t) n
fetch_kept s t m n a c e = move s t n a (subst (λ (x : Model). Coherent (shown s) x) (sym e) (fetch_keeps (shown s) m.dir m.fill c))

pub no_fill : (v : Shown) (d : Dir) (f : Option Fill) → f ≡ None → record { dir = d; fill = f } ≡ fetched_of v d f
no_fill v d f e = ap (λ (y : Option Fill). record { dir = d; fill = y }) e ∙ ap (fetched_of v d) (sym e)

pub no_calls : {P : Type 0} {does : P → Step → P → Type 0} {p : P} (v : Shown) (f : Option Fill) → f ≡ None → Chain does p (fetch_calls v f) p
no_calls v f e = chain_as [] (fetch_calls v f) (ap (fetch_calls v) e) done

-- ---- until none is lacking

-- nothing is fetched where no fill is under way
fetches_none : (n : ℕ) (v : Shown) (d : Dir) → fetches n v (idle d) ≡ []
fetches_none zero v d = refl
fetches_none (suc n) v d = fetches_none n v d

module _ (v : Shown) (d : Dir) (b : Fill) (c : Coherent v (record { dir = d; fill = Some b })) where
  abbrev next : Fill
  next = with_word b (v.word (next_word b))

  pub fetch_falls : lacking (fetched_of v d (Some b)).fill < lacking (Some b)
  fetch_falls = by_read (v.readable (next_word b)) refl
    where
      by_full : (full : Bool) → v.readable (next_word b) ≡ true → lacking (cond full (idle (installed d b.line b.way b.protect next.words)) (record { dir = d; fill = Some next })).fill < 8 - ones b.ticks
      by_full true e = omega (arith, (c.fill b refl).under.short)
      by_full false e = omega (arith, (c.fill b refl).under.short, count_more v d b (c.fill b refl) e)

      by_read : (r : Bool) → v.readable (next_word b) ≡ r → lacking (cond r (stowed d next) (idle d)).fill < 8 - ones b.ticks
      by_read true e = by_full (complete next) e
      by_read false e = omega (arith, (c.fill b refl).under.short)

  -- the rest of the fetches are those of the fill as it then is
  rest : fetches (7 - ones b.ticks) v (fetched_of v d (Some b)) ≡ finish_calls v (fetched_of v d (Some b))
  rest = by_read (v.readable (next_word b)) refl
    where
      by_full : (full : Bool) → v.readable (next_word b) ≡ true →
          fetches (7 - ones b.ticks) v (cond full (idle (installed d b.line b.way b.protect next.words)) (record { dir = d; fill = Some next })) ≡
          finish_calls v (cond full (idle (installed d b.line b.way b.protect next.words)) (record { dir = d; fill = Some next }))
      by_full true e = fetches_none (7 - ones b.ticks) v (installed d b.line b.way b.protect next.words)
      by_full false e =
          let same : 7 - ones b.ticks ≡ 8 - ones next.ticks = omega (arith, count_more v d b (c.fill b refl) e) in
          ap (λ (n : ℕ). fetches n v (record { dir = d; fill = Some next })) same

      by_read : (r : Bool) → v.readable (next_word b) ≡ r → fetches (7 - ones b.ticks) v (cond r (stowed d next) (idle d)) ≡ finish_calls v (cond r (stowed d next) (idle d))
      by_read true e = by_full (complete next) e
      by_read false e = fetches_none (7 - ones b.ticks) v d

  fetch_first : finish_calls v (record { dir = d; fill = Some b }) ≡ fetch_calls v (Some b) ++ finish_calls v (fetched_of v d (Some b))
  fetch_first =
      let more : 8 - ones b.ticks ≡ suc (7 - ones b.ticks) = omega (arith, (c.fill b refl).under.short) in
      ap (λ (n : ℕ). fetches n v (record { dir = d; fill = Some b })) more ∙ ap (λ (l : List Step). fetch_calls v (Some b) ++ l) rest

pub fetch_less : (v : Shown) (d : Dir) (f : Option Fill) (n : Model) → Coherent v (record { dir = d; fill = f }) → n ≡ fetched_of v d f → is_some f ≡ true → lacking n.fill < lacking f
fetch_less v d None n c e y = absurd (both_ways false refl y)
fetch_less v d (Some b) n c e y = subst (λ (x : Model). lacking x.fill < lacking (Some b)) (sym e) (fetch_falls v d b c)

-- one turn of finishing
pub finish_chain : {P : Type 0} {does : P → Step → P → Type 0} {p q end : P} (v : Shown) (d : Dir) (f : Option Fill) (n : Model) → Coherent v (record { dir = d; fill = f }) → n ≡ fetched_of v d f → is_some f ≡ true →
    Chain does p (fetch_calls v f) q → Chain does q (finish_calls v n) end → Chain does p (finish_calls v (record { dir = d; fill = f })) end
finish_chain v d None n c e y h k = absurd (both_ways false refl y)
finish_chain v d (Some b) n c e y h k =
    chain_as _ _ (fetch_first v d b c) (chain_append h (chain_as (finish_calls v n) (finish_calls v (fetched_of v d (Some b))) (ap (finish_calls v) (sym e)) k))

pub finish_again : (s s' : State) (m n : Model) → Settles s s' → Coherent (shown s') m → n ≡ fetched (shown s') m → finished (shown s) n ≡ finished (shown s) m
finish_again s s' m n a c e =
    ap (finished (shown s)) e
    ∙ ap (λ (v : Shown). finished v (fetched (shown s') m)) (sym (shown_kept s s' a))
    ∙ fetch_finishes (shown s') m.dir m.fill c
    ∙ ap (λ (v : Shown). finished v m) (shown_kept s s' a)

pub none_left : (v : Shown) (d : Dir) (f : Option Fill) → is_some f ≡ false → record { dir = d; fill = f } ≡ finished_of v d f
none_left v d None e = refl
none_left v d (Some b) e = absurd (both_ways true e refl)

pub none_lacking : {P : Type 0} {does : P → Step → P → Type 0} {p : P} (v : Shown) (d : Dir) (f : Option Fill) → is_some f ≡ false → Chain does p (finish_calls v (record { dir = d; fill = f })) p
none_lacking v d None e = done
none_lacking v d (Some b) e = absurd (both_ways true e refl)

pub finish_step : {P : Type 0} {does : P → Step → P → Type 0} {p q end : P} (s s' : State) (m n : Model) → Settles s s' → Coherent (shown s) m → n ≡ fetched (shown s) m → is_some m.fill ≡ true →
    Chain does p (fetch_calls (shown s) m.fill) q → Chain does q (finish_calls (shown s') n) end → Chain does p (finish_calls (shown s) m) end
finish_step s s' m n a c e y h k =
    finish_chain (shown s) m.dir m.fill n c e y h (chain_as (finish_calls (shown s') n) (finish_calls (shown s) n) (ap (λ (v : Shown). finish_calls v n) (sym (shown_kept s s' a))) k)
