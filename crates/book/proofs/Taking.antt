-- The port's promises, as one call of the board.
use Rattle.std.proofs.Common.{◌≡◌, ℕ, Bool, true, false, cond, ltb, [], ◌∷◌, ◌++◌, length, Some, None, Ok, Err, Option, Result, sym, refl, ap, ◌∙◌, subst, append-nil, arith}
use Rattle.std.specs.Result.{result_and}
use Rattle.fault.specs.declared.Fault.{Fault}
use Rattle.fault.specs.declared.Refusal.{Refusal}
use Rattle.fault.specs.declared.Refusal.TheVariants.{PastEnd, BadLanes, Unreadable}
use Rattle.calls.specs.declared.call.Call.{Call}
use Rattle.calls.specs.declared.call.Call.TheVariants.{Read, Write as Post, Advance, Lock, MasterWrite, Snoop, Flush}
use Rattle.calls.specs.declared.call.Cargo.{Cargo}
use Rattle.calls.specs.declared.call.Cargo.TheVariants.{Store as OfStore}
use Rattle.calls.specs.Calls.{cargo_of}
use Rattle.port.specs.declared.Store.{Store}
use Rattle.port.specs.declared.Port.{Ghosts}
use Rattle.port.specs.Memory.{State, seen, posted, drained, outside}
use Rattle.port.specs.Meaning.{laned, unreadable, past_end, bad_lanes, read_answer, write_answer, snoop_answer, Settles, Advances, ByAnswer, Kept}
use Rattle.port.specs.Steps.{reads, writes, advances, outsides, snoops, flushes, done, then, Drains, Through}
use Rattle.port.proofs.Settling.{posted_none}
use Rattle.book.specs.declared.answer.Mode.{Mode}
use Rattle.book.specs.declared.answer.Mode.TheVariants.{Locked}
use Rattle.book.specs.declared.answer.Answer.{Answer}
use Rattle.book.specs.declared.answer.Answer.TheVariants.{Done, Word}
use Rattle.book.specs.Tables.{Asks, through, Takers, Deed, deed_by, deed, joining, passing, led, settling_at, stop, fits, in_range, or_else, refusal, place_in, fault_of, if_taken, posts, masters_writes, goes_to, none, all, settles_by}
use Rattle.book.specs.Book.{Book, told_of, book_of, settle, mastered, Admits, says, unless, told}
use Rattle.book.specs.Calling.{as_done, as_word, MakesBy, Makes, Reaches, Called}
use Rattle.book.proofs.Counts.{settle_none, settle_all, counted, Landed, advanced}

-- The book's step and rule, at a refusal that is still to be told.
abbrev step_by : Option Refusal → Mode → State → Call → ℕ → Book
step_by o m s c k = book_of (if_taken o (goes_to m c) m) (settle k (posted (if_taken o (posts c) []) (mastered (if_taken o (masters_writes c) []) s)))

abbrev AllowedBy : Option Refusal → State → Call → ℕ → Type 0
AllowedBy o s c k = Admits (if_taken o (settles_by c) none) (length (s.waiting ++ if_taken o (posts c) [])) k

reaches : (o : Option Refusal) (X Y : Type 0) → o ≡ None → X → Reaches o X Y
reaches o X Y e x = subst (λ (o : Option Refusal). Reaches o X Y) (sym e) x

kept_same : {P : Type 0} (r : Result Answer Fault) (p q : P) → q ≡ p → Kept r p q
kept_same (Ok a) p q e = tt
kept_same (Err fault) p q e = λ _. e

-- A call that is taken.
pub taken : {P : Type 0} (G : Ghosts P) (m : Mode) (p : P) (c : Call) (r : Result Answer Fault) (q : P)
    → stop m c ≡ None → fits (G.state p).facts.words (cargo_of c) ≡ None → Landed c (G.state p) (G.state q)
    → r ≡ told (G.state p).facts.floor c (says (G.state p) c) → Makes G c p q → Kept r p q
    → Called G m p c r (goes_to m c) q
taken G m p c r q e f l a d k =
    let o : refusal m (G.state p).facts.words c ≡ None = ap (λ (x : Option Refusal). or_else x (fits (G.state p).facts.words (cargo_of c))) e ∙ f in
    record {
      count = l.count;
      allowed = subst (λ (x : Option Refusal). AllowedBy x (G.state p) c l.count) (sym o) l.admitted;
      answered = a ∙ ap (λ (x : Option Refusal). told (G.state p).facts.floor c (unless x (says (G.state p) c))) (sym o);
      left = ap (book_of (goes_to m c)) l.left ∙ ap (λ (x : Option Refusal). step_by x m (G.state p) c l.count) (sym o);
      made = reaches (stop m c) (Makes G c p q) (q ≡ p) e d;
      kept = k;
    }

-- A call that the port turns down.
pub turned_down : {P : Type 0} (G : Ghosts P) (m : Mode) (p : P) (c : Call) (r : Result Answer Fault) (q : P) (x : Refusal)
    → stop m c ≡ None → fits (G.state p).facts.words (cargo_of c) ≡ Some x → r ≡ Err (fault_of (G.state p).facts.floor c x)
    → q ≡ p → Makes G c p q → Called G m p c r m q
turned_down G m p c r q x e f a s d =
    let o : refusal m (G.state p).facts.words c ≡ Some x = ap (λ (y : Option Refusal). or_else y (fits (G.state p).facts.words (cargo_of c))) e ∙ f in
    record {
      count = 0;
      allowed = subst (λ (y : Option Refusal). AllowedBy y (G.state p) c 0) (sym o) refl;
      answered = a ∙ ap (λ (y : Option Refusal). told (G.state p).facts.floor c (unless y (says (G.state p) c))) (sym o);
      left = ap (λ y. book_of m (G.state y)) s ∙ ap (book_of m) (sym (settle_none (G.state p))) ∙ ap (λ (y : Option Refusal). step_by y m (G.state p) c 0) (sym o);
      made = reaches (stop m c) (Makes G c p q) (q ≡ p) e d;
      kept = kept_same r p q s;
    }

-- Reads.
told_read : (b : Bool) (w v floor : ℕ) → as_word (cond b (Ok v) (Err (unreadable w))) ≡ told floor (Read w) (cond b (Ok (Word v)) (Err Unreadable))
told_read true w v floor = refl
told_read false w v floor = refl

kept_read : {P : Type 0} (r : Result ℕ Fault) (p q : P) → Kept r p q → Kept (as_word r) p q
kept_read (Ok v) p q k = k
kept_read (Err fault) p q k = k

pub read_called : {P : Type 0} (G : Ghosts P) (m : Mode) (p : P) (w : ℕ) (r : Result ℕ Fault) (x : Result Answer Fault) (q : P)
    → stop m (Read w) ≡ None → r ≡ read_answer (G.state p) w → x ≡ as_word r → Settles (G.state p) (G.state q) → Kept r p q → G.does p (reads w r) q
    → Called G m p (Read w) x m q
read_called G m p w r x q e a b h k d = go (ltb w (G.state p).facts.words) refl
  where
    calls : Makes G (Read w) p q
    calls = then (subst (λ (y : Result ℕ Fault). G.does p (reads w y) q) a d) done

    told_at : (t : Bool) → ltb w (G.state p).facts.words ≡ t → r ≡ result_and {T = Unit {0}} (cond t (Ok tt) (Err (past_end w (G.state p).facts.floor))) (cond ((seen (G.state p)).readable w) (Ok ((seen (G.state p)).word w)) (Err (unreadable w)))
    told_at t f = a ∙ ap (λ (y : Bool). result_and {T = Unit {0}} (cond y (Ok tt) (Err (past_end w (G.state p).facts.floor))) (cond ((seen (G.state p)).readable w) (Ok ((seen (G.state p)).word w)) (Err (unreadable w)))) f

    kept : Kept x p q
    kept = subst (λ (y : Result Answer Fault). Kept y p q) (sym b) (kept_read r p q k)

    same : r ≡ Err (past_end w (G.state p).facts.floor) → q ≡ p
    same f = subst (λ (y : Result ℕ Fault). Kept y p q) f k (λ n. absurd (cc))

    lands : Landed (Read w) (G.state p) (G.state q)
    lands =
        let n = counted (G.state p) (G.state q) h in
        record {
          count = n.count;
          admitted = omega (arith, n.within, ap length (append-nil (G.state p).waiting));
          left = n.left ∙ ap (settle n.count) (sym (posted_none (G.state p)));
        }

    go : (t : Bool) → ltb w (G.state p).facts.words ≡ t → Called G m p (Read w) x m q
    go true f =
        taken G m p (Read w) x q e (ap (λ (y : Bool). cond y None (Some PastEnd)) f) lands
        (b ∙ ap as_word (told_at true f) ∙ told_read ((seen (G.state p)).readable w) w ((seen (G.state p)).word w) (G.state p).facts.floor) calls kept
    go false f =
        turned_down G m p (Read w) x q PastEnd e (ap (λ (y : Bool). cond y None (Some PastEnd)) f) (b ∙ ap as_word (told_at false f)) (same (told_at false f)) calls

-- Stores: the port's answer and the book's refusal are one.
pub data Agree (floor : ℕ) (c : Call) (o : Option Refusal) (r : Result (Unit {0}) Fault) : Type 0 where
  both_take : o ≡ None → r ≡ Ok tt → Agree floor c o r
  both_refuse : (x : Refusal) → o ≡ Some x → r ≡ Err (fault_of floor c x) → Agree floor c o r

agree_store : (n floor : ℕ) (c : Call) (s : Store) (x y : Bool) → cargo_of c ≡ OfStore s
    → Agree floor c (or_else (cond x None (Some PastEnd)) (cond y None (Some BadLanes)))
    (result_and {T = Unit {0}} (cond x (Ok tt) (Err (past_end s.word floor))) (cond y (Ok tt) (Err (bad_lanes s.word floor))))
agree_store n floor c s true true e = both_take refl refl
agree_store n floor c s true false e = both_refuse BadLanes refl (ap (λ (g : Cargo). Err (bad_lanes (place_in g) floor)) (sym e))
agree_store n floor c s false y e = both_refuse PastEnd refl (ap (λ (g : Cargo). Err (past_end (place_in g) floor)) (sym e))

-- A call whose port answered no word.
pub answer_called : {P : Type 0} (G : Ghosts P) (m : Mode) (p : P) (c : Call) (r : Result (Unit {0}) Fault) (x : Result Answer Fault) (q : P)
    → goes_to m c ≡ m → stop m c ≡ None → says (G.state p) c ≡ Ok Done → Agree (G.state p).facts.floor c (fits (G.state p).facts.words (cargo_of c)) r
    → x ≡ as_done r → ByAnswer r (Landed c (G.state p) (G.state q)) (q ≡ p) → Makes G c p q
    → Called G m p c x m q
answer_called G m p c r x q g e z (both_take f h) b l d =
    subst (λ (n : Mode). Called G m p c x n q) g
    (taken G m p c x q e f (subst (λ (y : Result (Unit {0}) Fault). ByAnswer y (Landed c (G.state p) (G.state q)) (q ≡ p)) h l)
    (b ∙ ap as_done h ∙ ap (told (G.state p).facts.floor c) (sym z)) d
    (subst (λ (y : Result Answer Fault). Kept y p q) (sym (b ∙ ap as_done h)) tt))
answer_called G m p c r x q g e z (both_refuse y f h) b l d =
    turned_down G m p c x q y e f (b ∙ ap as_done h) (subst (λ (y : Result (Unit {0}) Fault). ByAnswer y (Landed c (G.state p) (G.state q)) (q ≡ p)) h l) d

by_map : (r : Result (Unit {0}) Fault) (A B C : Type 0) → (A → B) → ByAnswer r A C → ByAnswer r B C
by_map (Ok u) A B C f x = f x
by_map (Err fault) A B C f x = x

pub store_called : {P : Type 0} (G : Ghosts P) (m : Mode) (p : P) (c : Call) (s : Store) (r : Result (Unit {0}) Fault) (x : Result Answer Fault) (q : P) (A : Type 0)
    → cargo_of c ≡ OfStore s → goes_to m c ≡ m → stop m c ≡ None → says (G.state p) c ≡ Ok Done → r ≡ write_answer (G.state p) s
    → x ≡ as_done r → (A → Landed c (G.state p) (G.state q)) → ByAnswer r A (q ≡ p) → Makes G c p q
    → Called G m p c x m q
store_called G m p c s r x q A o g e z a b f l d =
    answer_called G m p c r x q g e z
    (subst (λ (k : Cargo). Agree (G.state p).facts.floor c (fits (G.state p).facts.words k) r) (sym o)
    (subst (λ (y : Result (Unit {0}) Fault). Agree (G.state p).facts.floor c (fits (G.state p).facts.words (OfStore s)) y) (sym a)
    (agree_store (G.state p).facts.words (G.state p).facts.floor c s (ltb s.word (G.state p).facts.words) (laned s.lanes) o)))
    b (by_map r A (Landed c (G.state p) (G.state q)) (q ≡ p) f l) d

agree_word : (floor : ℕ) (w : ℕ) (x : Bool) → Agree floor (Snoop w) (cond x None (Some PastEnd)) (cond x (Ok tt) (Err (past_end w floor)))
agree_word floor w true = both_take refl refl
agree_word floor w false = both_refuse PastEnd refl refl

-- What each kind of call lands.
landed_none : (c : Call) (s t : State) → settles_by c ≡ none → posts c ≡ [] → t ≡ mastered (masters_writes c) s → Landed c s t
landed_none c s t e f h = record {
  count = 0;
  admitted = rw e refl;
  left = h ∙ rw f (sym (settle_none (mastered (masters_writes c) s)));
}

pub snoop_called : {P : Type 0} (G : Ghosts P) (m : Mode) (p : P) (w : ℕ) (r : Result (Unit {0}) Fault) (x : Result Answer Fault) (q : P)
    → r ≡ snoop_answer (G.state p) w → x ≡ as_done r → ByAnswer r (G.state q ≡ G.state p) (q ≡ p) → G.does p (snoops w r) q
    → Called G m p (Snoop w) x m q
snoop_called G m p w r x q a b l d =
    answer_called G m p (Snoop w) r x q refl refl refl
    (subst (λ (y : Result (Unit {0}) Fault). Agree (G.state p).facts.floor (Snoop w) (in_range (G.state p).facts.words w) y) (sym a) (agree_word (G.state p).facts.floor w (ltb w (G.state p).facts.words)))
    b (by_map r (G.state q ≡ G.state p) (Landed (Snoop w) (G.state p) (G.state q)) (q ≡ p) (landed_none (Snoop w) (G.state p) (G.state q) refl refl) l)
    (then (subst (λ (y : Result (Unit {0}) Fault). G.does p (snoops w y) q) a d) done)

pub write_called : {P : Type 0} (G : Ghosts P) (m : Mode) (p : P) (s : Store) (r : Result (Unit {0}) Fault) (x : Result Answer Fault) (q : P)
    → stop m (Post s) ≡ None → r ≡ write_answer (G.state p) s → x ≡ as_done r
    → ByAnswer r (Settles (posted (s ∷ []) (G.state p)) (G.state q)) (q ≡ p) → G.does p (writes s r) q
    → Called G m p (Post s) x m q
write_called G m p s r x q e a b l d =
    store_called G m p (Post s) s r x q (Settles (posted (s ∷ []) (G.state p)) (G.state q)) refl refl e refl a b
    (λ h. let n = counted (posted (s ∷ []) (G.state p)) (G.state q) h in record { count = n.count; admitted = n.within; left = n.left })
    l (then (subst (λ (y : Result (Unit {0}) Fault). G.does p (writes s y) q) a d) done)

pub outside_called : {P : Type 0} (G : Ghosts P) (m : Mode) (p : P) (s : Store) (r : Result (Unit {0}) Fault) (x : Result Answer Fault) (q : P)
    → stop m (MasterWrite s) ≡ None → r ≡ write_answer (G.state p) s → x ≡ as_done r
    → ByAnswer r (G.state q ≡ outside s (G.state p)) (q ≡ p) → G.does p (outsides s r) q
    → Called G m p (MasterWrite s) x m q
outside_called G m p s r x q e a b l d =
    store_called G m p (MasterWrite s) s r x q (G.state q ≡ outside s (G.state p)) refl refl e refl a b
    (landed_none (MasterWrite s) (G.state p) (G.state q) refl refl)
    l (then (subst (λ (y : Result (Unit {0}) Fault). G.does p (outsides s y) q) a d) done)

pub landed_all : (c : Call) (s t : State) → settles_by c ≡ all → t ≡ drained (posted (posts c) (mastered (masters_writes c) s)) → Landed c s t
landed_all c s t e h =
    record { count = length (s.waiting ++ posts c); admitted = rw e refl; left = h ∙ settle_all (posted (posts c) (mastered (masters_writes c) s)) }

-- A write that is sent through, by whomever.
pub through_called : {P : Type 0} (G : Ghosts P) (m : Mode) (p : P) (c : Call) (t : Takers) (s : Store) (r : Result (Unit {0}) Fault) (x : Result Answer Fault) (q : P)
    → deed c ≡ deed_by t (through s) None → cargo_of c ≡ OfStore s → stop m c ≡ None → r ≡ write_answer (G.state p) s → x ≡ as_done r
    → ByAnswer r (G.state q ≡ drained (posted (s ∷ []) (G.state p))) (q ≡ p) → Through G.state G.does s r p q
    → Called G m p c x m q
through_called G m p c t s r x q k o e a b l d =
    let asks = ap (λ (y : Deed). y.asks) k in
    store_called G m p c s r x q (G.state q ≡ drained (posted (s ∷ []) (G.state p))) o (ap (λ (y : Deed). led y.leads m) k) e
    (ap (told_of (G.state p)) asks) a b
    (λ h. landed_all c (G.state p) (G.state q) (ap settling_at asks) (h ∙ ap (λ (y : Asks). drained (posted (joining y) (mastered (passing y) (G.state p)))) (sym asks))) l
    (subst (λ (y : Asks). MakesBy G y p q) (sym asks) (subst (λ (y : Result (Unit {0}) Fault). Through G.state G.does s y p q) a d))

pub lock_called : {P : Type 0} (G : Ghosts P) (m : Mode) (p q : P)
    → stop m Lock ≡ None → G.state q ≡ drained (G.state p) → Drains G.state G.does p q
    → Called G m p Lock (Ok Done) Locked q
lock_called G m p q e h d =
    taken G m p Lock (Ok Done) q e refl
    (landed_all Lock (G.state p) (G.state q) refl (h ∙ ap drained (sym (posted_none (G.state p)))))
    refl d tt

pub advance_called : {P : Type 0} (G : Ghosts P) (m : Mode) (p q : P)
    → Advances (G.state p) (G.state q) → G.does p advances q → Called G m p Advance (Ok Done) m q
advance_called G m p q h d =
    let n = advanced (G.state p) (G.state q) h in
    taken G m p Advance (Ok Done) q refl refl (record { count = n.0; admitted = n.1.0; left = n.1.1 }) refl (then d done) tt

pub flush_called : {P : Type 0} (G : Ghosts P) (m : Mode) (p q : P)
    → G.state q ≡ G.state p → G.does p flushes q → Called G m p Flush (Ok Done) m q
flush_called G m p q h d =
    taken G m p Flush (Ok Done) q refl refl (landed_none Flush (G.state p) (G.state q) refl refl h) refl (then d done) tt
