-- While the board is locked nothing waits, and only the lock's own writes settle.
use Rattle.std.proofs.Common.{◌≡◌, ◌≢◌, ℕ, ◌⊎◌, Ok, List, [], ◌∷◌, ◌++◌, length, take, drop, Some, None, Option, Result, sym, refl, ap, ◌∙◌, subst, ap₂, inl, inr, arith}
use lib.Seq.{drop-length, take-length, drop-nil, take-nil}
use Rattle.fault.specs.declared.Refusal.{Refusal}
use Rattle.calls.specs.declared.call.Call.{Call}
use Rattle.calls.specs.declared.call.Call.TheVariants.{Write as Post, Unposted, Lock, LockedRead, LockedWrite, Unlock, Ask, MasterWrite, Give, Snoop}
use Rattle.calls.specs.Calls.{cargo_of}
use Rattle.port.specs.declared.Store.{Store}
use Rattle.port.specs.Memory.{applied}
use Rattle.port.proofs.Settling.{applied-append}
use Rattle.book.specs.declared.answer.Mode.{Mode}
use Rattle.book.specs.declared.answer.Mode.TheVariants.{Locked}
use Rattle.book.specs.Tables.{unless_locked, or_else, fits, refusal, if_taken, posts, masters_writes, goes_to, settles_by, Rule, none, all}
use Rattle.book.specs.Book.{Book, refused, joins, waiting_line, step, rule, Admits, Allowed, unless, told, answer}
use Rattle.fault.specs.declared.Fault.{Fault}
use Rattle.book.specs.declared.answer.Answer.{Answer}
use Rattle.book.specs.declared.answer.Answer.TheVariants.{Done}
use Rattle.book.specs.Runs.{Moment, after, Follows, if_ok, locked_write, locked_writes, NoneUnlocks}
use Rattle.book.proofs.Records.{took_locks}

-- A board that a call leaves locked: all has settled, or it was locked before and nothing joined.
emptied : (m : Mode) (n : ℕ) (c : Call) (o : Option Refusal) → refusal m n c ≡ o → if_taken o (goes_to m c) m ≡ Locked
    → (if_taken o (settles_by c) none ≡ all) ⊎ ((m ≡ Locked) × (if_taken o (posts c) [] ≡ []))
emptied m n c (Some x) e h = inr (h, refl)
emptied m n (Post s) None e h =
    let f = ap (λ (x : Mode). or_else (unless_locked x) (fits n (cargo_of (Post s)))) (sym h) ∙ e in
    let z : ◌≡◌ {A = ℕ} 0 1 = cc in absurd (omega arith)
emptied m n (Unposted s) None e h = inl refl
emptied m n Lock None e h = inl refl
emptied m n (LockedWrite s) None e h = inl refl
emptied m n Unlock None e h = absurd (cc)
emptied m n Ask None e h = absurd (cc)
emptied m n Give None e h = absurd (cc)
emptied m n c None e h = inr (h, refl)

abbrev pub Calm : Book → Type 0
Calm b = b.mode ≡ Locked → b.state.waiting ≡ []

pub calm_step : (b : Book) (c : Call) (k : ℕ) → Allowed b c k → Calm b → Calm (step b c k)
calm_step b c k h calm e = go (emptied b.mode b.state.facts.words c (refused b c) refl e)
  where
    go : (rule b c ≡ all) ⊎ ((b.mode ≡ Locked) × (joins b c ≡ [])) → drop k (waiting_line b c) ≡ []
    go (inl p) =
        let q : k ≡ length (waiting_line b c) = subst (λ (r : Rule). Admits r (length (waiting_line b c)) k) p h in
        ap (λ (n : ℕ). drop n (waiting_line b c)) q ∙ drop-length (waiting_line b c)
    go (inr p) = ap₂ (λ (xs ys : List Store). drop k (xs ++ ys)) (calm p.0) p.1 ∙ drop-nil k

pub calm_run : (b : Book) (run : List Moment) → Follows b run → Calm b → Calm (after b run)
calm_run b [] f calm = calm
calm_run b (x ∷ run) f calm = calm_run (step b x.call x.count) run f.2 (calm_step b x.call x.count f.0 calm)

-- What a locked board takes: no master's write, and no write but the lock's.
pub record Own (o : Option Refusal) (c : Call) : Type 0 where
  pub no_master : if_taken o (masters_writes c) [] ≡ []
  pub own_writes : if_taken o (posts c) [] ≡ if_taken o (locked_write c) []
  pub at_once : (if_taken o (settles_by c) none ≡ all) ⊎ (if_taken o (posts c) [] ≡ [])

own : (n : ℕ) (c : Call) (o : Option Refusal) → refusal Locked n c ≡ o → Own o c
own n c (Some x) e = record { no_master = refl; own_writes = refl; at_once = inr refl }
own n (Post s) None e = absurd (cc)
own n (Unposted s) None e = absurd (cc)
own n (MasterWrite s) None e = absurd (cc)
own n (LockedWrite s) None e = record { no_master = refl; own_writes = refl; at_once = inl refl }
own n c None e = record { no_master = refl; own_writes = refl; at_once = inr refl }

-- The board is locked before each of the calls.
abbrev pub Held : Book → List Moment → Type 0
Held b [] = Unit {0}
Held b (m ∷ ms) = (b.mode ≡ Locked) × Held (step b m.call m.count) ms

-- All of a line that settles, or is empty.
whole : (r : Rule) (ws : List Store) (k : ℕ) → Admits r (length ws) k → (r ≡ all) ⊎ (ws ≡ []) → (take k ws ≡ ws) × (drop k ws ≡ [])
whole r ws k h (inl e) =
    let q : k ≡ length ws = subst (λ (x : Rule). Admits x (length ws) k) e h in
    (ap (λ (n : ℕ). take n ws) q ∙ take-length ws, ap (λ (n : ℕ). drop n ws) q ∙ drop-length ws)
whole r ws k h (inr e) =
    (ap (λ (x : List Store). take k x) e ∙ take-nil k ∙ sym e, ap (λ (x : List Store). drop k x) e ∙ drop-nil k)

locked_step : (b : Book) (c : Call) (k : ℕ) → b.mode ≡ Locked → b.state.waiting ≡ [] → Allowed b c k
    → ((step b c k).state.settled ≡ applied b.state.protected (if_ok (answer b c) (locked_write c)) b.state.settled) × ((step b c k).state.waiting ≡ [])
locked_step b c k e f h =
    let p = b.state.protected in
    let o = own b.state.facts.words c (refused b c) (ap (λ (m : Mode). refusal m b.state.facts.words c) (sym e)) in
    let l : waiting_line b c ≡ joins b c = ap (λ (x : List Store). x ++ joins b c) f in
    let w = whole (rule b c) (waiting_line b c) k h (elim o.at_once [ inl x ↦ inl x | inr x ↦ inr (l ∙ x) ]) in (
      ap₂ (λ (xs ys : List Store). applied p xs (applied p ys b.state.settled)) (w.0 ∙ l ∙ o.own_writes ∙ sym (took_locks b c)) o.no_master,
      w.1,
    )

pub locked_run : (b : Book) (run : List Moment) → b.state.waiting ≡ [] → Follows b run → Held b run
    → ((after b run).state.settled ≡ applied b.state.protected (locked_writes run) b.state.settled) × ((after b run).state.waiting ≡ [])
locked_run b [] e f p = (refl, e)
locked_run b (x ∷ run) e f p =
    let o = locked_step b x.call x.count p.0 e f.0 in
    let r = locked_run (step b x.call x.count) run o.1 f.2 p.1 in
    let own = if_ok (answer b x.call) (locked_write x.call) in (
      r.0 ∙ ap (λ y. applied b.state.protected (locked_writes run) y) o.0
          ∙ sym (applied-append b.state.protected own (locked_writes run) b.state.settled)
          ∙ ap (λ (a : Result Answer Fault). applied b.state.protected (if_ok a (locked_write x.call) ++ locked_writes run) b.state.settled) (sym f.1),
      r.1,
    )

-- A lock that is answered as done locks the board.
pub now_locked : (b : Book) (k : ℕ) → answer b Lock ≡ Ok Done → (step b Lock k).mode ≡ Locked
now_locked b k = by_refusal (refused b Lock)
  where
    by_refusal : (o : Option Refusal) → told b.state.facts.floor Lock (unless o (Ok Done)) ≡ Ok Done → if_taken o (goes_to b.mode Lock) b.mode ≡ Locked
    by_refusal None h = refl
    by_refusal (Some x) h = let z : ◌≡◌ {A = ℕ} 0 1 = cc in absurd (omega arith)

-- Any call but an unlock leaves it locked.
locked_still : (b : Book) (c : Call) (k : ℕ) → b.mode ≡ Locked → (c ≡ Unlock → answer b c ≢ Ok Done) → (step b c k).mode ≡ Locked
locked_still b c k e n = ap (λ (m : Mode). if_taken (refusal m b.state.facts.words c) (goes_to m c) m) e ∙ by_call c n
  where
    either_way : (o : Option Refusal) → if_taken o Locked Locked ≡ Locked
    either_way None = refl
    either_way (Some x) = refl

    by_call : (d : Call) → (d ≡ Unlock → answer b d ≢ Ok Done) → if_taken (refusal Locked b.state.facts.words d) (goes_to Locked d) Locked ≡ Locked
    by_call (LockedRead w) n = either_way (refusal Locked b.state.facts.words (LockedRead w))
    by_call (LockedWrite s) n = either_way (refusal Locked b.state.facts.words (LockedWrite s))
    by_call Unlock n = absurd (n refl (ap (λ (m : Mode). told b.state.facts.floor Unlock (unless (refusal m b.state.facts.words Unlock) (Ok Done))) e))
    by_call (Snoop w) n = either_way (refusal Locked b.state.facts.words (Snoop w))
    by_call d n = refl

pub held : (b : Book) (run : List Moment) → b.mode ≡ Locked → Follows b run → NoneUnlocks run → Held b run
held b [] e f n = tt
held b (x ∷ run) e f n =
    let still = locked_still b x.call x.count e (λ q h. n.0 q (f.1 ∙ h)) in
    (e, held (step b x.call x.count) run still f.2 n.1)
