-- The record of a run says what the book does.
use Rattle.std.proofs.Common.{◌≡◌, ℕ, ◌+◌, ◌≤◌, Bool, ◌⊎◌, List, [], ◌∷◌, ◌++◌, length, take, drop, Some, None, Ok, Err, Option, Result, sym, refl, ap, ◌∙◌, subst, ap₂, inl, inr, append_assoc, arith, length-append, take-append-drop, length-take}
use Rattle.std.proofs.lemmas.List.{map-append, take-map, drop-map, length-map}
use Rattle.fault.specs.declared.Fault.{Fault}
use Rattle.fault.specs.declared.Refusal.{Refusal}
use Rattle.calls.specs.declared.call.Call.{Call}
use Rattle.calls.specs.declared.call.Call.TheVariants.{Read, Write as Post, Unposted, LockedRead, LockedWrite, MasterRead, MasterWrite}
use Rattle.port.specs.declared.Store.{Store}
use Rattle.port.specs.Memory.{Memory, State, applied}
use Rattle.port.proofs.Settling.{applied-append}
use Rattle.book.specs.declared.answer.Answer.{Answer}
use Rattle.book.specs.declared.answer.Answer.TheVariants.{Done}
use Rattle.book.specs.Tables.{if_taken, posts, masters_writes, Rule, none, some, one_or_more, all}
use Rattle.book.specs.Book.{Book, refused, joins, masters, waiting_line, step, rule, Admits, says, unless, told, answer}
use Rattle.book.specs.Runs.{Moment, moment, after, Follows, if_ok, Entry, entry_of, marked, own_write, masters_write, locked_write, Ledger, joining_entries, entered, ledger, total}

-- ACCEPTED WRITES, read off the answers

if_ok_none : {X : Type 0} (r : Result Answer Fault) → if_ok {X = X} r [] ≡ []
if_ok_none (Ok a) = refl
if_ok_none (Err fault) = refl

-- A call that brings no write, or one that is taken without a look at memory.
pub record Writeless (c : Call) : Type 0 where
  pub no_post : posts c ≡ []
  pub no_master : masters_writes c ≡ []
  pub no_lock : locked_write c ≡ []

writes_or_not : (s : State) (c : Call) → (says s c ≡ Ok Done) ⊎ Writeless c
writes_or_not s (Read w) = inr (record { no_post = refl; no_master = refl; no_lock = refl })
writes_or_not s (LockedRead w) = inr (record { no_post = refl; no_master = refl; no_lock = refl })
writes_or_not s (MasterRead w) = inr (record { no_post = refl; no_master = refl; no_lock = refl })
writes_or_not s c = inl refl

pub none_taken : {X : Type 0} (o : Option Refusal) → if_taken {X = List X} o [] [] ≡ []
none_taken None = refl
none_taken (Some x) = refl

took_done : (floor : ℕ) (c : Call) (o : Option Refusal) (xs : List Store) → if_ok (told floor c (unless o (Ok Done))) xs ≡ if_taken o xs []
took_done floor c None xs = refl
took_done floor c (Some x) xs = refl

took_of : (b : Book) (c : Call) (xs : List Store) → (says b.state c ≡ Ok Done) ⊎ (xs ≡ []) → if_ok (answer b c) xs ≡ if_taken (refused b c) xs []
took_of b c xs (inl e) =
    ap (λ (x : Result Answer Refusal). if_ok (told b.state.facts.floor c (unless (refused b c) x)) xs) e ∙ took_done b.state.facts.floor c (refused b c) xs
took_of b c xs (inr e) =
    ap (λ (x : List Store). if_ok (answer b c) x) e ∙ if_ok_none (answer b c) ∙ sym (none_taken (refused b c)) ∙ ap (λ (x : List Store). if_taken (refused b c) x []) (sym e)

-- the plain tables of writes are those of the deeds
own_is : (c : Call) → own_write c ≡ posts c
own_is (Post s) = refl
own_is (Unposted s) = refl
own_is (LockedWrite s) = refl
own_is c = refl

masters_is : (c : Call) → masters_write c ≡ masters_writes c
masters_is (MasterWrite s) = refl
masters_is c = refl

pub took_posts : (b : Book) (c : Call) → if_ok (answer b c) (own_write c) ≡ joins b c
took_posts b c =
    ap (λ (ws : List Store). if_ok (answer b c) ws) (own_is c) ∙
    took_of b c (posts c) (elim (writes_or_not b.state c) [ inl e ↦ inl e | inr e ↦ inr e.no_post ])

pub took_masters : (b : Book) (c : Call) → if_ok (answer b c) (masters_write c) ≡ masters b c
took_masters b c =
    ap (λ (ws : List Store). if_ok (answer b c) ws) (masters_is c) ∙
    took_of b c (masters_writes c) (elim (writes_or_not b.state c) [ inl e ↦ inl e | inr e ↦ inr e.no_master ])

pub took_locks : (b : Book) (c : Call) → if_ok (answer b c) (locked_write c) ≡ if_taken (refused b c) (locked_write c) []
took_locks b c = took_of b c (locked_write c) (elim (writes_or_not b.state c) [ inl e ↦ inl e | inr e ↦ inr e.no_lock ])

-- THE LEDGER AND THE BOOK

-- What has settled, as writes, and what waits: the ledger's and the book's, over the first content.
pub record Tells (m : Memory) (p : ℕ → Bool) (b : Book) (l : Ledger) : Type 0 where
  pub marks : b.state.protected ≡ p
  pub waiting : l.waiting ≡ marked p b.state.waiting
  pub writes : List Store
  pub settled : l.settled ≡ marked p writes
  pub memory : b.state.settled ≡ applied p writes m

pub joined_is : (p : ℕ → Bool) (b : Book) (l : Ledger) (c : Call) (k : ℕ) → l.waiting ≡ marked p b.state.waiting
    → l.waiting ++ joining_entries p (moment c (answer b c) k) ≡ marked p (waiting_line b c)
joined_is p b l c k e =
    ap₂ (λ (xs : List Entry) (ys : List Store). xs ++ marked p ys) e (took_posts b c) ∙ sym (map-append (entry_of p) b.state.waiting (joins b c))

tells_step : (m : Memory) (p : ℕ → Bool) (b : Book) (l : Ledger) (c : Call) (k : ℕ) → Tells m p b l → Tells m p (step b c k) (entered p l (moment c (answer b c) k))
tells_step m p b l c k h =
    let j = joined_is p b l c k h.waiting in
    let new = masters b c ++ take k (waiting_line b c) in
    record {
      marks = h.marks;
      waiting = ap (λ (x : List Entry). drop k x) j ∙ drop-map (entry_of p) k (waiting_line b c);
      writes = h.writes ++ new;
      settled = ap₂ (λ (xs ys : List Entry). xs ++ ys) h.settled
          (ap₂ (λ (xs : List Store) (ys : List Entry). marked p xs ++ ys) (took_masters b c) (ap (λ (x : List Entry). take k x) j ∙ take-map (entry_of p) k (waiting_line b c))
          ∙ sym (map-append (entry_of p) (masters b c) (take k (waiting_line b c))))
          ∙ sym (map-append (entry_of p) h.writes new);
      memory = ap (λ (q : ℕ → Bool). applied q (take k (waiting_line b c)) (applied q (masters b c) b.state.settled)) h.marks
          ∙ ap (λ (x : Memory). applied p (take k (waiting_line b c)) (applied p (masters b c) x)) h.memory
          ∙ sym (applied-append p (masters b c) (take k (waiting_line b c)) (applied p h.writes m))
          ∙ sym (applied-append p h.writes new m);
    }

pub tells_run : (m : Memory) (p : ℕ → Bool) (b : Book) (l : Ledger) (run : List Moment) → Follows b run → Tells m p b l → Tells m p (after b run) (ledger p l run)
tells_run m p b l [] f h = h
tells_run m p b l (x ∷ run) f h =
    tells_run m p (step b x.call x.count) (entered p l x) run f.2
    (subst (λ (r : Result Answer Fault). Tells m p (step b x.call x.count) (entered p l (moment x.call r x.count))) (sym f.1) (tells_step m p b l x.call x.count h))

-- ONCE AND IN ORDER

pub once : (p : ℕ → Bool) (l : Ledger) (run : List Moment) → l.own ++ l.waiting ≡ l.accepted
    → (ledger p l run).own ++ (ledger p l run).waiting ≡ (ledger p l run).accepted
once p l [] e = e
once p l (x ∷ run) e =
    once p (entered p l x) run
    (append_assoc l.own (take x.count (l.waiting ++ joining_entries p x)) (drop x.count (l.waiting ++ joining_entries p x))
    ∙ ap (λ (xs : List Entry). l.own ++ xs) (take-append-drop x.count (l.waiting ++ joining_entries p x))
    ∙ sym (append_assoc l.own l.waiting (joining_entries p x))
    ∙ ap (λ (xs : List Entry). xs ++ joining_entries p x) e)

within : (r : Rule) (n k : ℕ) → Admits r n k → k ≤ n
within none n k h = omega arith
within some n k h = h
within one_or_more n k h = h.0
within all n k h = omega arith

pub many : (m : Memory) (p : ℕ → Bool) (b : Book) (l : Ledger) (run : List Moment) → Follows b run → Tells m p b l
    → length (ledger p l run).own ≡ length l.own + total run
many m p b l [] f h = omega arith
many m p b l (x ∷ run) f h =
    let next = subst (λ (r : Result Answer Fault). Tells m p (step b x.call x.count) (entered p l (moment x.call r x.count))) (sym f.1) (tells_step m p b l x.call x.count h) in
    let size : length (l.waiting ++ joining_entries p x) ≡ length (waiting_line b x.call) =
    ap length (ap (λ (r : Result Answer Fault). l.waiting ++ joining_entries p (moment x.call r x.count)) f.1 ∙ joined_is p b l x.call x.count h.waiting) ∙ length-map (waiting_line b x.call) (entry_of p) in
    let le : x.count ≤ length (waiting_line b x.call) = within (rule b x.call) (length (waiting_line b x.call)) x.count f.0 in
    let front : length (take x.count (l.waiting ++ joining_entries p x)) ≡ x.count = length-take x.count (l.waiting ++ joining_entries p x) ∙ omega arith in
    let rest = many m p (step b x.call x.count) (entered p l x) run f.2 next in
    let own = length-append l.own (take x.count (l.waiting ++ joining_entries p x)) in omega (arith, rest, own, front)

-- PARTS OF A RUN

pub front : (b : Book) (before later : List Moment) → Follows b (before ++ later) → Follows b before
front b [] later f = tt
front b (x ∷ before) later f = (f.0, f.1, front (step b x.call x.count) before later f.2)

pub back : (b : Book) (before later : List Moment) → Follows b (before ++ later) → Follows (after b before) later
back b [] later f = f
back b (x ∷ before) later f = back (step b x.call x.count) before later f.2
