-- A run of a board keeps the promise.
use Rattle.std.proofs.Common.{◌≡◌, ℕ, ◌+◌, ◌<◌, ◌≤◌, Bool, true, false, cond, ◌⊎◌, List, [], ◌∷◌, ◌++◌, length, get_or, take, Some, None, Ok, Err, Option, Result, sym, refl, ap, ◌∙◌, subst, ap₂, subst₂, inl, inr, arith, take_all}
use Rattle.std.proofs.lemmas.List.{take_more, map-append}
use Rattle.fault.specs.declared.Fault.{Fault}
use Rattle.fault.specs.declared.Refusal.{Refusal}
use Rattle.fault.specs.declared.Refusal.TheVariants.{Unreadable}
use Rattle.calls.specs.declared.call.Call.{Call}
use Rattle.calls.specs.declared.call.Call.TheVariants.{Read, LockedRead, MasterRead}
use Rattle.port.specs.declared.Store.{Store}
use Rattle.port.specs.Lanes.{Lane, byte}
use Rattle.port.specs.declared.Port.{Ghosts}
use Rattle.port.specs.Memory.{Memory, Facts, State, seen, applied, posted, drained}
use Rattle.port.specs.Steps.{Drains}
use Rattle.book.specs.declared.answer.Mode.{Mode}
use Rattle.book.specs.declared.answer.Mode.TheVariants.{Free, Locked}
use Rattle.book.specs.declared.answer.Answer.{Answer}
use Rattle.book.specs.declared.answer.Answer.TheVariants.{Done, Word}
use Rattle.book.specs.Tables.{if_locked, in_range, if_taken, posts, masters_writes, goes_to, settles_by, Rule, none, some, one_or_more, all}
use Rattle.book.specs.Book.{Book, book_of, first, refused, joins, masters, mastered, waiting_line, settle, step, rule, Admits, Allowed, says, unless, told, answer}
use Rattle.book.specs.Calling.{Called}
use Rattle.book.specs.Runs.{Moment, moment, calls_of, answers_of, after, Follows, Entry, ledger, no_entries, locked_writes}
use Rattle.book.specs.Promise.{Comes, ReadsAreNewest, MastersReadsAreSettled, AnsweredIn, AllIn, AnswersKeepTheModes, AsManySettleAsSaid, OnlyTheHolderWrites, ALockHolds, CallsMade, none_made, one_more, NeverAnOldDigit, BothKeep, ThePromiseIsNotEmpty}
use Rattle.book.proofs.Counts.{settle_none}
use Rattle.book.proofs.Bytes.{comes, one_source}
use Rattle.book.proofs.Records.{Tells, tells_run, once, many, front, back}
use Rattle.book.proofs.Locks.{Calm, calm_step, calm_run, locked_run, now_locked, held}
use Rattle.book.proofs.Modes.{answered, facts_stay, all_in, modes_follow, as_many}
use Rattle.book.proofs.Sameness.{both_none, is_locked, heard_alike, like_first}

-- CALLS MADE FOLLOW THE BOOK

after-append : (b : Book) (xs ys : List Moment) → after b (xs ++ ys) ≡ after (after b xs) ys
after-append b [] ys = refl
after-append b (x ∷ xs) ys = after-append (step b x.call x.count) xs ys

follows-append : (b : Book) (xs ys : List Moment) → Follows b xs → Follows (after b xs) ys → Follows b (xs ++ ys)
follows-append b [] ys f g = g
follows-append b (x ∷ xs) ys f g = (f.0, f.1, follows-append (step b x.call x.count) xs ys f.2 g)

pub record Led (b : Book) (run : List Moment) (d : Book) : Type 0 where
  pub follows : Follows b run
  pub left : d ≡ after b run

led : {P : Type 0} (G : Ghosts P) (m : Mode) (p : P) (run : List Moment) (n : Mode) (q : P) → CallsMade G m p run n q → Led (book_of m (G.state p)) run (book_of n (G.state q))
led G m p _ _ _ none_made = record { follows = tt; left = refl }
led G m p _ _ _ (one_more {n = n} {o = o} {q = q} {u = u} {c = c} {r = r} {ms = ms} t h) =
    let before = led G m p ms n q t in
    let one : Follows (book_of n (G.state q)) (moment c r h.count ∷ []) = (h.allowed, h.answered, tt) in
    record {
      follows = follows-append (book_of m (G.state p)) ms (moment c r h.count ∷ []) before.follows (subst (λ (x : Book). Follows x (moment c r h.count ∷ [])) before.left one);
      left = h.left ∙ ap (λ (x : Book). step x c h.count) before.left ∙ sym (after-append (book_of m (G.state p)) ms (moment c r h.count ∷ []));
    }

-- EACH BYTE THAT IS READ HAS ITS NEWEST SOURCE

said : (floor : ℕ) (c : Call) (o : Option Refusal) (b : Bool) (x v : ℕ) → told floor c (unless o (cond b (Ok (Word x)) (Err Unreadable))) ≡ Ok (Word v) → (o ≡ None) × (x ≡ v)
said floor c None true x v e = (refl, cc)
said floor c None false x v e = let z : ◌≡◌ {A = ℕ} 0 1 = cc in absurd (omega arith)
said floor c (Some r) b x v e = let z : ◌≡◌ {A = ℕ} 0 1 = cc in absurd (omega arith)

-- What a processor's read or a locked read answers is what is seen.
answer_seen : (b : Book) (c : Call) (a v : ℕ) → Calm b → (c ≡ Read a) ⊎ (c ≡ LockedRead a) → answer b c ≡ Ok (Word v) → (seen b.state).word a ≡ v
answer_seen b c a v calm (inl e) h =
    (said b.state.facts.floor (Read a) (refused b (Read a)) ((seen b.state).readable a) ((seen b.state).word a) v (ap (answer b) (sym e) ∙ h)).1
answer_seen b c a v calm (inr e) h =
    let s = said b.state.facts.floor (LockedRead a) (refused b (LockedRead a)) (b.state.settled.readable a) (b.state.settled.word a) v (ap (answer b) (sym e) ∙ h) in
    let locked : b.mode ≡ Locked = is_locked b.mode (both_none (if_locked b.mode) (in_range b.state.facts.words a) s.0).0 in
    ap (λ (ws : List Store). (applied b.state.protected ws b.state.settled).word a) (calm locked) ∙ s.1

calm_first : (s : State) → Calm (first s)
calm_first s e = refl

tells_first : (s : State) → Tells (seen s) s.protected (first s) no_entries
tells_first s = record { marks = refl; waiting = refl; writes = []; settled = refl; memory = refl }

seen_comes : (s : State) (run : List Moment) (a v : ℕ) (lane : Lane) → Follows (first s) run → (seen (after (first s) run).state).word a ≡ v
    → Comes lane a (ledger s.protected no_entries run).waiting (ledger s.protected no_entries run).settled ((seen s).word a) (byte lane v)
seen_comes s run a v lane f e =
    let p = s.protected in
    let d = after (first s) run in
    let t = tells_run (seen s) p (first s) no_entries run f (tells_first s) in
    let word : (applied p d.state.waiting (applied p t.writes (seen s))).word a ≡ v =
    ap₂ (λ (x : ℕ → Bool) (m : Memory). (applied x d.state.waiting m).word a) (sym t.marks) (sym t.memory) ∙ e in
    subst (λ (x : ℕ). Comes lane a (ledger p no_entries run).waiting (ledger p no_entries run).settled ((seen s).word a) (byte lane x)) word
    (subst₂ (λ (xs ys : List Entry). Comes lane a xs ys ((seen s).word a) (byte lane ((applied p d.state.waiting (applied p t.writes (seen s))).word a)))
    (sym t.waiting) (sym t.settled) (comes p lane a d.state.waiting t.writes (seen s)))

reads_are_newest : (s : State) (run : List Moment) → Follows (first s) run → ReadsAreNewest s run
reads_are_newest s run f before later m a v lane split which e =
    let g = subst (Follows (first s)) split f in
    let early = front (first s) before (m ∷ later) g in
    let here = back (first s) before (m ∷ later) g in
    seen_comes s before a v lane early
    (answer_seen (after (first s) before) m.call a v (calm_run (first s) before early (calm_first s)) which (sym here.1 ∙ e))

-- UNDER A LOCK

a_lock_holds : (s : State) (run : List Moment) → Follows (first s) run → ALockHolds s run
a_lock_holds s run f before under later m split is locks unlocked =
    let g = subst (Follows (first s)) split f in
    let early = front (first s) before (m ∷ (under ++ later)) g in
    let here = back (first s) before (m ∷ (under ++ later)) g in
    let a = after (first s) before in
    let b = step a m.call m.count in
    let at : after (first s) (before ++ (m ∷ [])) ≡ b = after-append (first s) before (m ∷ []) in
    let begun = follows-append (first s) before (m ∷ []) early (here.0, here.1, tt) in
    let rest = front b under later here.2 in
    let calm = calm_step a m.call m.count here.0 (calm_run (first s) before early (calm_first s)) in
    let locked : b.mode ≡ Locked =
    ap (λ (c : Call). (step a c m.count).mode) is ∙ now_locked a m.count (ap (answer a) (sym is) ∙ sym here.1 ∙ locks) in
    let hold = held b under locked rest unlocked in
    let out = locked_run b under (calm locked) rest hold in
    let marks = (tells_run (seen s) s.protected (first s) no_entries (before ++ (m ∷ [])) begun (tells_first s)).marks in
    let F : Book → Type 0 = λ x. OnlyTheHolderWrites s under x (after x under) in (
      subst (λ (f : Facts). AllIn f.floor Locked under) (facts_stay (first s) before) (all_in b under rest hold),
      subst F (sym at) (record {
        settled = out.0 ∙ ap (λ (p : ℕ → Bool). applied p (locked_writes under) b.state.settled) (ap (λ (x : Book). x.state.protected) (sym at) ∙ marks);
        waiting = out.1;
      }),
    )

-- THE OTHER RULES OF THE BOARD, read off the run

masters_reads : (s : State) (run : List Moment) → Follows (first s) run → MastersReadsAreSettled s run
masters_reads s run f before later m a v lane split is e =
    let p = s.protected in
    let g = subst (Follows (first s)) split f in
    let early = front (first s) before (m ∷ later) g in
    let here = back (first s) before (m ∷ later) g in
    let d = after (first s) before in
    let t = tells_run (seen s) p (first s) no_entries before early (tells_first s) in
    let word = (said d.state.facts.floor (MasterRead a) (refused d (MasterRead a)) (d.state.settled.readable a) (d.state.settled.word a) v (ap (answer d) (sym is) ∙ sym here.1 ∙ e)).1 in
    let same : (applied p [] (applied p t.writes (seen s))).word a ≡ v = ap (λ (x : Memory). x.word a) (sym t.memory) ∙ word in
    subst (λ (x : ℕ). Comes lane a [] (ledger p no_entries before).settled ((seen s).word a) (byte lane x)) same
    (subst (λ (ys : List Entry). Comes lane a [] ys ((seen s).word a) (byte lane ((applied p [] (applied p t.writes (seen s))).word a))) (sym t.settled)
    (comes p lane a [] t.writes (seen s)))

keeps_the_modes : (s : State) (run : List Moment) → Follows (first s) run → AnswersKeepTheModes s run
keeps_the_modes s run f before later m split =
    let g = subst (Follows (first s)) split f in
    let here = back (first s) before (m ∷ later) g in
    subst₂ (λ (f : Facts) (n : Mode). AnsweredIn f.floor n m) (facts_stay (first s) before) (modes_follow (first s) before (front (first s) before (m ∷ later) g))
    (answered (after (first s) before) m here.1)

as_many_settle : (s : State) (run : List Moment) → Follows (first s) run → AsManySettleAsSaid s run
as_many_settle s run f before later m a split ok =
    let g = subst (Follows (first s)) split f in
    let here = back (first s) before (m ∷ later) g in
    let t = tells_run (seen s) s.protected (first s) no_entries before (front (first s) before (m ∷ later) g) (tells_first s) in
    as_many (seen s) s.protected (after (first s) before) (ledger s.protected no_entries before) m a t here.0 here.1 ok

-- THE PROMISE

pub keeps : {P : Type 0} (G : Ghosts P) (p made : P) (run : List Moment) (m : Mode) (q : P)
    → Drains G.state G.does p made → G.state made ≡ drained (G.state p) → CallsMade G Free made run m q
    → NeverAnOldDigit G p (calls_of run) (answers_of run) m q
keeps G p made run m q d e c =
    let s = G.state p in
    let f : Led (first s) run (book_of m (G.state q)) = subst (λ (x : State). Led (book_of Free x) run (book_of m (G.state q))) e (led G Free made run m q c) in
    record {
      made = made;
      drains = d;
      begins = e;
      run = run;
      calls = refl;
      answers = refl;
      calls_made = c;
      follows_the_book = f.follows;
      ends_as_the_book = f.left;
      reads_are_newest = reads_are_newest s run f.follows;
      alike_starts_answer_alike = λ other ms alike quiet same h. heard_alike (first s) (first other) run ms (like_first s other alike) f.follows h same quiet;
      masters_reads_are_settled = masters_reads s run f.follows;
      answers_keep_the_modes = keeps_the_modes s run f.follows;
      left_in_the_mode = ap (λ (b : Book). b.mode) f.left ∙ modes_follow (first s) run f.follows;
      as_many_settle_as_said = as_many_settle s run f.follows;
      a_lock_holds = a_lock_holds s run f.follows;
      each_write_settles_once = record {
        once = once s.protected no_entries run refl;
        many = let h = many (seen s) s.protected (first s) no_entries run f.follows (tells_first s) in omega (arith, h);
      };
    }

-- A loop over calls: its start, one turn of it, and its end.
pub record Made {P : Type 0} (G : Ghosts P) (m : Mode) (p : P) (cs : List Call) (rs : List (Result Answer Fault)) (n : Mode) (q : P) : Type 0 where
  pub run : List Moment
  pub calls : calls_of run ≡ cs
  pub answers : answers_of run ≡ rs
  pub made : CallsMade G m p run n q

pub made_none : {P : Type 0} (G : Ghosts P) (m : Mode) (p : P) (rs : List (Result Answer Fault)) → rs ≡ [] → Made G m p [] rs m p
made_none G m p rs e = record { run = []; calls = refl; answers = sym e; made = none_made }

pub made_turn : {P : Type 0} (G : Ghosts P) (m : Mode) (p : P) (cs : List Call) (i : ℕ) (d : Call) (rs rs' : List (Result Answer Fault)) (r : Result Answer Fault) (n : Mode) (q : P) (o : Mode) (u : P)
    → i < length cs → rs' ≡ rs ++ (r ∷ []) → Made G m p (take i cs) rs n q → Called G n q (get_or cs i d) r o u
    → Made G m p (take (i + 1) cs) rs' o u
made_turn G m p cs i d rs rs' r n q o u lt e t h =
    let one = moment (get_or cs i d) r h.count ∷ [] in
    record {
      run = t.run ++ one;
      calls = map-append (λ x. x.call) t.run one ∙ ap (λ (xs : List Call). xs ++ (get_or cs i d ∷ [])) t.calls ∙ sym (take_more cs i d lt);
      answers = map-append (λ x. x.answer) t.run one ∙ ap (λ (xs : List (Result Answer Fault)). xs ++ (r ∷ [])) t.answers ∙ sym e;
      made = one_more t.made h;
    }

pub keeps_all : {P : Type 0} (G : Ghosts P) (p made : P) (cs : List Call) (rs : List (Result Answer Fault)) (i : ℕ) (n m : Mode) (q : P)
    → Drains G.state G.does p made → G.state made ≡ drained (G.state p) → n ≡ Free → length cs ≤ i → Made G n made (take i cs) rs m q
    → NeverAnOldDigit G p cs rs m q
keeps_all G p made cs rs i n m q d e f h t =
    subst₂ (λ (xs : List Call) (ys : List (Result Answer Fault)). NeverAnOldDigit G p xs ys m q) (t.calls ∙ take_all i cs h) t.answers
    (keeps G p made t.run m q d e (subst (λ (x : Mode). CallsMade G x made t.run m q) f t.made))

pub both_keep : {P Q : Type 0} (G : Ghosts P) (H : Ghosts Q) (p : P) (q : Q) (cs : List Call) (rs qs : List (Result Answer Fault)) (m n : Mode) (u : P) (v : Q)
    → NeverAnOldDigit G p cs rs m u → NeverAnOldDigit H q cs qs n v → BothKeep G H p q cs rs qs m n u v
both_keep G H p q cs rs qs m n u v h k = record {
  one = h;
  other = k;
  alike = λ alike quiet. h.alike_starts_answer_alike (H.state q) k.run alike quiet (k.calls ∙ sym h.calls) k.follows_the_book;
}

-- THE BOOK IS SOUND

some_count : (r : Rule) (n : ℕ) → (k : ℕ) × Admits r n k
some_count none n = (0, refl)
some_count some n = (0, omega arith)
some_count one_or_more n = (n, (omega arith, λ h. h))
some_count all n = (n, refl)

some_run : (b : Book) (cs : List Call) → (ms : List Moment) × (calls_of ms ≡ cs) × Follows b ms
some_run b [] = ([], refl, tt)
some_run b (c ∷ cs) =
    let k = some_count (rule b c) (length (waiting_line b c)) in
    let r = some_run (step b c k.0) cs in
    (moment c (answer b c) k.0 ∷ r.0, ap {B = List Call} (λ xs. c ∷ xs) r.1, (k.1, refl, r.2))

-- A call at which no mode changes, no write joins or settles.
idle : (b : Book) (c : Call) (k : ℕ) (o : Option Refusal) → refused b c ≡ o → if_taken o (goes_to b.mode c) b.mode ≡ b.mode
    → if_taken o (posts c) [] ≡ [] → if_taken o (masters_writes c) [] ≡ [] → if_taken o (settles_by c) none ≡ none → Allowed b c k → step b c k ≡ b
idle b c k o e g p w r h =
    let s = b.state in
    let zero-settle : k ≡ 0 = subst (λ (x : Rule). Admits x (length (waiting_line b c)) k) (ap (λ (x : Option Refusal). if_taken x (settles_by c) none) e ∙ r) h in
    ap (λ (x : Mode). book_of x (settle k (posted (joins b c) (mastered (masters b c) s)))) (ap (λ (x : Option Refusal). if_taken x (goes_to b.mode c) b.mode) e ∙ g)
    ∙ ap (λ (x : List Store). book_of b.mode (settle k (posted x (mastered (masters b c) s)))) (ap (λ (x : Option Refusal). if_taken x (posts c) []) e ∙ p)
    ∙ ap (λ (x : List Store). book_of b.mode (settle k (posted [] (mastered x s)))) (ap (λ (x : Option Refusal). if_taken x (masters_writes c) []) e ∙ w)
    ∙ ap (λ (x : ℕ). book_of b.mode (settle x (posted [] s))) zero-settle
    ∙ ap (book_of b.mode) (settle_none s)

abbrev Unchanged : Book → Call → ℕ → Fault → Type 0
Unchanged b c k fault = (step b c k ≡ b) ⊎ ((fault.refusal ≡ Unreadable) × ((a : ℕ) × (c ≡ Read a)))

never : (b : Book) (c : Call) (k : ℕ) (fault : Fault) → Ok Done ≡ Err fault → Unchanged b c k fault
never b c k fault e = let z : ◌≡◌ {A = ℕ} 0 1 = cc in absurd (omega arith)

unreadable_only : (floor w v : ℕ) (t : Bool) (fault : Fault) → told floor (Read w) (cond t (Ok (Word v)) (Err Unreadable)) ≡ Err fault → fault.refusal ≡ Unreadable
unreadable_only floor w v true fault e = let z : ◌≡◌ {A = ℕ} 0 1 = cc in absurd (omega arith)
unreadable_only floor w v false fault e = cc

taken_refused : (b : Book) (c : Call) (k : ℕ) (fault : Fault) → refused b c ≡ None → Allowed b c k → told b.state.facts.floor c (says b.state c) ≡ Err fault → Unchanged b c k fault
taken_refused b (Read w) k fault o h e = inr (unreadable_only b.state.facts.floor w ((seen b.state).word w) ((seen b.state).readable w) fault e, (w, refl))
taken_refused b (LockedRead w) k fault o h e = inl (idle b (LockedRead w) k None o refl refl refl refl h)
taken_refused b (MasterRead w) k fault o h e = inl (idle b (MasterRead w) k None o refl refl refl refl h)
taken_refused b c k fault o h e = never b c k fault e

refusals_change_nothing : (b : Book) (c : Call) (k : ℕ) (fault : Fault) → Allowed b c k → answer b c ≡ Err fault → Unchanged b c k fault
refusals_change_nothing b c k fault h e = go (refused b c) refl
  where
    go : (o : Option Refusal) → refused b c ≡ o → Unchanged b c k fault
    go None f = taken_refused b c k fault f h (ap (λ (x : Option Refusal). told b.state.facts.floor c (unless x (says b.state c))) (sym f) ∙ e)
    go (Some x) f = inl (idle b c k (Some x) f refl refl refl refl h)

pub the_promise_is_not_empty : ThePromiseIsNotEmpty
the_promise_is_not_empty = record { one_source = one_source; some_run = some_run; refusals_change_nothing = refusals_change_nothing }
