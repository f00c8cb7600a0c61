-- Modes, answers and counts, as they are read off a run.
use Rattle.std.proofs.Common.{ap₂, ◌≡◌, ℕ, ◌≤◌, ltb, Bool, true, false, cond, List, [], ◌∷◌, ◌++◌, length, Some, None, Ok, Err, Option, Result, sym, refl, ap, ◌∙◌, subst, inl, inr, ◌⊎◌, arith}
use Rattle.std.proofs.lemmas.List.{length-map}
use Rattle.fault.specs.declared.Fault.{Fault}
use Rattle.fault.specs.declared.Refusal.{Refusal}
use Rattle.fault.specs.declared.Refusal.TheVariants.{PastEnd, BadLanes, Unreadable, Locked as IsLocked, Granted as IsGranted, NotLocked, NotGranted, UnfitSize, ListLength, ListWord}
use Rattle.fault.specs.Numbers.{number_of}
use Rattle.calls.specs.declared.call.Call.{Call}
use Rattle.calls.specs.declared.call.Call.TheVariants.{Read, Write as Post, Unposted, Advance, Lock, LockedRead, LockedWrite, Unlock, Ask, MasterRead, MasterWrite, Give, Snoop, Flush}
use Rattle.calls.specs.declared.call.Cargo.{Cargo}
use Rattle.calls.specs.declared.call.Cargo.TheVariants.{Nothing, Word as OfWord, Store as OfStore}
use Rattle.calls.specs.Calls.{cargo_of}
use Rattle.port.specs.declared.Port.{Ghosts}
use Rattle.port.specs.Memory.{Memory, State, floor_above, seen}
use Rattle.std.specs.Result.{result_and}
use Rattle.port.specs.declared.Store.{Store}
use Rattle.port.specs.Meaning.{past_end, bad_lanes, unreadable, laned, write_answer}
use Rattle.port.specs.Meaning.{told as told_of_port}
use Rattle.book.specs.declared.answer.Mode.{Mode}
use Rattle.book.specs.declared.answer.Mode.TheVariants.{Free, Locked, Granted}
use Rattle.book.specs.declared.answer.Answer.{Answer}
use Rattle.book.specs.declared.answer.Answer.TheVariants.{Done, Word}
use Rattle.book.specs.Tables.{Takers, every, unlocked, free, locked, granted, stopped, place_in, floor_for, fault_of, or_else, in_range, fits, stop, Asks, nothing, drain, advance, flush, read, peek, snoop, write, through, outside, deed, if_taken, goes_to, settles_by, Rule, none}
use Rattle.book.specs.Book.{Book, refused, waiting_line, step, Admits, Allowed, reading, told_of, says, unless, told, answer}
use Rattle.book.specs.Calling.{Makes, Reaches, cycle_answer}
use Rattle.book.specs.Runs.{Moment, moment, after, Follows, Ledger, joining_entries, leads_to, moved, mode_by}
use Rattle.book.specs.Promise.{in_mode, turned_away, told_at, AnsweredIn, AllIn, AsksThePort, TellsWord, TellsDone, AnswersAsThePort, EachCallAsksThePort, CycleKeepsTheMode, settles_at}
use Rattle.book.proofs.Records.{Tells, joined_is}
use Rattle.book.proofs.Locks.{Held}

-- REFUSALS

-- a reason that has nothing to do with the mode
abbrev Mild : Option Refusal → Type 0
Mild o = (x : Refusal) → o ≡ Some x → number_of x ≤ 3

mild_none : Mild None
mild_none x e = absurd (cc)

mild_range : (n w : ℕ) → Mild (in_range n w)
mild_range n w = by_test (ltb w n)
  where
    by_test : (t : Bool) → Mild (cond t None (Some PastEnd))
    by_test true x e = absurd (cc)
    by_test false x e = let same : PastEnd ≡ x = cc in subst (λ (y : Refusal). number_of y ≤ 3) same (omega arith)

mild_lanes : (t : Bool) → Mild (cond t None (Some BadLanes))
mild_lanes true x e = absurd (cc)
mild_lanes false x e = let same : BadLanes ≡ x = cc in subst (λ (y : Refusal). number_of y ≤ 3) same (omega arith)

mild_both : (o r : Option Refusal) → Mild o → Mild r → Mild (or_else o r)
mild_both None r h k = k
mild_both (Some x) r h k = h

mild_fits : (n : ℕ) (c : Cargo) → Mild (fits n c)
mild_fits n Nothing = mild_none
mild_fits n (OfWord w) = mild_range n w
mild_fits n (OfStore s) = mild_both (in_range n s.word) (cond (laned s.lanes) None (Some BadLanes)) (mild_range n s.word) (mild_lanes (laned s.lanes))

abbrev MildAnswer : Result Answer Refusal → Type 0
MildAnswer r = (x : Refusal) → r ≡ Err x → number_of x ≤ 3

mild_says : (s : State) (c : Call) → MildAnswer (says s c)
mild_says s c = by_asks (deed c).asks
  where
    by_word : (m : Memory) (w : ℕ) → MildAnswer (reading m w)
    by_word m w = by_test (m.readable w)
      where
        by_test : (t : Bool) → MildAnswer (cond t (Ok (Word (m.word w))) (Err Unreadable))
        by_test true x e = absurd (cc)
        by_test false x e = let same : Unreadable ≡ x = cc in subst (λ (y : Refusal). number_of y ≤ 3) same (omega arith)

    by_asks : (a : Asks) → MildAnswer (told_of s a)
    by_asks nothing x e = absurd (cc)
    by_asks drain x e = absurd (cc)
    by_asks advance x e = absurd (cc)
    by_asks flush x e = absurd (cc)
    by_asks (read w) x e = by_word (seen s) w x e
    by_asks (peek w) x e = by_word s.settled w x e
    by_asks (snoop w) x e = absurd (cc)
    by_asks (write y) x e = absurd (cc)
    by_asks (through y) x e = absurd (cc)
    by_asks (outside y) x e = absurd (cc)

mild_told : (floor : ℕ) (c : Call) (o : Option Refusal) (r : Result Answer Refusal) (fault : Fault) → Mild o → MildAnswer r → told floor c (unless o r) ≡ Err fault → number_of fault.refusal ≤ 3
mild_told floor c (Some x) r fault h k e = let same : x ≡ fault.refusal = cc in subst (λ (y : Refusal). number_of y ≤ 3) same (h x refl)
mild_told floor c None (Err x) fault h k e = let same : x ≡ fault.refusal = cc in subst (λ (y : Refusal). number_of y ≤ 3) same (k x refl)
mild_told floor c None (Ok a) fault h k e = absurd (cc)

-- THE PLAIN TABLES ARE THOSE OF THE DEEDS, a row for each call

abbrev Turns : (Mode → Option Refusal) → Takers → Type 0
Turns plain takers = (m : Mode) → plain m ≡ stopped takers m

every_turns : Turns (in_mode None None None) every
every_turns Free = refl
every_turns Locked = refl
every_turns Granted = refl

unlocked_turns : Turns (in_mode None (Some IsLocked) None) unlocked
unlocked_turns Free = refl
unlocked_turns Locked = refl
unlocked_turns Granted = refl

free_turns : Turns (in_mode None (Some IsLocked) (Some IsGranted)) free
free_turns Free = refl
free_turns Locked = refl
free_turns Granted = refl

locked_turns : Turns (in_mode (Some NotLocked) None (Some NotLocked)) locked
locked_turns Free = refl
locked_turns Locked = refl
locked_turns Granted = refl

granted_turns : Turns (in_mode (Some NotGranted) (Some NotGranted) None) granted
granted_turns Free = refl
granted_turns Locked = refl
granted_turns Granted = refl

record Plain (c : Call) : Type 0 where
  turned : Turns (turned_away c) (deed c).takers
  place : place_in (cargo_of c) ≡ told_at c
  settles : settles_at c ≡ settles_by c
  leads : (n : Mode) → goes_to n c ≡ leads_to n c
  -- what may be refused for its word leaves the mode alone
  ends : ((s : State) → says s c ≡ Ok Done) ⊎ ((n : Mode) → goes_to n c ≡ n)

plain : (c : Call) → Plain c
plain (Read w) = record { turned = unlocked_turns; place = refl; settles = refl; leads = λ n. refl; ends = inr (λ n. refl) }
plain (Post s) = record { turned = unlocked_turns; place = refl; settles = refl; leads = λ n. refl; ends = inl (λ t. refl) }
plain (Unposted s) = record { turned = unlocked_turns; place = refl; settles = refl; leads = λ n. refl; ends = inl (λ t. refl) }
plain Advance = record { turned = every_turns; place = refl; settles = refl; leads = λ n. refl; ends = inl (λ t. refl) }
plain Lock = record { turned = free_turns; place = refl; settles = refl; leads = λ n. refl; ends = inl (λ t. refl) }
plain (LockedRead w) = record { turned = locked_turns; place = refl; settles = refl; leads = λ n. refl; ends = inr (λ n. refl) }
plain (LockedWrite s) = record { turned = locked_turns; place = refl; settles = refl; leads = λ n. refl; ends = inl (λ t. refl) }
plain Unlock = record { turned = locked_turns; place = refl; settles = refl; leads = λ n. refl; ends = inl (λ t. refl) }
plain Ask = record { turned = free_turns; place = refl; settles = refl; leads = λ n. refl; ends = inl (λ t. refl) }
plain (MasterRead w) = record { turned = granted_turns; place = refl; settles = refl; leads = λ n. refl; ends = inr (λ n. refl) }
plain (MasterWrite s) = record { turned = granted_turns; place = refl; settles = refl; leads = λ n. refl; ends = inl (λ t. refl) }
plain Give = record { turned = granted_turns; place = refl; settles = refl; leads = λ n. refl; ends = inl (λ t. refl) }
plain (Snoop w) = record { turned = every_turns; place = refl; settles = refl; leads = λ n. refl; ends = inl (λ t. refl) }
plain Flush = record { turned = every_turns; place = refl; settles = refl; leads = λ n. refl; ends = inl (λ t. refl) }

-- whatever a mode turns down is told by the board
board_tells : (f : ℕ) (t : Takers) (m : Mode) (x : Refusal) → stopped t m ≡ Some x → floor_for f x ≡ floor_above f
board_tells f every m x e = absurd (cc)
board_tells f unlocked Free x e = absurd (cc)
board_tells f unlocked Locked x e = let same : IsLocked ≡ x = cc in ap (floor_for f) (sym same)
board_tells f unlocked Granted x e = absurd (cc)
board_tells f free Free x e = absurd (cc)
board_tells f free Locked x e = let same : IsLocked ≡ x = cc in ap (floor_for f) (sym same)
board_tells f free Granted x e = let same : IsGranted ≡ x = cc in ap (floor_for f) (sym same)
board_tells f locked Free x e = let same : NotLocked ≡ x = cc in ap (floor_for f) (sym same)
board_tells f locked Locked x e = absurd (cc)
board_tells f locked Granted x e = let same : NotLocked ≡ x = cc in ap (floor_for f) (sym same)
board_tells f granted Free x e = let same : NotGranted ≡ x = cc in ap (floor_for f) (sym same)
board_tells f granted Locked x e = let same : NotGranted ≡ x = cc in ap (floor_for f) (sym same)
board_tells f granted Granted x e = absurd (cc)

turned_is : (c : Call) (n : Mode) → turned_away c n ≡ stop n c
turned_is c n = (plain c).turned n

-- what a refusal says besides its reason
pub record Says (floor : ℕ) (c : Call) (fault : Fault) : Type 0 where
  pub place : fault.place ≡ place_in (cargo_of c)
  pub floor_is : fault.floor ≡ floor_for floor fault.refusal

says_of : (floor : ℕ) (c : Call) (r : Result Answer Refusal) (fault : Fault) → told floor c r ≡ Err fault → Says floor c fault
says_of floor c (Ok a) fault e = absurd (cc)
says_of floor c (Err x) fault e =
    let same : fault_of floor c x ≡ fault = cc in
    let F : Fault → Type 0 = λ y. Says floor c y in
    subst F same (record { place = refl; floor_is = refl })

-- the port tells what has a number up to 2, a bank what has 3
by_number : (f : ℕ) (x : Refusal) → (number_of x ≤ 2 → floor_for f x ≡ f) × (number_of x ≡ 3 → floor_for f x ≡ 0)
by_number f PastEnd = (λ h. refl, λ h. absurd (omega arith))
by_number f BadLanes = (λ h. refl, λ h. absurd (omega arith))
by_number f Unreadable = (λ h. absurd (omega arith), λ h. refl)
by_number f IsLocked = (λ h. absurd (omega arith), λ h. absurd (omega arith))
by_number f IsGranted = (λ h. absurd (omega arith), λ h. absurd (omega arith))
by_number f NotLocked = (λ h. absurd (omega arith), λ h. absurd (omega arith))
by_number f NotGranted = (λ h. absurd (omega arith), λ h. absurd (omega arith))
by_number f UnfitSize = (λ h. absurd (omega arith), λ h. absurd (omega arith))
by_number f ListLength = (λ h. absurd (omega arith), λ h. absurd (omega arith))
by_number f ListWord = (λ h. absurd (omega arith), λ h. absurd (omega arith))

pub answered : (b : Book) (m : Moment) → m.answer ≡ answer b m.call → AnsweredIn b.state.facts.floor b.mode m
answered b m e = record {
  turned = λ x t.
      e ∙ ap (λ (o : Option Refusal). told floor c (unless (or_else o (fits n (cargo_of c))) (says b.state c))) (sym (turned_is c b.mode) ∙ t)
      ∙ ap₂ (λ (p f : ℕ). Err (record { refusal = x; place = p; floor = f })) (plain c).place (board_tells floor (deed c).takers b.mode x (sym (turned_is c b.mode) ∙ t));
  served = λ fault t a.
      let none_stops : stop b.mode c ≡ None = sym (turned_is c b.mode) ∙ t in
      mild_told floor c (fits n (cargo_of c)) (says b.state c) fault (mild_fits n (cargo_of c)) (mild_says b.state c)
      (ap (λ (o : Option Refusal). told floor c (unless (or_else o (fits n (cargo_of c))) (says b.state c))) (sym none_stops) ∙ sym e ∙ a);
  place = λ fault t a. (said fault a).place ∙ (plain c).place;
  below = λ fault t a h. (said fault a).floor_is ∙ (by_number floor fault.refusal).0 h;
  unreadable = λ fault a h. (said fault a).floor_is ∙ (by_number floor fault.refusal).1 h;
}
  where
    c : Call
    c = m.call

    n : ℕ
    n = b.state.facts.words

    floor : ℕ
    floor = b.state.facts.floor

    said : (fault : Fault) → m.answer ≡ Err fault → Says floor c fault
    said fault a = says_of floor c (unless (refused b c) (says b.state c)) fault (sym e ∙ a)

pub facts_stay : (b : Book) (run : List Moment) → (after b run).state.facts ≡ b.state.facts
facts_stay b [] = refl
facts_stay b (x ∷ run) = facts_stay (step b x.call x.count) run

pub all_in : (b : Book) (run : List Moment) → Follows b run → Held b run → AllIn b.state.facts.floor Locked run
all_in b [] f h = tt
all_in b (x ∷ run) f h =
    let F : Mode → Type 0 = λ n. AnsweredIn b.state.facts.floor n x in
    (subst F h.0 (answered b x f.1), all_in (step b x.call x.count) run f.2 h.1)

-- MODES

moves : (n : Mode) (floor : ℕ) (s : State) (c : Call) (o : Option Refusal) → if_taken o (goes_to n c) n ≡ moved n c (told floor c (unless o (says s c)))
moves n floor s c (Some x) = refl
moves n floor s c None = by_answer (says s c) refl (plain c).ends
  where
    by_answer : (r : Result Answer Refusal) → says s c ≡ r → ((s : State) → says s c ≡ Ok Done) ⊎ ((n : Mode) → goes_to n c ≡ n) → goes_to n c ≡ moved n c (told floor c r)
    by_answer (Ok a) e k = (plain c).leads n
    by_answer (Err x) e (inl k) = let done = k s in absurd (cc)
    by_answer (Err x) e (inr k) = k n

pub modes_follow : (b : Book) (run : List Moment) → Follows b run → (after b run).mode ≡ mode_by b.mode run
modes_follow b [] f = refl
modes_follow b (x ∷ run) f =
    let one : (step b x.call x.count).mode ≡ moved b.mode x.call x.answer =
    moves b.mode b.state.facts.floor b.state x.call (refused b x.call) ∙ ap (λ (r : Result Answer Fault). moved b.mode x.call r) (sym f.1) in
    modes_follow (step b x.call x.count) run f.2 ∙ ap (λ (n : Mode). mode_by n run) one

-- HOW MANY SETTLE

taken_if_ok : (floor : ℕ) (c : Call) (o : Option Refusal) (r : Result Answer Refusal) (a : Answer) → told floor c (unless o r) ≡ Ok a → o ≡ None
taken_if_ok floor c None r a e = refl
taken_if_ok floor c (Some x) r a e = absurd (cc)

pub as_many : (m : Memory) (p : ℕ → Bool) (b : Book) (l : Ledger) (x : Moment) (a : Answer) → Tells m p b l → Allowed b x.call x.count → x.answer ≡ answer b x.call → x.answer ≡ Ok a
    → Admits (settles_at x.call) (length (l.waiting ++ joining_entries p x)) x.count
as_many m p b l x a h allowed e ok =
    let taken = taken_if_ok b.state.facts.floor x.call (refused b x.call) (says b.state x.call) a (sym e ∙ ok) in
    let size : length (l.waiting ++ joining_entries p x) ≡ length (waiting_line b x.call) =
    ap length (ap (λ (r : Result Answer Fault). l.waiting ++ joining_entries p (moment x.call r x.count)) e ∙ joined_is p b l x.call x.count h.waiting) ∙ length-map (waiting_line b x.call) _ in
    let rule : if_taken (refused b x.call) (settles_by x.call) none ≡ settles_at x.call =
    ap (λ (o : Option Refusal). if_taken o (settles_by x.call) none) taken ∙ sym (plain x.call).settles in
    let F : Rule → Type 0 = λ r. Admits r (length (waiting_line b x.call)) x.count in
    let N : ℕ → Type 0 = λ n. Admits (settles_at x.call) n x.count in
    subst N (sym size) (subst F rule allowed)

-- WHAT THE PORT IS ASKED

asked_is : {P : Type 0} (G : Ghosts P) (c : Call) (p q : P) → Makes G c p q → AsksThePort G c p q
asked_is G (Read w) p q h = h
asked_is G (Post s) p q h = h
asked_is G (Unposted s) p q h = h
asked_is G Advance p q h = h
asked_is G Lock p q h = h
asked_is G (LockedRead w) p q h = h
asked_is G (LockedWrite s) p q h = h
asked_is G Unlock p q h = h
asked_is G Ask p q h = h
asked_is G (MasterRead w) p q h = h
asked_is G (MasterWrite s) p q h = h
asked_is G Give p q h = h
asked_is G (Snoop w) p q h = h
asked_is G Flush p q h = h

-- what is told of a word, by its two tests: is it there, and can it be read
word_told : (there legible : Bool) (v floor : ℕ) (c : Call) (past torn : Fault) → fault_of floor c PastEnd ≡ past → fault_of floor c Unreadable ≡ torn
    → TellsWord (result_and {T = Unit {0}} (cond there (Ok tt) (Err past)) (cond legible (Ok v) (Err torn))) (told floor c (unless (cond there None (Some PastEnd)) (cond legible (Ok (Word v)) (Err Unreadable))))
word_told true true v floor c past torn p t = record { word = λ x e. let same : v ≡ x = cc in ap (λ (y : ℕ). Ok (Word y)) same; refused = λ fault e. absurd (cc) }
word_told true false v floor c past torn p t = record { word = λ x e. absurd (cc); refused = λ fault e. let same : torn ≡ fault = cc in ap Err (t ∙ same) }
word_told false legible v floor c past torn p t = record { word = λ x e. absurd (cc); refused = λ fault e. let same : past ≡ fault = cc in ap Err (p ∙ same) }

-- and what becomes of a write, by its range and its lanes
done_told : (there fit : Bool) (floor : ℕ) (c : Call) (past lanes : Fault) → fault_of floor c PastEnd ≡ past → fault_of floor c BadLanes ≡ lanes
    → TellsDone (result_and {T = Unit {0}} (cond there (Ok tt) (Err past)) (cond fit (Ok tt) (Err lanes))) (told floor c (unless (or_else (cond there None (Some PastEnd)) (cond fit None (Some BadLanes))) (Ok Done)))
done_told true true floor c past lanes p l = record { accepted = λ e. refl; refused = λ fault e. absurd (cc) }
done_told true false floor c past lanes p l = record { accepted = λ e. absurd (cc); refused = λ fault e. let same : lanes ≡ fault = cc in ap Err (l ∙ same) }
done_told false fit floor c past lanes p l = record { accepted = λ e. absurd (cc); refused = λ fault e. let same : past ≡ fault = cc in ap Err (p ∙ same) }

snoop_told : (there : Bool) (w floor : ℕ) → TellsDone (cond there (Ok tt) (Err (past_end w floor))) (told floor (Snoop w) (unless (cond there None (Some PastEnd)) (Ok Done)))
snoop_told true w floor = record { accepted = λ e. refl; refused = λ fault e. absurd (cc) }
snoop_told false w floor = record { accepted = λ e. absurd (cc); refused = λ fault e. let same : past_end w floor ≡ fault = cc in ap Err same }

module _ (s : State) where
  by_word : (c : Call) (m : Memory) (w : ℕ) → place_in (cargo_of c) ≡ w
      → TellsWord (told_of_port s.facts m w) (told s.facts.floor c (unless (in_range s.facts.words w) (reading m w)))
  by_word c m w e =
      word_told (ltb w s.facts.words) (m.readable w) (m.word w) s.facts.floor c (past_end w s.facts.floor) (unreadable w)
      (ap (λ (p : ℕ). past_end p s.facts.floor) e) (ap unreadable e)

  by_store : (c : Call) (x : Store) → place_in (cargo_of c) ≡ x.word
      → TellsDone (write_answer s x) (told s.facts.floor c (unless (or_else (in_range s.facts.words x.word) (cond (laned x.lanes) None (Some BadLanes))) (Ok Done)))
  by_store c x e =
      done_told (ltb x.word s.facts.words) (laned x.lanes) s.facts.floor c (past_end x.word s.facts.floor) (bad_lanes x.word s.facts.floor)
      (ap (λ (p : ℕ). past_end p s.facts.floor) e) (ap (λ (p : ℕ). bad_lanes p s.facts.floor) e)

  answers_as : (c : Call) → AnswersAsThePort s c (told s.facts.floor c (unless (fits s.facts.words (cargo_of c)) (says s c)))
  answers_as (Read w) = by_word (Read w) (seen s) w refl
  answers_as (Post x) = by_store (Post x) x refl
  answers_as (Unposted x) = by_store (Unposted x) x refl
  answers_as Advance = refl
  answers_as Lock = refl
  answers_as (LockedRead w) = by_word (LockedRead w) s.settled w refl
  answers_as (LockedWrite x) = by_store (LockedWrite x) x refl
  answers_as Unlock = refl
  answers_as Ask = refl
  answers_as (MasterRead w) = by_word (MasterRead w) s.settled w refl
  answers_as (MasterWrite x) = by_store (MasterWrite x) x refl
  answers_as Give = refl
  answers_as (Snoop w) = snoop_told (ltb w s.facts.words) w s.facts.floor
  answers_as Flush = refl

pub each_call_asks_the_port : {P : Type 0} (G : Ghosts P) → EachCallAsksThePort G
each_call_asks_the_port G = record {
  taken = λ m n p q c r h t.
      let F : Option Refusal → Type 0 = λ o. Reaches o (Makes G c p q) (q ≡ p) in
      asked_is G c p q (subst F (sym (turned_is c m) ∙ t) h.made);
  answered = λ m n p q c r h t.
      let s = G.state p in
      let by_port : r ≡ told s.facts.floor c (unless (fits s.facts.words (cargo_of c)) (says s c)) =
      h.answered ∙ ap (λ (o : Option Refusal). told s.facts.floor c (unless (or_else o (fits s.facts.words (cargo_of c))) (says s c))) (sym (turned_is c m) ∙ t) in
      subst (AnswersAsThePort s c) (sym by_port) (answers_as s c);
  turned = λ m n p q c r x h t.
      let F : Option Refusal → Type 0 = λ o. Reaches o (Makes G c p q) (q ≡ p) in
      subst F (sym (turned_is c m) ∙ t) h.made;
}

pub cycle_keeps_the_mode : (m : Mode) (c : Call) (floor : ℕ) (r told : Result ℕ Fault) → told ≡ cycle_answer (stop m c) floor c r → CycleKeepsTheMode m c floor r told
cycle_keeps_the_mode m c floor r told e = record {
  taken = λ t. e ∙ ap (λ (o : Option Refusal). cycle_answer o floor c r) (sym (turned_is c m) ∙ t);
  turned = λ x t. e
      ∙ ap (λ (o : Option Refusal). cycle_answer o floor c r) (sym (turned_is c m) ∙ t)
      ∙ ap₂ (λ (p f : ℕ). Err (record { refusal = x; place = p; floor = f })) (plain c).place (board_tells floor (deed c).takers m x (sym (turned_is c m) ∙ t));
}
