-- What an answer says of a call that was accepted, and what the checks come to.
use Rattle.std.proofs.Common.{◌≡◌, ℕ, ◌/◌, ◌<◌, ◌≤◌, ◌⊎◌, Bool, true, false, cond, ltb, Ok, Err, Result, sym, refl, ap, ◌∙◌, subst, ap₂, inl, inr, arith}
use Rattle.std.proofs.lemmas.Bool.Decides.{nat_tests}
use Rattle.std.specs.Result.{result_and}
use Rattle.fault.specs.declared.Fault.{Fault}
use Rattle.port.specs.Memory.{Memory, Facts, seen}
use Rattle.port.specs.Meaning.{laned, told, past_end, bad_lanes, unreadable, ByAnswer}
use Rattle.port.specs.Laws.{RefusedInOrder, CountsStop, LanesReplaceBytes, StagesShowThePortBelow, EachCallCounts}

abbrev pub Answer : Type 0
Answer = Result (Unit {0}) Fault

pub as_ok : (A B : Type 0) (r : Answer) → r ≡ Ok tt → A → ByAnswer r A B
as_ok A B r e a = let F : Answer → Type 0 = λ x. ByAnswer x A B in subst F (sym e) a

pub in_ok : (A B : Type 0) (r : Answer) → r ≡ Ok tt → ByAnswer r A B → A
in_ok A B r e a = let F : Answer → Type 0 = λ x. ByAnswer x A B in subst F e a

-- ---- the order of the checks

abbrev passed : Answer
passed = Ok tt

-- an answer by a test
abbrev tested : Bool → Fault → Answer
tested b f = cond b passed (Err f)

in_test : (a n : ℕ) (e : Fault) → a < n → tested (ltb a n) e ≡ passed
in_test a n e h = grind (arith, nat_tests)

out_test : (a n : ℕ) (e : Fault) → n ≤ a → tested (ltb a n) e ≡ Err e
out_test a n e h = grind (arith, nat_tests)

no_lane : (n : ℕ) → (n ≡ 0) ⊎ (3 < n) → laned n ≡ false
no_lane n (inl e) = grind (arith, nat_tests)
no_lane n (inr h) = grind (arith, nat_tests)

some_lane : (n : ℕ) → 1 ≤ n → n ≤ 3 → laned n ≡ true
some_lane n h k = grind (arith, nat_tests)

tell : (f : Facts) (m : Memory) (a : ℕ) (b : Bool) → a < f.words → m.readable a ≡ b → told f m a ≡ cond b (Ok (m.word a)) (Err (unreadable a))
tell f m a b h e =
    ap (λ (r : Answer). result_and r (cond (m.readable a) (Ok (m.word a)) (Err (unreadable a)))) (in_test a f.words (past_end a f.floor) h)
    ∙ ap (λ (x : Bool). cond x (Ok (m.word a)) (Err (unreadable a))) e

pub refused_in_order : RefusedInOrder
refused_in_order = record {
  past = λ s w h. ap (λ (r : Answer). result_and r (tested (laned w.lanes) (bad_lanes w.word s.facts.floor))) (out_test w.word s.facts.words (past_end w.word s.facts.floor) h);
  lanes = λ s w h n. ap₂ (λ (r : Answer) (t : Bool). result_and r (tested t (bad_lanes w.word s.facts.floor))) (in_test w.word s.facts.words (past_end w.word s.facts.floor) h) (no_lane w.lanes n);
  taken = λ s w h k l. ap₂ (λ (r : Answer) (t : Bool). result_and r (tested t (bad_lanes w.word s.facts.floor))) (in_test w.word s.facts.words (past_end w.word s.facts.floor) h) (some_lane w.lanes k l);
  read_past = λ s a h. ap (λ (r : Answer). result_and r (cond ((seen s).readable a) (Ok ((seen s).word a)) (Err (unreadable a)))) (out_test a s.facts.words (past_end a s.facts.floor) h);
  unreadable = λ s a. tell s.facts (seen s) a false;
  read = λ s a. tell s.facts (seen s) a true;
  snoop_past = λ s a h. out_test a s.facts.words (past_end a s.facts.floor) h;
  snooped = λ s a h. in_test a s.facts.words (past_end a s.facts.floor) h;
  marks_past = λ s k h. ap (λ (r : Answer). result_and r (Ok (s.facts.cacheable k, s.protected k))) (out_test k (s.facts.words / 8) (past_end k s.facts.floor) (omega arith));
  marks = λ s k h. ap (λ (r : Answer). result_and r (Ok (s.facts.cacheable k, s.protected k))) (in_test k (s.facts.words / 8) (past_end k s.facts.floor) (omega arith));
  settled_past = λ s a h. ap (λ (r : Answer). result_and r (cond (s.settled.readable a) (Ok (s.settled.word a)) (Err (unreadable a)))) (out_test a s.facts.words (past_end a s.facts.floor) h);
  settled_unreadable = λ s a. tell s.facts s.settled a false;
  settled = λ s a. tell s.facts s.settled a true;
}

pub counts_stop : CountsStop
counts_stop = record { floor = λ n h. omega arith; top = λ n h. omega arith; waiting = λ s h. omega arith; many = λ s h. omega arith }

pub lanes_replace_bytes : LanesReplaceBytes
lanes_replace_bytes = record { low = λ h l g k a b. omega arith; high = λ h l g k a b. omega arith; both = λ h l g k a b. omega arith }

pub stages_show_the_port_below : StagesShowThePortBelow
stages_show_the_port_below = record { words = λ s. refl; floor = λ s h. omega arith; top = λ s h. omega arith; cacheable = λ s. refl; protected = λ s. refl; settled = λ s. refl; waiting = λ s. refl }

pub each_call_counts : EachCallCounts
each_call_counts = record {
  a_read = λ w r. (refl, refl);
  a_write = λ w. (refl, refl);
  a_refused_write = λ w fault. (refl, refl);
  an_advance = λ ds. (refl, refl);
  an_outside_write = λ w. (refl, refl);
  a_snoop = λ w. (refl, refl);
  a_flush = (refl, refl);
  a_write_of_any_answer = λ w r. (refl, refl);
  a_snoop_of_any_answer = λ w r. (refl, refl);
}
