-- What a call on one side does to a map of two.
use Rattle.std.proofs.Common.{◌≡◌, ℕ, refl, ◌-◌, ◌/◌, ◌%◌, ◌<◌, ◌≤◌, [], ◌∷◌, Ok, Err, Result, ap, sym, ◌∙◌, arith}
use Rattle.std.proofs.lemmas.Bool.Decides.{nat_tests}
use Rattle.fault.specs.declared.Fault.{Fault}
use Rattle.port.specs.declared.Store.{Store}
use Rattle.port.specs.Memory.{State, WholeLines, outside, posted, drained}
use Rattle.port.specs.Meaning.{Settles, ByAnswer}
use Rattle.port.proofs.Settling.{settles_still, accepted_at_once, through_at_once}
use Rattle.joined_map.specs.Joint.{joint_state, Still, shifted, lowered}

-- where nothing waits, nothing waits once some have settled
pub none_left : (s t : State) → s.waiting ≡ [] → Settles s t → t.waiting ≡ []
none_left s t none after = ap (λ (x : State). x.waiting) (settles_still s t none after) ∙ none

-- and its facts are as they were
pub facts_left : (s t : State) → s.waiting ≡ [] → Settles s t → s.facts ≡ t.facts
facts_left s t none after = sym (ap (λ (x : State). x.facts) (settles_still s t none after))

module _ (a b : State) (lined : a.facts.words % 8 ≡ 0) where
  outside_low : (w : Store) → w.word < a.facts.words → joint_state (outside w a) b ≡ outside w (joint_state a b)
  outside_low w h = λ i. record {
    facts = (joint_state a b).facts;
    protected = (joint_state a b).protected;
    settled = record { word = λ x. at x i; readable = (joint_state a b).settled.readable };
    waiting = [];
  }
    where
      at : (x : ℕ) → (joint_state (outside w a) b).settled.word x ≡ (outside w (joint_state a b)).settled.word x
      at x = grind (arith, nat_tests)

  outside_high : (w : Store) → a.facts.words ≤ w.word → joint_state a (outside (lowered a.facts.words w) b) ≡ outside w (joint_state a b)
  outside_high w h = λ i. record {
    facts = (joint_state a b).facts;
    protected = (joint_state a b).protected;
    settled = record { word = λ x. at x i; readable = (joint_state a b).settled.readable };
    waiting = [];
  }
    where
      at : (x : ℕ) → (joint_state a (outside (lowered a.facts.words w) b)).settled.word x ≡ (outside w (joint_state a b)).settled.word x
      at x =
          let e : a.facts.words ≤ x → (x - a.facts.words) / 8 ≡ x / 8 - a.facts.words / 8 = λ q. omega arith in
          grind (arith, nat_tests)

-- A write that its side has taken, where the low side has n words.
module _ (a b : State) (w : Store) (n : ℕ) (is : n ≡ a.facts.words) (sized : WholeLines a.facts.words) where
  is_lined : a.facts.words % 8 ≡ 0
  is_lined = sized.lined

  pub low_outside : (a' : State) → w.word < n → a' ≡ outside w a → joint_state a' b ≡ outside w (joint_state a b)
  low_outside a' low after = ap (λ x. joint_state x b) after ∙ outside_low a b is_lined w (omega arith)

  pub high_outside : (b' : State) (there : ℕ) (q : Result (Unit {0}) Fault) (P : Type 0) → n ≤ w.word → ByAnswer q (b' ≡ outside (record w { word = there }) b) P → there ≡ w.word - n → Ok tt ≡ shifted n q → joint_state a b' ≡ outside w (joint_state a b)
  high_outside b' there (Ok _) P high after same e =
      let now : b' ≡ outside (lowered a.facts.words w) b = cc in
      ap (joint_state a) now ∙ outside_high a b is_lined w (omega arith)
  high_outside b' there (Err f) P high after same e = absurd (cc)

  pub low_write : (a' : State) → Still a b → w.word < n → a' ≡ drained (posted (w ∷ []) a) → Settles (posted (w ∷ []) (joint_state a b)) (joint_state a' b)
  low_write a' still low after =
      accepted_at_once (Unit {0}) (Ok tt) (joint_state a b) (joint_state a' b) w refl (low_outside a' low (through_at_once (Unit {0}) (Ok tt) a a' w still.low after))

  pub high_write : (b' : State) (there : ℕ) (q : Result (Unit {0}) Fault) (P : Type 0) → Still a b → n ≤ w.word → ByAnswer q (b' ≡ drained (posted (record w { word = there } ∷ []) b)) P → there ≡ w.word - n → Ok tt ≡ shifted n q → Settles (posted (w ∷ []) (joint_state a b)) (joint_state a b')
  high_write b' there q P still high after same e =
      accepted_at_once (Unit {0}) (Ok tt) (joint_state a b) (joint_state a b') w refl
      (high_outside b' there q P high (through_at_once P q b b' (record w { word = there }) still.high after) same e)
