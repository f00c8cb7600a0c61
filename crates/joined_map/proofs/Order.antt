-- The high side comes after the low one.
use Rattle.std.proofs.Common.{◌≡◌, ℕ, ◌+◌, ◌-◌, ◌/◌, ◌<◌, max, ap, arith}
use Rattle.std.proofs.lemmas.Bool.Decides.{nat_tests}
use Rattle.port.specs.Memory.{State, floor_above}
use Rattle.joined_map.specs.Joint.{side, HighFollowsLow}

low_side : {X : Type 0} (end : ℕ) (f g : ℕ → X) (a : ℕ) → a < end → side end f g a ≡ f a
low_side end f g a h = grind (arith, nat_tests)

high_side : {X : Type 0} (end : ℕ) (f g : ℕ → X) (a : ℕ) → side end f g (end + a) ≡ g a
high_side end f g a = let back : end + a - end ≡ a = omega arith in grind (arith, nat_tests, back)

pub high_follows_low : (a b : State) → HighFollowsLow a b
high_follows_low a b = record {
  all = λ h k l m. grind (arith, nat_tests);
  none = λ h k l. grind (arith, nat_tests);
  low_word = λ w h. (low_side a.facts.words a.settled.word b.settled.word w h, low_side a.facts.words a.settled.readable b.settled.readable w h);
  high_word = λ w. (high_side a.facts.words a.settled.word b.settled.word w, high_side a.facts.words a.settled.readable b.settled.readable w);
  low_line = λ k h.
      let inside : k < a.facts.words / 8 = omega arith in
      (low_side (a.facts.words / 8) a.facts.cacheable b.facts.cacheable k inside, low_side (a.facts.words / 8) a.protected b.protected k inside);
  high_line = λ k. (high_side (a.facts.words / 8) a.facts.cacheable b.facts.cacheable k, high_side (a.facts.words / 8) a.protected b.protected k);
  floor_low = λ h. let most : max a.facts.floor b.facts.floor ≡ a.facts.floor = omega arith in ap floor_above most;
  floor_high = λ h. let most : max a.facts.floor b.facts.floor ≡ b.facts.floor = omega arith in ap floor_above most;
}
