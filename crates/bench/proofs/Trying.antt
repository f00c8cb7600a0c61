-- The bench cards, computed.
use Rattle.std.proofs.Common.{refl}
use lib.Count.{ones, ones_in}
use Rattle.bench.specs.Cards.{TheBenchCardsHold}

pub the_bench_cards_hold : TheBenchCardsHold
unfolding ones ones_in
the_bench_cards_hold = record {
  word_20003 = refl;
  ways_are_named = λ content. refl;
  ways_are_taken = λ content. refl;
  held_before = λ content. refl;
  snoop_drops = λ content. refl;
  snoop_leaves_way_0 = λ content. refl;
  fill_order = λ content. refl;
  low_lane = refl;
  high_lane = refl;
  four_wait = λ a b c d. refl;
  none_sent = λ a b c d. refl;
  fifth_waits = λ a b c d e. refl;
  first_sent = λ a b c d e. refl;
  settled_0000 = refl;
  seen_0009 = refl;
  seen_3322 = refl;
}
