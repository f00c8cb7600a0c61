use Rattle.bench.proofs.Trying.{the_bench_cards_hold}
use Rattle.bench.proofs.locate.Goals as goal

pub returns-clause-cards : goal.returns-clause-cards
returns-clause-cards c = the_bench_cards_hold
