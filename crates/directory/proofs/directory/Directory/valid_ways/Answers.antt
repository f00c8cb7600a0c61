use Rattle.std.proofs.Common.{◌≡◌, sum_by, rules, arith, tests}
use Rattle.std.proofs.lemmas.Iterator.{YieldsList-from_slice}
use Rattle.std.proofs.lemmas.Iterator.Adapters.{fits_from_length, at_most_from_yields_List}
use Rattle.directory.proofs.Looking.{valid_of, summed_valid, few_valid}
use Rattle.directory.proofs.directory.Directory.valid_ways.Goals.{After-sum}
use Rattle.directory.proofs.directory.Directory.valid_ways.Goals as goal

pub sum-requires-clause-fits : goal.sum-requires-clause-fits
sum-requires-clause-fits c = fits_from_length _ _ 256 _ (at_most_from_yields_List (YieldsList-from_slice c.args.self.now.sets (cc)) (search rules)) c.map.ensures.closure (omega arith) (λ x r q k. search (rules, tests))

total : (c : After-sum) → c.sum.result ≡ sum_by valid_of c.args.self.now.sets
total c = search rules

pub returns-clause-value : goal.returns-clause-value
returns-clause-value c = summed_valid c.args.self.now.sets 256 c.sum.result (search rules) (total c)

pub returns-clause-few : goal.returns-clause-few
returns-clause-few c = few_valid c.args.self.now.sets 256 c.sum.result (search rules) (total c)
