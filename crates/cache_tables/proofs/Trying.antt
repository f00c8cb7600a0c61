-- The worked examples, computed.
use Rattle.std.proofs.Common.{refl}
use lib.Count.{ones, ones_in}
use Rattle.cache_tables.specs.Examples.{TwoLineExamplesHold}

pub two_line_examples_hold : TwoLineExamplesHold
unfolding ones ones_in
two_line_examples_hold = record { miss = refl; next = refl; order = refl; kept = refl; short = refl; abandoned = refl; buffered = refl; fresh = refl }
