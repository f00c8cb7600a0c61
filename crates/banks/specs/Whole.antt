-- That a size is in whole lines.
use Rattle.std.specs.Prelude.{ℕ}
use Rattle.std.proofs.Common.{arith}
use Rattle.std.proofs.lemmas.Bool.Decides.{nat_tests}
use Rattle.port.specs.Memory.{WholeLines}
use Rattle.banks.specs.Sizes.{words_of_lines}

pub whole_lines : (lines : ℕ) → WholeLines (words_of_lines lines)
whole_lines lines = record { lined = grind (arith, nat_tests); most = grind (arith, nat_tests) }
