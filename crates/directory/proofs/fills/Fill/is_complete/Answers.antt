use Rattle.directory.proofs.Ticking.{eight_ticks_are_all}
use Rattle.directory.proofs.fills.Fill.is_complete.Goals as goal

pub returns-clause-law : goal.returns-clause-law
returns-clause-law c = eight_ticks_are_all
