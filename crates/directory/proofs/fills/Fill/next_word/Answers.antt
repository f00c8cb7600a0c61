use Rattle.directory.proofs.Ticking.{each_offset_once}
use Rattle.directory.proofs.fills.Fill.next_word.Goals as goal

pub returns-clause-law : goal.returns-clause-law
returns-clause-law c = each_offset_once
