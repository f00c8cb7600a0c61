use Rattle.std.proofs.Common.{rules}
use Rattle.directory.proofs.Ticking.{next_small}
use Rattle.directory.proofs.fills.Fill.next_offset.Goals as goal

pub returns-clause-small : goal.returns-clause-small
returns-clause-small c = search (rules, next_small)
