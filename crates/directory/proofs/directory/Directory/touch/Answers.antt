use Rattle.std.proofs.Common.{rules}
use Rattle.directory.proofs.Changing.{after_touch}
use Rattle.directory.proofs.directory.Directory.touch.Goals as goal

pub returns-clause-after : goal.returns-clause-after
returns-clause-after c = search (rules, after_touch)
