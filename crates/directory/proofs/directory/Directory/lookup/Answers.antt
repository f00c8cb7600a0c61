use Rattle.directory.specs.Dirs.{view_of}
use Rattle.directory.proofs.Apart.{one_way}
use Rattle.directory.proofs.directory.Directory.lookup.Goals as goal

pub returns-clause-law : goal.returns-clause-law
returns-clause-law c = one_way (view_of c.args.self.now.sets) c.args.self.now.apart
