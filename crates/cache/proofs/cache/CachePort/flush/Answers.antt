use Rattle.std.proofs.Common.{rules}
use Rattle.cache.proofs.Calling.{cleared_kept, takes_one}
use Rattle.cache.proofs.cache.CachePort.flush.Goals as goal

pub invariant_of-self : goal.invariant_of-self
invariant_of-self g c =
    let kept = c.args.self.now.coherent in
    search (rules, cleared_kept)

pub returns-clause-did : goal.returns-clause-did
returns-clause-did g c = search (rules, takes_one)
