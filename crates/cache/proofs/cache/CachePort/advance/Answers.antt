use Rattle.std.proofs.Common.{rules}
use Rattle.cache_tables.proofs.Fetching.{move}
use Rattle.cache.proofs.Calling.{advances_after, takes_advance}
use Rattle.cache.proofs.cache.CachePort.advance.Goals as goal

pub invariant_of-self : goal.invariant_of-self
invariant_of-self g c =
    let kept = c.fetch_one.new.self.coherent in
    search (rules, move)

pub returns-clause-after : goal.returns-clause-after
returns-clause-after g c = search (rules, advances_after)

pub returns-clause-did : goal.returns-clause-did
returns-clause-did g c = search (rules, takes_advance)
