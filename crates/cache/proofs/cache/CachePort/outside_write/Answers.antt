use Rattle.std.proofs.Common.{rules}
use Rattle.cache.proofs.Calling.{answered_outside, takes_answered}
use Rattle.cache.proofs.cache.CachePort.outside_write.Goals as goal

pub invariant_of-self : goal.invariant_of-self
invariant_of-self g c =
    let s = g.P.Port.state c.args.self.now.below in
    let w = c.args.write in
    let h = c.in_ok-check_store_above.ensures.passed in
    let kept = c.args.self.now.coherent in
    search (rules, answered_outside)

pub returns-clause-did : goal.returns-clause-did
returns-clause-did g c =
    let s = g.P.Port.state c.args.self.now.below in
    let w = c.args.write in
    let h = c.in_ok-check_store_above.ensures.passed in
    search (rules, takes_answered)
