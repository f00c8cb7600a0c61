use Rattle.std.proofs.Common.{rules}
use Rattle.cache.proofs.Calling.{cleared_kept}
use Rattle.cache.proofs.Promising.{hits_only_touch, misses_begin_fills, used_ways_are_spared}
use Rattle.cache.proofs.cache.Cache.new.Goals as goal

pub invariant_of-result : goal.invariant_of-result
invariant_of-result g c =
    let sized = g.met.P.Port.whole c.args.below in
    search (rules, cleared_kept)

pub returns-clause-spares : goal.returns-clause-spares
returns-clause-spares g c = used_ways_are_spared g.P.Port

pub returns-clause-hits : goal.returns-clause-hits
returns-clause-hits g c = hits_only_touch g.P.Port

pub returns-clause-misses : goal.returns-clause-misses
returns-clause-misses g c = misses_begin_fills g.P.Port
