use Rattle.std.proofs.Common.{ap, ◌∙◌}
use Rattle.port.specs.Steps.{done, then}
use Rattle.port.proofs.Checking.{as_ok, in_ok}
use Rattle.port.proofs.Chains.{chain_append}
use Rattle.cache_tables.specs.Rules.{Model, model, written}
use Rattle.cache.proofs.Calling.{write_kept, write_settles, taken_later}
use Rattle.cache.proofs.cache.CachePort.write.Goals as goal

pub invariant_of-self : goal.invariant_of-self
invariant_of-self g c =
    let s = g.P.Port.state c.args.self.now.below in
    let t = g.P.Port.state c.make_ready.new.self.below in
    let u = g.P.Port.state c.write.new.self in
    let w = c.args.write in
    let r = c.make_ready.ensures in
    let h = c.in_ok-check_store_above.ensures.passed in
    let ok = c.write.ensures.value ∙ taken_later s t w r.after h.below in
    let joins = in_ok _ _ c.write.result ok c.write.ensures.after in
    record { coherent = write_kept s t u w r.after joins (model c.make_ready.new.self.tables) (model c.change.new.self) c.make_ready.new.self.coherent r.closed c.change.ensures }

pub returns-clause-after : goal.returns-clause-after
returns-clause-after g c =
    let s = g.P.Port.state c.args.self.now.below in
    let t = g.P.Port.state c.make_ready.new.self.below in
    let w = c.args.write in
    let r = c.make_ready.ensures in
    let h = c.in_ok-check_store_above.ensures.passed in
    let ok = c.write.ensures.value ∙ taken_later s t w r.after h.below in
    as_ok _ _ c.write.result ok (write_settles s t (g.P.Port.state c.write.new.self) w r.after (in_ok _ _ c.write.result ok c.write.ensures.after))

pub returns-clause-did : goal.returns-clause-did
returns-clause-did g c =
    let s = g.P.Port.state c.args.self.now.below in
    let t = g.P.Port.state c.make_ready.new.self.below in
    let w = c.args.write in
    let r = c.make_ready.ensures in
    let h = c.in_ok-check_store_above.ensures.passed in
    let ok = c.write.ensures.value ∙ taken_later s t w r.after h.below in
    as_ok _ _ c.write.result ok (record { tables = c.change.ensures ∙ ap (λ (m : Model). written m w) r.did.tables; below = chain_append r.did.below (then c.write.ensures.did done) })
