use Rattle.std.proofs.Common.{◌≡◌, true, false, [], refl, rules}
use Rattle.port.specs.Steps.{done}
use Rattle.cache_tables.specs.Showing.{shown}
use Rattle.cache_tables.specs.Rules.{model, turn, finish_turn, fills_open}
use Rattle.cache.proofs.Calling.{takes_as, ready_open, ready_still}
use Rattle.cache.proofs.cache.Cache.make_ready.Goals as goal

pub returns-then-fills_open-clause-did : goal.returns-then-fills_open-clause-did
returns-then-fills_open-clause-did g c =
    let v = shown (g.P.Port.state c.args.self.now.below) in
    let m = model c.args.self.now.tables in
    let yes : fills_open m.fill c.args.line ≡ true = search rules in
    takes_as (finish_turn v m) _ (ready_open v m c.args.line yes) c.finish.ensures.did

pub returns-else-fills_open-clause-did : goal.returns-else-fills_open-clause-did
returns-else-fills_open-clause-did g c =
    let v = shown (g.P.Port.state c.args.self.now.below) in
    let m = model c.args.self.now.tables in
    let no : fills_open m.fill c.args.line ≡ false = search rules in
    takes_as (turn m []) _ (ready_still v m c.args.line no) (record { tables = refl; below = done })
