use Rattle.std.proofs.Common.{◌≡◌, true, false, is_some, ◌∙◌, rules}
use Rattle.port.proofs.Settling.{settles_then}
use Rattle.cache_tables.specs.Showing.{shown}
use Rattle.cache_tables.specs.Rules.{model}
use Rattle.cache_tables.proofs.Fetching.{fetch_less, finish_again, finish_step, none_left, none_lacking}
use Rattle.cache.proofs.cache.Cache.finish.Goals as goal

pub returns-clause-did : goal.returns-clause-did
returns-clause-did g c =
    let m = model c.loop-self.self.tables in
    let no : is_some m.fill ≡ false = search rules in
    record {
      tables = none_left (shown (g.P.Port.state c.args.self.now.below)) m.dir m.fill no ∙ c.loop-self.invariant.1;
      below = c.loop-self.invariant.2 _ (none_lacking _ m.dir m.fill no);
    }

pub loop-self-smaller : goal.loop-self-smaller
loop-self-smaller g c =
    let m = model c.loop-self.self.tables in
    let yes : is_some m.fill ≡ true = search rules in
    fetch_less (shown (g.P.Port.state c.loop-self.self.below)) m.dir m.fill (model c.fetch_one.new.self.tables) c.loop-self.self.coherent c.fetch_one.ensures.did.tables yes

pub loop-self-preserved : goal.loop-self-preserved
loop-self-preserved g c =
    let s = g.P.Port.state c.args.self.now.below in
    let t = g.P.Port.state c.loop-self.self.below in
    let u = g.P.Port.state c.fetch_one.new.self.below in
    let m = model c.loop-self.self.tables in
    let n = model c.fetch_one.new.self.tables in
    let kept = c.loop-self.self.coherent in
    let f = c.fetch_one.ensures in
    let yes : is_some m.fill ≡ true = search rules in (
      settles_then s t u c.loop-self.invariant.0 f.after,
      finish_again s t m n c.loop-self.invariant.0 kept f.did.tables ∙ c.loop-self.invariant.1,
      λ end chain. c.loop-self.invariant.2 end (finish_step t u m n f.after kept f.did.tables yes f.did.below chain),
    )
