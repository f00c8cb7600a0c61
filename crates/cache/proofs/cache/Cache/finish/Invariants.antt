use Rattle.std.proofs.Common.{◌≡◌}
use Rattle.port.specs.Meaning.{Settles}
use Rattle.port.specs.Steps.{Chain}
use Rattle.cache_tables.specs.Rules.{finished, lacking, finish_calls}
use Rattle.cache.specs.Doing.{shows_below, tables_of}
use Rattle.cache.proofs.cache.Cache.finish.Given as goal

abbrev pub invariant-loop-self : goal.invariant-loop-self
invariant-loop-self g l =
    Settles (g.P.Port.state l.initial.self.below) (g.P.Port.state l.self.below) ×
    (finished (shows_below l.initial.self) (tables_of l.self) ≡ finished (shows_below l.initial.self) (tables_of l.initial.self)) ×
    ((end : g.row.P.Denot) → Chain g.P.Port.does l.self.below (finish_calls (shows_below l.self) (tables_of l.self)) end →
    Chain g.P.Port.does l.initial.self.below (finish_calls (shows_below l.initial.self) (tables_of l.initial.self)) end)

abbrev pub decreases-loop-self : goal.decreases-loop-self
decreases-loop-self g l = lacking l.self.tables.fill
