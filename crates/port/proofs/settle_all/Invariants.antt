use Rattle.std.proofs.Common.{length}
use Rattle.port.specs.Meaning.{Settles}
use Rattle.port.specs.Steps.{Drains}
use Rattle.port.proofs.settle_all.Given as goal

abbrev pub invariant-loop-port : goal.invariant-loop-port
invariant-loop-port g l =
    Settles (g.P.Port.state l.initial.port) (g.P.Port.state l.port) ×
    ((end : g.row.P.Denot) → Drains g.P.Port.state g.P.Port.does l.port end → Drains g.P.Port.state g.P.Port.does l.initial.port end)

abbrev pub decreases-loop-port : goal.decreases-loop-port
decreases-loop-port g l = length (g.P.Port.state l.port).waiting
