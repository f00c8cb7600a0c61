use Rattle.std.proofs.Common.{◌≡◌, ◌<◌, [], length, arith}
use Rattle.std.proofs.lemmas.List.{nil_from_length}
use Rattle.port.specs.Steps.{empty, more}
use Rattle.port.proofs.Settling.{settles_then, settles_all, settling_is_never_seen}
use Rattle.port.proofs.settle_all.Goals as goal

pub loop-port-preserved : goal.loop-port-preserved
loop-port-preserved g c =
    let waits : 0 < length (g.P.Port.state c.loop-port.port).waiting = omega arith in (
      settles_then _ _ _ c.loop-port.invariant.0 c.advance.ensures.after.settles,
      λ end drains. c.loop-port.invariant.1 end (more waits c.advance.ensures.did drains),
    )

pub returns : goal.returns
returns g c =
    let none : (g.P.Port.state c.loop-port.port).waiting ≡ [] = nil_from_length (g.P.Port.state c.loop-port.port).waiting (omega arith) in
    record {
      after = settles_all _ _ c.loop-port.invariant.0 none;
      did = c.loop-port.invariant.1 c.loop-port.port (empty none);
      law = settling_is_never_seen;
    }
