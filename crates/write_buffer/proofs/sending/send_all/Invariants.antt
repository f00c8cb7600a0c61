use Rattle.std.proofs.Common.{length}
use Rattle.port.specs.Memory.{posted}
use Rattle.port.specs.Meaning.{Settles}
use Rattle.port.specs.Steps.{Chain}
use Rattle.write_buffer.specs.Queues.{queued}
use Rattle.write_buffer.specs.Taking.{Takes}
use Rattle.write_buffer.specs.Buffering.{sends}
use Rattle.write_buffer.proofs.sending.send_all.Given as goal

abbrev pub invariant-loop-oldest : goal.invariant-loop-oldest
invariant-loop-oldest g l =
    Takes (g.P.Port.state l.below).facts (queued l.queue) ×
    Settles (posted (queued l.initial.queue) (g.P.Port.state l.initial.below)) (posted (queued l.queue) (g.P.Port.state l.below)) ×
    ((end : g.row.P.Denot) → Chain g.P.Port.does l.below (sends (queued l.queue)) end → Chain g.P.Port.does l.initial.below (sends (queued l.initial.queue)) end)

abbrev pub decreases-loop-oldest : goal.decreases-loop-oldest
decreases-loop-oldest g l = length (queued l.queue)
