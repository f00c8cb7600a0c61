use Rattle.write_buffer.specs.Queues.{queued}
use Rattle.write_buffer.proofs.Queueing.{popped_some, popped_none}
use Rattle.write_buffer.proofs.Answering.{takes_kept, takes_line}
use Rattle.write_buffer.proofs.SendingLemmas.{settles_facts, turn_settles, turn_sends, none_sent}
use Rattle.write_buffer.proofs.sending.send_all.Goals as goal

pub returns-clause-did : goal.returns-clause-did
returns-clause-did g c =
    c.loop-oldest.invariant.2 c.loop-oldest.below (none_sent (queued c.loop-oldest.queue) (popped_none (queued c.loop-oldest.queue) c.in_default.ensures.value))

pub loop-oldest-preserved : goal.loop-oldest-preserved
loop-oldest-preserved g c =
    let s = g.P.Port.state c.loop-oldest.below in
    let t = g.P.Port.state c.send.new.below in
    let ws = queued c.loop-oldest.queue in
    let vs = queued c.pop.new.self in
    let line = popped_some ws vs c.in-Some.oldest c.in-Some.ensures.value c.in-Some.ensures.after in (
      takes_kept s.facts t.facts vs (settles_facts _ t c.send.ensures.after) (takes_line s.facts _ _ line c.loop-oldest.invariant.0).1,
      turn_settles _ s t ws vs c.in-Some.oldest line c.loop-oldest.invariant.1 c.send.ensures.after,
      λ end chain. c.loop-oldest.invariant.2 end (turn_sends ws vs c.in-Some.oldest line c.send.ensures.did chain),
    )
