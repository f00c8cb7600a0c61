use Rattle.std.proofs.Common.{Some, None, rules}
use Rattle.port.specs.Steps.{done, then}
use Rattle.port.proofs.Settling.{settles_none}
use Rattle.write_buffer.specs.Queues.{queued}
use Rattle.write_buffer.proofs.Queueing.{left_line}
use Rattle.write_buffer.proofs.Answering.{takes_kept, takes_joined}
use Rattle.write_buffer.proofs.SendingLemmas.{settles_facts, send_buffered, joins_line, sends_left}
use Rattle.write_buffer.proofs.buffer.WriteBufferPort.write.Goals as goal

pub invariant_of-self : goal.invariant_of-self
invariant_of-self g c =
    let s = g.P.Port.state c.args.self.now.below in
    let t = g.P.Port.state c.send.new.below in
    let ws = queued c.args.self.now.queue in
    let vs = queued c.push.new.self in
    let w = c.args.write in
    let both = takes_joined s.facts (Some c.in-Some.oldest) w ws vs c.in-Some.ensures.value c.push.ensures.after c.args.self.now.taken c.in_ok-check_store_above.ensures.passed.below in
    record { taken = takes_kept s.facts t.facts vs (settles_facts _ t c.send.ensures.after) both.1 }

pub returns-in-Some-clause-after : goal.returns-in-Some-clause-after
returns-in-Some-clause-after g c =
    let line = left_line (Some c.in-Some.oldest) c.args.write (queued c.args.self.now.queue) (queued c.push.new.self) c.in-Some.ensures.value c.push.ensures.after in
    search (rules, joins_line, send_buffered)

pub returns-in-Some-clause-did : goal.returns-in-Some-clause-did
returns-in-Some-clause-did g c =
    record { queue = c.push.ensures.after; below = sends_left (queued c.args.self.now.queue) (Some c.in-Some.oldest) c.in-Some.ensures.value (then c.send.ensures.did done) }

pub returns-in_default-clause-after : goal.returns-in_default-clause-after
returns-in_default-clause-after g c =
    let line = left_line None c.args.write (queued c.args.self.now.queue) (queued c.push.new.self) c.in_default.ensures.value c.push.ensures.after in
    search (rules, joins_line, settles_none)

pub returns-in_default-clause-did : goal.returns-in_default-clause-did
returns-in_default-clause-did g c =
    record { queue = c.push.ensures.after; below = sends_left (queued c.args.self.now.queue) None c.in_default.ensures.value done }
