use Rattle.std.proofs.Common.{◌≡◌, ◌<◌, [], length, arith, rules}
use Rattle.port.specs.Steps.{done, then}
use Rattle.std.proofs.lemmas.List.{nil_from_length}
use Rattle.write_buffer.specs.Queues.{queued}
use Rattle.write_buffer.specs.Buffering.{below, oldest, idle}
use Rattle.write_buffer.proofs.Queueing.{popped_some, popped_none}
use Rattle.write_buffer.proofs.Passing.{same_buffer}
use Rattle.write_buffer.proofs.buffer.WriteBufferPort.advance.Goals as goal

pub returns-then-waiting-gt0-clause-did : goal.returns-then-waiting-gt0-clause-did
returns-then-waiting-gt0-clause-did g c =
    let waits : 0 < length (g.P.Port.state c.args.self.now.below).waiting = omega arith in
    search (rules, below, then, done)

pub returns-in-Some-clause-did : goal.returns-in-Some-clause-did
returns-in-Some-clause-did g c =
    let line = popped_some (queued c.args.self.now.queue) (queued c.pop.new.self) c.in-Some.oldest c.in-Some.ensures.value c.in-Some.ensures.after in
    let none : (g.P.Port.state c.args.self.now.below).waiting ≡ [] = nil_from_length _ (omega arith) in
    search (rules, oldest)

pub returns-in_default-clause-did : goal.returns-in_default-clause-did
returns-in_default-clause-did g c =
    let none : (g.P.Port.state c.args.self.now.below).waiting ≡ [] = nil_from_length _ (omega arith) in
    let empty = popped_none (queued c.args.self.now.queue) c.in_default.ensures.value in
    idle none empty (same_buffer c.args.self.now c.pop.new.self _ (c.pop.ensures.kept empty))
