use Rattle.std.proofs.Common.{◌≡◌, ◌<◌, [], length, arith, rules}
use Rattle.port.specs.Steps.{done, then}
use Rattle.std.proofs.lemmas.List.{nil_from_length}
use Rattle.write_buffer.specs.Buffering.{settled, waited}
use Rattle.write_buffer.proofs.SendingLemmas.{sent_settles}
use Rattle.write_buffer.proofs.sending.send_on.Goals as goal

pub returns-then-waiting-gt0-clause-after : goal.returns-then-waiting-gt0-clause-after
returns-then-waiting-gt0-clause-after g c =
    (sent_settles (g.P.Port.state c.args.below.now) (g.P.Port.state c.send.new.below) (g.P.Port.state c.advance.new.self) c.args.write c.send.ensures.after (omega arith) c.advance.ensures.after).0

pub returns-then-waiting-gt0-clause-did : goal.returns-then-waiting-gt0-clause-did
returns-then-waiting-gt0-clause-did g c =
    let waits : 0 < length (g.P.Port.state c.send.new.below).waiting = omega arith in
    search (rules, waited, then, done)

pub returns-else-waiting-gt0-clause-did : goal.returns-else-waiting-gt0-clause-did
returns-else-waiting-gt0-clause-did g c =
    let none : (g.P.Port.state c.send.new.below).waiting ≡ [] = nil_from_length _ (omega arith) in
    search (rules, settled, then, done)
