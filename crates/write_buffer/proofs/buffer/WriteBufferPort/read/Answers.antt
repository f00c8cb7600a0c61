use Rattle.std.proofs.Common.{sym, ◌∙◌, rules}
use Rattle.port.specs.Memory.{seen, posted, raised}
use Rattle.port.specs.Steps.{done, then}
use Rattle.port.proofs.Settling.{settles_then}
use Rattle.port.proofs.Checking.{as_ok}
use Rattle.port.proofs.Chains.{chain_append}
use Rattle.write_buffer.specs.Queues.{queued}
use Rattle.write_buffer.proofs.Answering.{told_within, reads_through}
use Rattle.write_buffer.proofs.SendingLemmas.{settles_emptied}
use Rattle.write_buffer.proofs.buffer.WriteBufferPort.read.Goals as goal

pub returns-clause-value : goal.returns-clause-value
returns-clause-value g c =
    let s = g.P.Port.state c.args.self.now.below in
    let t = g.P.Port.state c.send_all.new.below in
    let ws = queued c.args.self.now.queue in
    let word = c.args.word in
    let checked = c.in_ok-check_above.ensures.passed in
    reads_through s t ws word c.read.result c.send_all.ensures.after checked.below c.read.ensures.value ∙
    sym (told_within (raised s).facts (seen (posted ws s)) word checked.own)

pub returns-clause-after : goal.returns-clause-after
returns-clause-after g c = search (rules, settles_emptied, settles_then)

pub returns-clause-did : goal.returns-clause-did
returns-clause-did g c =
    as_ok _ _ _ c.in_ok-check_above.ensures.passed.below record { queue = c.send_all.ensures.queue; below = chain_append c.send_all.ensures.did (then c.read.ensures.did done) }
