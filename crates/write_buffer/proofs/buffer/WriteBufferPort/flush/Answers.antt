use Rattle.std.proofs.Common.{rules}
use Rattle.port.specs.Steps.{done, then}
use Rattle.write_buffer.proofs.buffer.WriteBufferPort.flush.Goals as goal

pub returns-clause-did : goal.returns-clause-did
returns-clause-did g c = search (rules, then, done)
