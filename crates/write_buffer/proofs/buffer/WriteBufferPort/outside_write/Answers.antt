use Rattle.std.proofs.Common.{rules}
use Rattle.write_buffer.proofs.Passing.{did_answered}
use Rattle.write_buffer.proofs.buffer.WriteBufferPort.outside_write.Goals as goal

pub returns-clause-did : goal.returns-clause-did
returns-clause-did g c = search (rules, did_answered)
