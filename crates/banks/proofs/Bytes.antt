-- The bytes of an EPROM's words.
use Rattle.std.proofs.Common.{arith}
use Rattle.banks.specs.Eprom.{LowByteFirst}

pub low_byte_first : LowByteFirst
low_byte_first = record { low = λ bytes a h. omega (arith, h); high = λ bytes a h. omega (arith, h) }
