use Rattle.std.proofs.Common.{◌/◌, ◌^◌}
use Rattle.std.proofs.lemmas.Nat.{and_mask, one_shl}
use Rattle.calls.proofs.reader.bits.Goals as goal

pub returns : goal.returns
returns c =
    rw (one_shl c.args.count 32 c.requires.1) (and_mask (c.args.word / 2 ^ c.args.low) c.args.count)
