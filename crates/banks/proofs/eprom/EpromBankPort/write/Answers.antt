use Rattle.std.proofs.Common.{rules}
use Rattle.port.proofs.Settling.{accepted_at_once}
use Rattle.banks.proofs.eprom.EpromBankPort.write.Goals as goal

pub returns-clause-after : goal.returns-clause-after
returns-clause-after c = search (rules, accepted_at_once)
