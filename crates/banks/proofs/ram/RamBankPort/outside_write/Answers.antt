use Rattle.std.proofs.Common.{rules}
use Rattle.banks.proofs.Records.{changed_state}
use Rattle.banks.proofs.ram.RamBankPort.outside_write.Goals as goal

pub returns-then-not-self-line-clause-after : goal.returns-then-not-self-line-clause-after
returns-then-not-self-line-clause-after c = search (rules, changed_state)
