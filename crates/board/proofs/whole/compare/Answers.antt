use Rattle.std.proofs.Common.{rules}
use Rattle.book.proofs.Running.{both_keep}
use Rattle.board.proofs.whole.compare.Goals as goal

pub returns-clause-promise : goal.returns-clause-promise
returns-clause-promise g c = search (rules, both_keep)
