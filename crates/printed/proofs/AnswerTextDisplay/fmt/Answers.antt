use Rattle.std.proofs.Common.{rules}
use Rattle.printed.proofs.AnswerTextDisplay.fmt.Goals as goal
use Rattle.printed.proofs.Hexing.{hex_word_written}

pub returns-in-Ok-Word-clause-writes : goal.returns-in-Ok-Word-clause-writes
returns-in-Ok-Word-clause-writes g c = search (rules, hex_word_written)
