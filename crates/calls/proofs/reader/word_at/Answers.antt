use Rattle.std.proofs.Common.{Some, sym, ap, ◌∙◌, arith}
use Rattle.calls.proofs.reader.word_at.Goals as goal
use Rattle.calls.proofs.Reading.{word_there, word_past}

pub returns-then-index-bytes-clause-value : goal.returns-then-index-bytes-clause-value
returns-then-index-bytes-clause-value c = ap Some c.word_of.ensures ∙ sym (word_there c.args.bytes.now c.args.index (omega arith))

pub returns-else-index-bytes-clause-value : goal.returns-else-index-bytes-clause-value
returns-else-index-bytes-clause-value c = sym (word_past c.args.bytes.now c.args.index (omega arith))
