use Rattle.std.proofs.Common.{ℕ, List, Option}
use Rattle.std.specs.Io.KnownBytes.{Appends}
use Rattle.card.specs.Output.{answered_lines}
use Rattle.card.proofs.Lining.{left_from}
use Rattle.card.proofs.output.write_answers.Given as goal

-- Once the lines that are left are written too, all are.
abbrev pub invariant-loop-i : goal.invariant-loop-i
invariant-loop-i g l =
    (end : Option (List ℕ)) → Appends (g.W.Write.contents l.writer) end (left_from l.calls l.answers l.i)
    → Appends (g.W.Write.contents l.initial.writer) end (answered_lines 1 l.calls l.answers)
