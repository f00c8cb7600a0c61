use Rattle.card.proofs.Lining.{line_written, all_written}
use Rattle.card.proofs.output.write_answers.Goals as goal

pub loop-i-init : goal.loop-i-init
loop-i-init g c = λ end h. h

pub loop-i-preserved : goal.loop-i-preserved
loop-i-preserved g c = λ end h. c.loop-i.invariant end (line_written _ _ c.loop-i.i _ c.min-i-end.ensures _ _ _ _ c.loop-i-test.true c.in_ok-writeln.ensures.bytes end h)

pub returns : goal.returns
returns g c = c.loop-i.invariant _ (all_written _ _ c.loop-i.i _ c.min-i-end.ensures _ c.loop-i-test.false)
