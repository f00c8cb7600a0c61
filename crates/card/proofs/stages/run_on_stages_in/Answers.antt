use Rattle.std.proofs.Common.{sym}
use Rattle.card.proofs.Reaching.{put_on, on_the_stages}
use Rattle.card.proofs.stages.run_on_stages_in.Goals as goal

pub returns-in-Ok-clause-promise : goal.returns-in-Ok-clause-promise
returns-in-Ok-clause-promise g c =
    on_the_stages c.args.memory c.take_off.result.memory _ _ _ _ c.new-2.result c.in-Ok.board.port _
    (put_on _ c.new.result c.new-2.result c.new.ensures.below c.new.ensures.queue c.new-2.ensures.below c.new-2.ensures.tables)
    (sym c.take_off.ensures.memory) c.take_off.ensures.queue c.take_off.ensures.tables
    c.new.ensures.run c.new-2.ensures.run c.in-Ok.ensures.promise c.take_off.ensures.waiting
