use Rattle.std.proofs.Common.{◌∙◌}
use Rattle.calls.specs.Format.{meaning}
use Rattle.card.proofs.Records.{names_kept, name_kept, records_below, bytes_below, handed_back, promise_kept}
use Rattle.card.proofs.whole.run_card.Goals as goal

pub returns-in-Ok-run_on_stages-clause-promise : goal.returns-in-Ok-run_on_stages-clause-promise
returns-in-Ok-run_on_stages-clause-promise c =
    promise_kept _ _ _ c.new-memory.result c.in-Ok-run_on_stages.ran.memory _ _ _ _ _ (meaning c.args.list.now) c.new-memory.ensures.run
    (records_below c.new.result c.new-memory.result _ c.new-memory.ensures.did.0 c.new.ensures.records)
    (bytes_below c.new-2.result c.new-memory.result _ c.new-memory.ensures.did.1 c.new-2.ensures.image)
    (handed_back c.into_sides-ram.result.0 c.in-Ok-run_on_stages.ran.memory _ c.into_sides-ram.ensures.0 c.into_lines.ensures.records)
    c.in-Ok-run_on_stages.ensures c.deref.ensures.value c.in-Ok.ensures

pub returns-in-Ok-run_on_stages-clause-caller : goal.returns-in-Ok-run_on_stages-clause-caller
returns-in-Ok-run_on_stages-clause-caller c =
    c.into_lines.ensures.caller
    ∙ names_kept c.new.result c.into_sides-ram.result.0 c.new-memory.result c.in-Ok-run_on_stages.ran.memory c.new-memory.ensures.run c.new-memory.ensures.did.0 (c.in-Ok-run_on_stages.ensures).reached c.into_sides-ram.ensures.0
    ∙ c.new.ensures.caller

pub returns-clause-caller : goal.returns-clause-caller
returns-clause-caller c =
    c.into_lines-in-Err-run_on_stages.ensures.caller
    ∙ name_kept c.new.result c.into_sides-ram-in-Err-run_on_stages.result.0 c.new-memory.result c.in-Err-run_on_stages.failed.value c.new-memory.ensures.did.0 c.in-Err-run_on_stages.ensures c.into_sides-ram-in-Err-run_on_stages.ensures.0
    ∙ c.new.ensures.caller
