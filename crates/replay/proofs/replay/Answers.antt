use Rattle.std.proofs.Common.{sym, subst, vec_items, ◌∙◌}
use Rattle.replay.specs.Incident.{incident_calls, MadeOnABoard}
use Rattle.replay.proofs.Reading.{made_with, rows_taken, rows_read}
use Rattle.replay.proofs.replay.Goals as goal

pub returns : goal.returns
returns g c =
    let ran = c.in_ok-outcome.outcome in
    let rs = vec_items ran.answers in
    let on_the_board = made_with g.P.Port c.args.port c.deref.result.now _ rs ran.board.mode ran.board.port (c.deref.ensures.value ∙ c.in-Ok.ensures) c.in_ok-outcome.ensures.promise in
    let made = subst (MadeOnABoard g.P.Port c.args.port (incident_calls c.args.clears) rs) (sym c.into_port-left.ensures) on_the_board in
    let taken = rows_taken c.args.clears rs c.deref-2.result.now c.deref-3.result.now c.from.result c.row_at-before.result c.row_at-after.result c.deref-2.ensures.value c.deref-3.ensures.value c.from.ensures c.row_at-before.ensures c.row_at-after.ensures in
    record { calls = c.in-Ok.ensures; made = made; taken = taken; rows = rows_read g.P.Port c.args.port _ c.args.clears rs c.row_at-before.result c.row_at-after.result made taken }
