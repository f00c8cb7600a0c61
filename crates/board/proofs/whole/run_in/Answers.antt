use Rattle.std.proofs.Common.{◌≡◌, ℕ, length, take, refl, ◌∙◌, subst, arith, length-set}
use Rattle.std.proofs.lemmas.List.{take_more_set, drop-set-lt}
use Rattle.book.specs.Promise.{NeverAnOldDigit}
use Rattle.book.proofs.Running.{made_none, made_turn, keeps_all}
use Rattle.board.proofs.whole.run_in.Goals as goal

pub loop-i-init : goal.loop-i-init
loop-i-init g c = record { made = made_none _ _ _ _ refl; size = refl; beyond = refl }

pub loop-i-preserved : goal.loop-i-preserved
loop-i-preserved g c = record {
  made =
      made_turn _ _ _ c.args.calls.now c.loop-i.i _ _ _ _ _ _ _ _ c.loop-i-test.true (take_more_set c.loop-i.room c.loop-i.i c.call.result (omega arith))
      c.loop-i.invariant.made c.call.ensures.called;
  size = length-set c.loop-i.room c.loop-i.i c.call.result ∙ c.loop-i.invariant.size;
  beyond = drop-set-lt _ c.loop-i.room c.loop-i.i c.call.result c.loop-i-test.true ∙ c.loop-i.invariant.beyond;
}

pub returns-clause-promise : goal.returns-clause-promise
returns-clause-promise g c =
    let room = c.loop-i.room in
    let all : c.loop-i.i ≡ length c.args.calls.now = omega arith in
    let kept = keeps_all g.P.Port c.args.port _ c.args.calls.now (take c.loop-i.i room) c.loop-i.i _ _ _ c.new-board.ensures.did c.new-board.ensures.settled c.new-board.ensures.mode c.loop-i-test.false c.loop-i.invariant.made in
    subst (λ (j : ℕ). NeverAnOldDigit g.P.Port c.args.port c.args.calls.now (take j room) c.loop-i.board.mode c.loop-i.board.port) all kept
