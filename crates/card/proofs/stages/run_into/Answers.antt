use Rattle.std.proofs.Common.{◌≡◌, ℕ, List, length, take, sym, ap, ◌∙◌, subst, arith, Result}
use Rattle.std.proofs.lemmas.List.{take-append-le}
use Rattle.fault.specs.declared.Fault.{Fault}
use Rattle.book.specs.declared.answer.Answer.{Answer}
use Rattle.card.specs.Stages.{RunOnTheStages}
use Rattle.card.proofs.stages.run_into.Goals as goal

pub returns : goal.returns
returns g c =
    let left = c.in-Ok.left in
    let room = c.run_on_stages_in.new.room in
    let Ran : List (Result Answer Fault) → Type 0 = λ rs. RunOnTheStages g.M.Port c.args.memory c.args.calls.now rs left.waiting left.remains left.memory in
    let all : length c.args.calls.now ≡ c.args.room.len = omega arith in
    subst Ran (ap (λ (n : ℕ). take n room) all ∙ sym (take-append-le c.args.room.len room _ (omega arith))) c.in-Ok.ensures.promise
