use Rattle.std.proofs.Common.{◌∙◌}
use Rattle.std.proofs.lemmas.Result.{err_from_is_err_and}
use Rattle.calls.proofs.whole.read_list.Goals as goal
use Rattle.calls.proofs.Reading.{turn_more, turn_end, turn_stop, turn_less}
use Rattle.calls.proofs.Codec.{list_encodes_its_calls}
use Rattle.calls.proofs.Refusing.{first_malformed_word_is_told}

pub returns-in_err-call : goal.returns-in_err-call
returns-in_err-call c =
    let p = err_from_is_err_and c.from_residual.result c.from_residual.ensures.1 in
    record {
      answer = rw (p.1, p.2) (turn_stop _ _ _ _ _ c.loop-calls.invariant.0 c.loop-calls.invariant.1 _ c.in_err-call.ensures.value);
      law = list_encodes_its_calls c.args.bytes.now (λ i. (c.type_inv.bytes i).fits);
      refusal = first_malformed_word_is_told c.args.bytes.now (λ i. (c.type_inv.bytes i).fits);
    }

pub loop-calls-smaller : goal.loop-calls-smaller
loop-calls-smaller c =
    turn_less _ _ _ _ _ _ c.loop-calls.invariant.0 c.in_ok-call.ensures.value c.in_ok-call.ensures.moved c.in-Some.is

pub loop-calls-preserved : goal.loop-calls-preserved
loop-calls-preserved c = (
  c.in_ok-call.ensures.same ∙ c.loop-calls.invariant.0,
  turn_more _ _ _ _ _ c.loop-calls.invariant.0 c.loop-calls.invariant.1 _ _ _ _ c.in_ok-call.ensures.value c.in_ok-call.ensures.moved c.in-Some.is c.in_ok-push.ensures.items,
)

pub returns-in_err-push-clause-law : goal.returns-in_err-push-clause-law
returns-in_err-push-clause-law c = list_encodes_its_calls c.args.bytes.now (λ i. (c.type_inv.bytes i).fits)

pub returns-in_err-push-clause-refusal : goal.returns-in_err-push-clause-refusal
returns-in_err-push-clause-refusal c = first_malformed_word_is_told c.args.bytes.now (λ i. (c.type_inv.bytes i).fits)

pub returns : goal.returns
returns c =
    record {
      answer = turn_end _ _ _ _ _ c.loop-calls.invariant.0 c.loop-calls.invariant.1 _ c.in_ok-call.ensures.value c.in_default.is;
      law = list_encodes_its_calls c.args.bytes.now (λ i. (c.type_inv.bytes i).fits);
      refusal = first_malformed_word_is_told c.args.bytes.now (λ i. (c.type_inv.bytes i).fits);
    }
