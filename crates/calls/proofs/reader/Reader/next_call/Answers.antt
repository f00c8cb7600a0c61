use Rattle.std.proofs.Common.{sym}
use Rattle.std.proofs.lemmas.Result.{err_from_is_err_and}
use Rattle.calls.proofs.reader.Reader.next_call.Goals as goal
use Rattle.calls.proofs.Reading.{next_there}

pub returns-in_err-call-clause-value : goal.returns-in_err-call-clause-value
returns-in_err-call-clause-value c =
    let p = err_from_is_err_and c.from_residual-in_err-call.result c.from_residual-in_err-call.ensures.1 in
    rw (p.1, p.2) (sym (next_there c.args.self.now.bytes.now _ _ _ _ c.in_ok-fit_length.ensures c.in-Some.ensures.value c.word_at-next.ensures.value c.in_err-call.ensures))

pub returns-clause-value : goal.returns-clause-value
returns-clause-value c =
    sym (next_there c.args.self.now.bytes.now _ _ _ _ c.in_ok-fit_length.ensures c.in-Some.ensures.value c.word_at-next.ensures.value c.in_ok-call.ensures)
