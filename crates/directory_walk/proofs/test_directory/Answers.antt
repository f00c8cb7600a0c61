use Rattle.std.proofs.Common.{List, subst, vec_items, ◌∙◌}
use Rattle.calls.specs.declared.call.Call.{Call}
use Rattle.book.specs.Promise.{NeverAnOldDigit}
use Rattle.cache.specs.Doing.{cache_ghosts}
use Rattle.directory_walk.proofs.Finding.{found_out}
use Rattle.directory_walk.proofs.test_directory.Goals as goal

pub returns-in-Ok-run : goal.returns-in-Ok-run
returns-in-Ok-run g c =
    let ran = c.in-Ok-run.outcome in
    let kept : List Call → Type 0 = λ cs. NeverAnOldDigit (cache_ghosts g.P.Port) c.new.result cs (vec_items ran.answers) ran.board.mode ran.board.port in
    let promise = subst kept (c.deref.ensures.value ∙ c.in-Ok.ensures) c.in-Ok-run.ensures.promise in
    let found = found_out c.new.result c.args.words.now (vec_items ran.answers) ran.board.mode ran.board.port c.new.ensures.tables promise in
    record {
      fresh = c.new.result;
      stands_on = c.new.ensures.below;
      no_line = c.new.ensures.tables;
      promise = promise;
      directory = found.0;
      finds = found.1;
      walked = c.walk_into-walk.ensures;
    }
