use Rattle.directory.specs.View.{view}
use Rattle.cache_tables.proofs.Answering.{hit_value}
use Rattle.cache_tables.proofs.tables.Tables.hit.Goals as goal

pub returns-clause-value : goal.returns-clause-value
returns-clause-value c =
    hit_value (view c.args.self.now.directory) (view c.touch.new.self) c.args.word c.in_ok-number.number c.word.result
    c.in_ok-number.ensures.value c.touch.ensures.after c.word.ensures
