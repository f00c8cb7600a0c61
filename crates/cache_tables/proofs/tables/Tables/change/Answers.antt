use Rattle.std.proofs.Common.{rules}
use Rattle.directory.specs.View.{view}
use Rattle.cache_tables.proofs.Answering.{write_after, open_changed, shut_kept}
use Rattle.cache_tables.proofs.tables.Tables.change.Goals as goal

pub returns-in_default-open : goal.returns-in_default-open
returns-in_default-open c =
    write_after c.args.write c.in-Some.number (view c.args.self.now.directory) (view c.touch.new.self) (view c.touch.new.self) c.args.self.now.fill c.way.result
    c.in-Some.ensures.value c.touch.ensures.after c.way.ensures (shut_kept _ c.args.write c.in-Some.number c.way.result (search rules))

pub returns-in-Some-open : goal.returns-in-Some-open
returns-in-Some-open c =
    write_after c.args.write c.in-Some.number (view c.args.self.now.directory) (view c.touch.new.self) (view c.change.new.self) c.args.self.now.fill c.way.result
    c.in-Some.ensures.value c.touch.ensures.after c.way.ensures (open_changed _ _ c.args.write c.in-Some.number c.way.result c.in-Some-open.way (search rules) (search rules))
