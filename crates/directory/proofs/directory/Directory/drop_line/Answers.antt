use Rattle.std.proofs.Common.{◌≡◌, set, None, ap, ◌∙◌, rules}
use Rattle.directory.specs.Dirs.{view_of, set_of, put, dropped_of}
use Rattle.directory.proofs.Apart.{apart_dropped}
use Rattle.directory.proofs.Changing.{after-drop, apart_as, drop_forgets_as}
use Rattle.directory.proofs.directory.Directory.drop_line.Goals.{After-invalidate, at-returns-in-Some}
use Rattle.directory.proofs.directory.Directory.drop_line.Goals as goal

after : (c : After-invalidate) → view_of (set c.args.self.now.sets c.set_of.result c.invalidate.new.self) ≡ put (view_of c.args.self.now.sets) (set_of c.args.line) c.in-Some.way None
after c = search (rules, after-drop)

pub invariant_of-self : goal.invariant_of-self
invariant_of-self c = record { apart = apart_as _ _ (after c) (apart_dropped (view_of c.args.self.now.sets) c.args.line c.in-Some.way c.args.self.now.apart) }

pub returns-in-Some : goal.returns-in-Some
returns-in-Some c =
    let e = after (at-returns-in-Some c).After-invalidate ∙ ap (dropped_of (view_of c.args.self.now.sets) c.args.line) c.in-Some.ensures.value in
    record { after = e; law = drop_forgets_as (view_of c.args.self.now.sets) _ c.args.line c.args.self.now.apart e }
