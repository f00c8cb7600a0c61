use Rattle.std.proofs.Common.{◌≡◌, set, rules}
use Rattle.directory.specs.Dirs.{view_of, changed}
use Rattle.directory.proofs.Apart.{apart_changed}
use Rattle.directory.proofs.Changing.{after_change, apart_as, change_moves_none_as}
use Rattle.directory.proofs.directory.Directory.change.Goals.{After-change, at-returns}
use Rattle.directory.proofs.directory.Directory.change.Goals as goal

after : (c : After-change) → view_of (set c.args.self.now.sets c.set_of.result c.change.new.self) ≡ changed (view_of c.args.self.now.sets) c.args.word c.args.way c.args.value
after c = search (rules, after_change)

pub invariant_of-self : goal.invariant_of-self
invariant_of-self c = record { apart = apart_as _ _ (after c) (apart_changed (view_of c.args.self.now.sets) c.args.word c.args.way c.args.value c.args.self.now.apart) }

pub returns : goal.returns
returns c =
    let a = after (at-returns c).After-change in
    record { after = a; law = change_moves_none_as (view_of c.args.self.now.sets) _ c.args.word c.args.way c.args.value a }
