use Rattle.std.proofs.Common.{◌≡◌, set, rules}
use Rattle.directory.specs.Dirs.{view_of, installed}
use Rattle.directory.proofs.Apart.{apart_installed}
use Rattle.directory.proofs.Changing.{after_install, apart_as, install_keeps_as}
use Rattle.directory.proofs.directory.Directory.install.Goals.{After-install, at-returns}
use Rattle.directory.proofs.directory.Directory.install.Goals as goal

after : (c : After-install) → view_of (set c.args.self.now.sets c.set_of.result c.install.new.self) ≡ installed (view_of c.args.self.now.sets) c.args.line c.args.way c.args.protect c.args.words
after c = search (rules, after_install)

pub invariant_of-self : goal.invariant_of-self
invariant_of-self c = record { apart = apart_as _ _ (after c) (apart_installed (view_of c.args.self.now.sets) c.args.line c.args.way c.args.protect c.args.words c.args.self.now.apart c.requires) }

pub returns : goal.returns
returns c =
    let a = after (at-returns c).After-install in
    record {
      after = a;
      law = install_keeps_as (view_of c.args.self.now.sets) _ c.args.line c.args.way c.args.protect c.args.words c.args.self.now.apart c.requires a;
    }
