use Rattle.std.proofs.Common.{refl, sym, subst}
use Rattle.directory.specs.Laws.{TagsAreApart}
use Rattle.directory.proofs.Views.{view_empty}
use Rattle.directory.proofs.Apart.{apart_emptied}
use Rattle.directory.proofs.directory.Directory.new.Goals as goal

pub invariant_of-result : goal.invariant_of-result
invariant_of-result c = record { apart = subst TagsAreApart (sym view_empty) apart_emptied }

pub returns : goal.returns
returns c = record { value = view_empty; law = refl }
