-- A question about a set and a way.
use Rattle.std.proofs.Common.{ℕ, ap, Option}
use Rattle.std.specs.Prelude.{ok_or}
use Rattle.port.specs.Meaning.{past_end}
use Rattle.directory.specs.declared.directory.questions.WayState.{WayState}
use Rattle.directory.specs.Dirs.{Dir}
use Rattle.directory.proofs.Telling.{tells_what_stands}
use Rattle.cache.specs.Doing.{WaysAreToldOrRefused}

pub ways_are_told_or_refused : (d : Dir) (floor : ℕ) → WaysAreToldOrRefused d floor
ways_are_told_or_refused d floor = record {
  told = λ set way s e. ap (λ (o : Option WayState). ok_or o (past_end set floor)) e;
  no_set = λ set way h. ap (λ (o : Option WayState). ok_or o (past_end set floor)) ((tells_what_stands d).no_set set way h);
  no_way = λ set way h. ap (λ (o : Option WayState). ok_or o (past_end set floor)) ((tells_what_stands d).no_way set way h);
}
