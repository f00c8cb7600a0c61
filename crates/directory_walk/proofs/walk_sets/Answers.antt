use Rattle.directory_walk.proofs.Telling.{every_way_is_told}
use Rattle.directory_walk.proofs.walk_sets.Goals as goal

pub returns-in_err-room-clause-law : goal.returns-in_err-room-clause-law
returns-in_err-room-clause-law g c = every_way_is_told

pub returns-clause-law : goal.returns-clause-law
returns-clause-law g c = every_way_is_told
