use Rattle.joined_map.proofs.Sides.{each_side_gets_its_own}
use Rattle.joined_map.proofs.JoinedMap.new.Goals as goal

pub returns-clause-run : goal.returns-clause-run
returns-clause-run g c = each_side_gets_its_own
