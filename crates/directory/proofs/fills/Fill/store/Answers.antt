use Rattle.std.proofs.Common.{rules}
use Rattle.directory.proofs.Ticking.{left_ordered, left_count, left_adds, new_tick_adds_one}
use Rattle.directory.proofs.fills.Fill.store.Goals as goal

pub returns-clause-sound : goal.returns-clause-sound
returns-clause-sound c = search (rules, left_ordered)

pub returns-clause-count : goal.returns-clause-count
returns-clause-count c = search (rules, left_count)

pub returns-clause-adds : goal.returns-clause-adds
returns-clause-adds c = search (rules, left_adds)

pub returns-clause-law : goal.returns-clause-law
returns-clause-law c = new_tick_adds_one
