use Rattle.std.proofs.Common.{◌≡◌, ◌≤◌, length, map, take, vec_items, vec_len, vec_capacity}
use Rattle.directory_walk.specs.Walks.{told_of}
use Rattle.directory_walk.proofs.ask_sets.Given as goal

abbrev pub invariant-loop-set : goal.invariant-loop-set
invariant-loop-set g l = record {
  told : vec_items l.told ≡ map (told_of l.cache) (take l.set-index l.sets);
  len : vec_len l.told ≡ l.set-index;
  room : length l.sets ≤ vec_capacity l.told;
}
