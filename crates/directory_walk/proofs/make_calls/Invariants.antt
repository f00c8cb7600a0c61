use Rattle.std.proofs.Common.{◌≡◌, ◌∷◌, take, vec_items}
use Rattle.std.specs.List.{flat_map}
use Rattle.calls.specs.declared.call.Call.TheVariants.{Flush}
use Rattle.directory_walk.specs.StartUp.{fill}
use Rattle.directory_walk.proofs.make_calls.Given as goal

abbrev pub invariant-loop-word : goal.invariant-loop-word
invariant-loop-word l = vec_items l.calls ≡ Flush ∷ flat_map fill (take l.word-index l.words)
