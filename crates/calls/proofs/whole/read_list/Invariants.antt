use Rattle.std.proofs.Common.{◌≡◌, ◌-◌, ◌/◌, length, vec_items}
use Rattle.calls.specs.Format.{meaning}
use Rattle.calls.proofs.Reading.{onto, rest}
use Rattle.calls.proofs.whole.read_list.Given as goal

abbrev pub invariant-loop-calls : goal.invariant-loop-calls
invariant-loop-calls l =
    (l.reader.bytes.now ≡ l.bytes) ×
    (meaning l.bytes ≡ onto (vec_items l.calls) (rest l.reader.index l.bytes))

abbrev pub decreases-loop-calls : goal.decreases-loop-calls
decreases-loop-calls l = length l.bytes / 4 - l.reader.index
