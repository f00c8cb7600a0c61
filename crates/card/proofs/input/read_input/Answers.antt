use Rattle.card.proofs.Reading.{first_bytes}
use Rattle.card.proofs.input.read_input.Goals as goal

pub returns : goal.returns
returns g c = first_bytes g.R.Read.remaining c.take.result c.args.reader _ _ _ c.take.ensures.limit c.take.ensures.inner c.new-list.ensures.items c.in_ok-read_to_end.ensures.bytes
