-- What the port below a cache gets in a run of calls.
use Rattle.std.specs.Prelude.{List, flat_map}
use Rattle.port.specs.declared.Port.{Ghosts}
use Rattle.port.specs.Steps.{Step, Chain, accepted, Gets}
use Rattle.cache.specs.declared.cache.Cache.{Cache}
use Rattle.cache.specs.Doing.{Does}

-- However a cache is called, whatever is no read goes through to the port below, each call once and in order; a cache adds nothing but reads.
abbrev pub OnlyReadsAreKept : {P : Type 0} → Ghosts P → Type 0
OnlyReadsAreKept {P} G =
    (b c : Cache P G) (ds : List Step) → Chain Does b ds c → Gets G.does accepted (flat_map accepted ds) b.below c.below
