-- What the reason for a stop says of what was asked for.
use Rattle.std.specs.Prelude.{◌≡◌, Err, Result}
use Rattle.fault.specs.declared.Fault.{Fault}
use Rattle.calls.specs.declared.error.Stop.{Stop}
use Rattle.calls.specs.declared.error.Stop.TheVariants.{Refused, Memory}

-- A refusal is that of what was asked for; want of memory says nothing of it.
abbrev pub Told : {X : Type 0} → Stop → Result X Fault → Type 0
Told (Refused fault) asked = asked ≡ Err fault
Told Memory asked = Unit {0}
