-- Which writes a port takes.
use Rattle.std.specs.Prelude.{◌≡◌, List, [], ◌∷◌, Ok}
use Rattle.std.specs.Coded.{×_prop, Unit-prop}
use Rattle.std.proofs.Props.{props}
use Rattle.port.specs.declared.Store.{Store}
use Rattle.port.specs.Memory.{Facts}
use Rattle.port.specs.Meaning.{writable}

-- Each of the writes is one that a port with these facts takes.
abbrev pub Takes : Facts → List Store → Type 0
Takes f [] = Unit {0}
Takes f (w ∷ ws) = (writable w.word w.lanes f.words f.floor ≡ Ok tt) × Takes f ws

pub Takes-prop : (f : Facts) (ws : List Store) → IsProp (Takes f ws)
Takes-prop f [] = Unit-prop
Takes-prop f (w ∷ ws) = ×_prop (hlevel props) (Takes-prop f ws)
