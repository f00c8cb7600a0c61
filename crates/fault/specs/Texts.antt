-- How a refusal is written.
use Rattle.std.specs.Prelude.{ℕ, List, ◌++◌, codes, decimal}
use Rattle.fault.specs.declared.Fault.{Fault}
use Rattle.fault.specs.Numbers.{number_of}

abbrev pub fault_text : Fault → List ℕ
fault_text fault =
    codes "refused " ++ (decimal (number_of fault.refusal) ++ (codes " at " ++ (decimal fault.place ++ (codes " floor " ++ decimal fault.floor))))
