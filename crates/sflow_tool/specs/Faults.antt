-- The lines that name a fault.
use Rattle.std.specs.Prelude.{ℕ, List, [], ◌∷◌, codes, decimal}
use Rattle.std.specs.List.{concat}
use Rattle.wire_spec.specs.declared.fault.Fault.{Fault}
use Rattle.wire_spec.specs.FaultNames.{fault_name}

-- an entry, and the place and the name of its fault
unfoldable pub fault_line : ℕ → Fault → List ℕ
fault_line number f = concat (
    codes "entry " ∷ decimal number ∷
    codes " at " ∷ decimal f.at ∷
    codes " kind " ∷ fault_name f.kind ∷
    codes "\n" ∷ [])
