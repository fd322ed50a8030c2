-- Examples that are computed.
use Rattle.std.proofs.Common.{◌≡◌, ℕ, Bool, true, nat_lt, List, Ok, Err}
use Rattle.std.specs.List.{list_all}
use Rattle.wire_spec.specs.declared.pad.Pad.{Pad}
use Rattle.wire_spec.specs.declared.fault.Fault.{Fault}
use Rattle.wire_spec.specs.Shapes.{Tree}
use Rattle.wire_spec.specs.Tables.{datagram}
use Rattle.wire_spec.specs.Whole.{SpellsWhole, FailsWhole, whole_reading}
use Rattle.wire_spec.proofs.ByteLists.{tested_bytes}
use Rattle.wire_spec.proofs.OneReading.{whole_good, whole_bad}

-- a test for bytes
abbrev pub are_bytes : List ℕ → Bool
are_bytes bytes = list_all (λ b. nat_lt b 256) bytes

-- what a datagram's bytes are read as, they are
pub is_datagram : (p : Pad) (bytes : List ℕ) (t : Tree) → are_bytes bytes ≡ true → whole_reading p datagram bytes ≡ Ok t
    → SpellsWhole p datagram bytes t
is_datagram p bytes t b e = whole_good p datagram bytes t (tested_bytes bytes b) e

pub is_fault : (p : Pad) (bytes : List ℕ) (f : Fault) → are_bytes bytes ≡ true → whole_reading p datagram bytes ≡ Err f
    → FailsWhole p datagram bytes f
is_fault p bytes f b e = whole_bad p datagram bytes f (tested_bytes bytes b) e
