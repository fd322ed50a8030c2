-- Bytes all of which are one spelling, as those of a datagram are: at most 65,535, and nothing behind it.
use Rattle.std.specs.Prelude.{
  ◌≡◌,
  ℕ,
  ◌<◌,
  ◌≤◌,
  ◌⊎◌,
  List,
  length,
  Result,
  Ok,
  Err,
  nat_lt,
  ◌==◌,
  if◌then◌else◌,
}
use Rattle.wire_spec.specs.declared.pad.Pad.{Pad}
use Rattle.wire_spec.specs.declared.fault.Fault.{Fault}
use Rattle.wire_spec.specs.declared.fault.FaultKind.TheVariants as kinds
use Rattle.wire_spec.specs.Shapes.{Shape, Tree}
use Rattle.wire_spec.specs.Spells.{Joined, Spells}
use Rattle.wire_spec.specs.Fails.{Remaining, After, Fails}
use Rattle.wire_spec.specs.Reading.{◌>>=◌, reading}

-- the bytes of a datagram, from its first one on
abbrev pub from_start : List ℕ → Remaining
from_start bytes = record { at = 0; bytes = bytes }

abbrev pub trailing : ℕ → ℕ → Fault
trailing at left = record { at = at; kind = kinds.Trailing left }

abbrev pub too_long : Fault
too_long = record { at = 65535; kind = kinds.TooLong }

-- bytes are left behind the spelling
abbrev pub IsTrailing : Remaining → Fault → Type 0
IsTrailing rest f = (0 < length rest.bytes) × (f ≡ trailing rest.at (length rest.bytes))

-- all of the bytes spell this value
abbrev pub SpellsWhole : Pad → Shape → List ℕ → Tree → Type 0
SpellsWhole p s bytes t = (length bytes ≤ 65535) × Spells p s t bytes

-- Too many bytes come before all else. Then the shape fails, or it is spelled and bytes are left.
abbrev pub FailsWhole : Pad → Shape → List ℕ → Fault → Type 0
FailsWhole p s bytes f =
    ((65535 < length bytes) × (f ≡ too_long))
    ⊎ ((length bytes ≤ 65535) × (Fails p s (from_start bytes) f
    ⊎ ((t : Tree) × After (Spells p s t) IsTrailing (from_start bytes) f)))

-- a front of the bytes spells a value, and this is the rest
abbrev pub SpellsFront : Pad → Shape → List ℕ → Tree × List ℕ → Type 0
SpellsFront p s bytes x = Joined (Spells p s x.0) (λ rest. rest ≡ x.1) bytes

-- ---- the same as a function

-- nothing may be left
abbrev pub at_end : {A : Type 0} → A × Remaining → Result A Fault
at_end x = if length x.1.bytes == 0 then Ok x.0 else Err (trailing x.1.at (length x.1.bytes))

abbrev pub whole_reading : Pad → Shape → List ℕ → Result Tree Fault
whole_reading p s bytes =
    if nat_lt 65535 (length bytes) then Err too_long else (reading p s (from_start bytes) >>= at_end)
