-- How a walk over what a source tells ends: where it has taken all, and whether a call of the source failed.
use Rattle.std.specs.Prelude.{◌≡◌, Result, Ok, Err}
use Rattle.std.specs.Io.KnownBytes.{IsAtEnd}
use Rattle.byte_ends.specs.Seen.{Seen, next_count}

-- a walk over all of it has left the source at its end
abbrev pub LeavesAtEnd : {T E : Type 0} → Result T E → Seen → Type 0
LeavesAtEnd (Ok all) source = IsAtEnd source.told
LeavesAtEnd (Err stop) source = Unit {0}

-- where this holds one call of the source failed, and else none
pub record HasCause (faulted : Type 0) (source source' : Seen) : Type 0 where
  pub failed : faulted → source'.faults ≡ next_count source.faults
  pub kept : (faulted → ⊥) → source'.faults ≡ source.faults
