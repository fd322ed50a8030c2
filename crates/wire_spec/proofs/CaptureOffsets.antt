-- Where faults stand.
use Rattle.std.proofs.Common.{ℕ, ◌≤◌, List, [], ◌∷◌, ◌++◌, length, replicate, ap, arith, length-append}
use Rattle.wire_spec.specs.declared.input_kind.InputKind.{InputKind}
use Rattle.wire_spec.specs.declared.input_kind.InputKind.TheVariants.{Magic, Version, Cut, Long, Padding}
use Rattle.wire_spec.specs.Captures.{entry_head, magic, capture_bytes, IsLongEntry, IsBadPadding, IsBroken, BreaksOff, CaptureFault}
use Rattle.wire_spec.proofs.ZeroBytes.{length_zeros}
use Rattle.wire_spec.proofs.EntryHeads.{length-entry_head}

long_within : (rest : List ℕ) → IsLongEntry rest → 8 ≤ length rest
long_within rest (arrival, n, time, large, word, (tail, e)) =
    omega (arith, ap length e, length-append (entry_head arrival n) tail, length-entry_head arrival n)

padding_within : (rest : List ℕ) (within : ℕ) → IsBadPadding rest within → within ≤ length rest
padding_within rest within h =
    let n = length h.entry.bytes in
    let head = entry_head h.entry.arrival n in
    let zeros : List ℕ = replicate h.zeros 0 in
    let end : List ℕ = h.stray ∷ [] in
    omega (
      arith,
      h.place,
      ap length h.begins.1,
      length-append (head ++ (h.entry.bytes ++ (zeros ++ end))) h.begins.0,
      length-append head (h.entry.bytes ++ (zeros ++ end)),
      length-append h.entry.bytes (zeros ++ end),
      length-append zeros end,
      length-entry_head h.entry.arrival n,
      length_zeros h.zeros,
    )

broken_within : (rest : List ℕ) (within : ℕ) (kind : InputKind) → IsBroken rest within kind
    → within ≤ length rest
broken_within rest within Cut h = omega (arith, h.0)
broken_within rest within Long h = omega (arith, h.0, long_within rest h.1)
broken_within rest within Padding h = padding_within rest within h
broken_within rest within _ h = absurd h

breaks_within : (bytes : List ℕ) (at : ℕ) (kind : InputKind) → BreaksOff bytes at kind → at ≤ length bytes
breaks_within bytes at kind h =
    omega (
      arith,
      h.place,
      ap length h.before.whole,
      length-append (capture_bytes h.entries) h.rest,
      broken_within h.rest h.within kind h.broken,
    )

-- a fault's offset is at most the number of bytes
pub fault_within : (bytes : List ℕ) (at : ℕ) (kind : InputKind) → CaptureFault bytes at kind
    → at ≤ length bytes
fault_within bytes at Magic h = omega (arith, h.0)
fault_within bytes at Version h = omega (arith, h.0, ap length h.1.1, length-append magic h.1.0)
fault_within bytes at Cut h = breaks_within bytes at Cut h
fault_within bytes at Long h = breaks_within bytes at Long h
fault_within bytes at Padding h = breaks_within bytes at Padding h
fault_within bytes at _ h = absurd h
