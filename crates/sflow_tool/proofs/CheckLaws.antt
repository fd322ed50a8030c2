-- What `check` says of an entry, in the words of the grammar.
use Rattle.std.proofs.Common.{◌≡◌, ℕ, true, [], Result, Ok, Err, refl, ap}
use Rattle.wire_spec.specs.declared.fault.Fault.{Fault}
use Rattle.wire_spec.specs.declared.pad.Pad.{Pad}
use Rattle.wire_spec.specs.Bytes.{AreBytes}
use Rattle.capture_spec.specs.Items.{Received}
use Rattle.wire_spec.specs.Shapes.{Tree}
use Rattle.wire_spec.specs.Whole.{FailsWhole, SpellsWhole, whole_reading}
use Rattle.wire_spec.proofs.OneReading.{whole_bad, whole_refused, whole_taken}
use Rattle.datagram_core.specs.Tables.{datagram_read}
use Rattle.sflow_tool.specs.Checks.{check_line, is_fault, is_faulty, reading_line}
use Rattle.sflow_tool.specs.Faults.{fault_line}

pub datagram_line : (p : Pad) (number : ℕ) (e : Received) (t : Tree) → SpellsWhole p datagram_read e.bytes t
    → check_line p number e ≡ []
unfolding check_line
datagram_line p number e t spelled = ap (reading_line number) (whole_taken p datagram_read e.bytes t spelled)

pub faulty_line : (p : Pad) (number : ℕ) (e : Received) (f : Fault) → FailsWhole p datagram_read e.bytes f
    → check_line p number e ≡ fault_line number f
unfolding check_line
faulty_line p number e f fails = ap (reading_line number) (whole_refused p datagram_read e.bytes f fails)

fault_read : (r : Result Tree Fault) → is_fault r ≡ true → (f : Fault) × (r ≡ Err f)
fault_read (Ok t) e = absurd cc
fault_read (Err f) e = (f, refl)

pub faulty_fails : (p : Pad) (e : Received) → AreBytes e.bytes → is_faulty p e ≡ true
    → (f : Fault) × FailsWhole p datagram_read e.bytes f
unfolding is_faulty
faulty_fails p e are is =
    let found = fault_read (whole_reading p datagram_read e.bytes) is in
    (found.0, whole_bad p datagram_read e.bytes found.0 are found.1)

pub fails_faulty : (p : Pad) (e : Received) (f : Fault) → FailsWhole p datagram_read e.bytes f → is_faulty p e ≡ true
unfolding is_faulty
fails_faulty p e f fails = ap is_fault (whole_refused p datagram_read e.bytes f fails)
