-- The bytes so far are zero: those that are left decide.
use Rattle.std.proofs.Common.{◌≡◌, ◌+◌, drop}
use Rattle.wire_spec.specs.Reading.{zeros_at}
use Rattle.xdr_words.proofs.cursor.check_padding.Given as goal

abbrev pub invariant-loop-i : goal.invariant-loop-i
invariant-loop-i l = zeros_at (l.at + l.i) (drop l.i l.bytes) ≡ zeros_at l.at l.bytes
