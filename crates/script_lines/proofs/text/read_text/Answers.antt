use Rattle.std.proofs.Common.{arith, length-take-le}
use Rattle.script_lines.proofs.TextLines.{long_line}
use Rattle.script_lines.proofs.text.read_text.Goals as goal

pub returns-in-Some-2-clause-gives : goal.returns-in-Some-2-clause-gives
returns-in-Some-2-clause-gives g c =
    let before = c.loop-len.invariant in
    let read = rw c.in-Some-2.is at c.in_ok-byte.ensures.gives in
    let size = before.size in
    let full = c.loop-len-test.false in
    let within = before.within in
    long_line _ _ _ _ _ before.taken read before.inside c.if-byte-ne10.true
    (omega (arith, size, full, within, length-take-le c.loop-len.len c.loop-len.room (omega arith)))
