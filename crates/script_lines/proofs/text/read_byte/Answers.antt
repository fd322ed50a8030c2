use Rattle.std.proofs.Common.{arith}
use Rattle.script_lines.proofs.TextLines.{none_given, end_of_source}
use Rattle.script_lines.proofs.text.read_byte.Goals as goal

pub returns-then-branch-eq0-clause-gives : goal.returns-then-branch-eq0-clause-gives
returns-then-branch-eq0-clause-gives g c =
    let r = c.in_ok-read_most.ensures.reads in
    let zero = c.if-branch-eq0.true in
    let at_end = r.all (omega arith) in
    (none_given _ _ _ _ zero r.given.consumed, at_end, end_of_source _ _ at_end)
