use Rattle.std.proofs.Common.{arith}
use Rattle.wire_spec.specs.Bytes.{AreBytes}
use Rattle.xdr_words.specs.Readers.{remaining}
use Rattle.as_paths.proofs.Paths.{path_ended}
use Rattle.as_paths.proofs.path.AsPath.cut.Goals as goal

pub invariant_of-result : goal.invariant_of-result
invariant_of-result c =
    let ok = c.in_ok-pass_segments.ensures.ok in
    let fits : AreBytes c.args.bytes.now = λ i. omega (arith, c.type_inv.bytes i) in
    let read = rw c.new-cursor.ensures at ok.1 in
    let ended = path_ended c.args.count c.args.bytes.now (remaining c.pass_segments.new.cursor) ok.0 fits read
    (omega (arith, c.left.ensures, c.if-left-gt0.false)) in
    (omega (arith, c.requires), fits, ended.0)

pub returns : goal.returns
returns c =
    let ok = c.in_ok-pass_segments.ensures.ok in
    let fits : AreBytes c.args.bytes.now = λ i. omega (arith, c.type_inv.bytes i) in
    let read = rw c.new-cursor.ensures at ok.1 in
    let ended = path_ended c.args.count c.args.bytes.now (remaining c.pass_segments.new.cursor) ok.0 fits read
    (omega (arith, c.left.ensures, c.if-left-gt0.false)) in
    ended.2
