use Rattle.std.proofs.Common.{arith}
use Rattle.wire_spec.specs.Bytes.{AreBytes}
use Rattle.as_paths.proofs.OnePath.{over_spelled, over_fails}
use Rattle.as_paths.proofs.path.AsPath.over.Goals as goal

pub returns : goal.returns
returns c =
    let n = c.args.count in
    let bytes = c.args.bytes.now in
    let fits : AreBytes bytes = λ i. omega (arith, c.type_inv.bytes i) in
    record {
      segments = c.cut.ensures;
      spelled = over_spelled n bytes c.cut.result fits c.cut.ensures;
      fault = over_fails n bytes c.cut.result fits c.cut.ensures;
    }
