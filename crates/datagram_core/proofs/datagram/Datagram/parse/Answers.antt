use Rattle.std.proofs.Common.{arith}
use Rattle.wire_spec.specs.Bytes.{AreBytes}
use Rattle.datagram_core.proofs.Again.{given_length, given_again, given_zero}
use Rattle.datagram_core.proofs.Stand.{given_ranges, given_nested}
use Rattle.datagram_core.proofs.Whole.{given_whole, given_spelled, given_fault}
use Rattle.datagram_core.proofs.datagram.Datagram.parse.Goals as goal

pub returns : goal.returns
returns c =
    let bytes = c.args.bytes.now in
    let p = c.args.pad in
    let r = c.parse_parts.result in
    let fits : AreBytes bytes = λ i. omega (arith, c.type_inv.bytes i) in
    let exact = given_whole p bytes r c.parse_parts.ensures in
    let ranges = given_ranges p bytes r fits c.parse_parts.ensures in
    let spelled = given_spelled p bytes r fits exact in
    record {
      spelled = spelled;
      fault = given_fault p bytes r fits exact;
      exact = exact;
      ranges = ranges;
      nested = given_nested bytes r ranges;
      length = given_length p bytes r spelled;
      again = given_again p bytes r spelled;
      zero = given_zero p bytes r spelled;
    }
