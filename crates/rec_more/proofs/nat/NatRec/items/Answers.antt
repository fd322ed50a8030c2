use Rattle.std.proofs.Common.{◌≤◌, length, arith}
use Rattle.wire_spec.specs.Heads.{address_tree}
use Rattle.wire_spec.specs.Spelling.{spell, padded}
use Rattle.data_format.specs.Addresses.{address_of}
use Rattle.rec_more.proofs.Bodies.{nat_fields}
use Rattle.rec_more.proofs.nat.NatRec.items.Goals as goal

pub returns : goal.returns
returns c =
    let r = c.args.self.now in
    let source = c.address_parts-source in
    let destination = c.address_parts-destination in
    let source_fits : length source.result.bytes.now ≤ 65535 = omega (arith, source.ensures.most) in
    let destination_fits : length destination.result.bytes.now ≤ 65535 = omega (arith, destination.ensures.most) in (
      nat_fields source.result.kind (padded source.result.bytes.now) (spell (address_tree (address_of r.src)))
          destination.result.kind (padded destination.result.bytes.now) (spell (address_tree (address_of r.dst)))
          source.ensures.spelled destination.ensures.spelled,
      (tt, (source_fits, (tt, (destination_fits, tt)))),
      (source.ensures.lawful, (destination.ensures.lawful, tt)),
    )
