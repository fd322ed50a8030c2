use Rattle.wire_spec.specs.Fails.{Remaining}
use Rattle.wire_spec.specs.Tables.{extended_gateway}
use Rattle.data_format.proofs.Records.{record_spelled}
use Rattle.rec_extended.specs.RouteContents.{gateway_content}
use Rattle.rec_extended.proofs.ListRanges.{given_lists}
use Rattle.rec_extended.proofs.gateway.GatewayRecRecordBody.within.Goals as goal

pub returns-clause-slices : goal.returns-clause-slices
returns-clause-slices c =
    let p = c.args.pad in
    let b : Remaining = record { at = c.args.at; bytes = c.args.body.now } in
    let r = c.fields.result in
    given_lists p b.bytes r (record_spelled gateway_content extended_gateway p b r c.fields.ensures.bytes c.fields.ensures.exact)
