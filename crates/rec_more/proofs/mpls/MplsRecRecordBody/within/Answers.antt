use Rattle.wire_spec.specs.Fails.{Remaining}
use Rattle.wire_spec.specs.Tables.{extended_mpls}
use Rattle.data_format.proofs.Records.{record_spelled}
use Rattle.rec_more.specs.Contents.{mpls_content}
use Rattle.rec_more.proofs.Slices.{given_stacks}
use Rattle.rec_more.proofs.mpls.MplsRecRecordBody.within.Goals as goal

pub returns-clause-slices : goal.returns-clause-slices
returns-clause-slices c =
    let p = c.args.pad in
    let b : Remaining = record { at = c.args.at; bytes = c.args.body.now } in
    let r = c.fields.result in
    given_stacks p b.bytes r (record_spelled mpls_content extended_mpls p b r c.fields.ensures.bytes c.fields.ensures.exact)
