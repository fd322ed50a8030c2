use Rattle.data_format.specs.Views.{body_of, frame_view}
use Rattle.data_format.proofs.Records.{record_spelled, record_fault, record_tail}
use Rattle.data_format.proofs.record_body.RecordBody.read.Goals as goal

pub returns : goal.returns
returns g c =
    let R = g.Self.RecordBody in
    let b = body_of (frame_view c.args.frame) in
    let p = c.args.pad in
    let r = c.within.result in
    let fits = c.within.ensures.bytes in
    record {
      exact = c.within.ensures.exact;
      spelled = record_spelled R.content R.shape p b r fits c.within.ensures.exact;
      fault = record_fault R.content R.shape p b r fits c.within.ensures.exact;
      slices = c.within.ensures.slices;
      tail = record_tail R.content R.shape p b r fits c.within.ensures.exact;
    }
