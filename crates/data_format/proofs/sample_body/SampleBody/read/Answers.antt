use Rattle.data_format.specs.Frames.{Test}
use Rattle.data_format.specs.Views.{body_of, frame_view}
use Rattle.data_format.proofs.Samples.{sample_spelled, sample_fault, sample_passes, sample_ranges, sample_tail}
use Rattle.data_format.proofs.sample_body.SampleBody.read.Goals as goal

pub returns : goal.returns
returns g c =
    let p = c.args.pad in
    let test : Test = λ f. g.C.BodyCheck.test c.args.check.now p f in
    let b = body_of (frame_view c.args.frame) in
    let r = c.within.result in
    let fits = c.within.ensures.bytes in
    let exact = c.within.ensures.exact in
    let trees = g.F.HeadForm.trees in
    let members = g.F.HeadForm.members in
    record {
      exact = exact;
      form = c.within.ensures.form;
      spelled = sample_spelled trees members p test b r fits exact;
      fault = sample_fault trees members p test b r fits exact;
      passes = sample_passes trees members p test b r exact;
      ranges = sample_ranges trees members p test b r fits exact;
      tail = sample_tail trees members p test b r fits exact;
    }
