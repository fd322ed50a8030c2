use Rattle.std.proofs.Common.{Ok, sym, ◌∙◌}
use Rattle.wire_spec.specs.declared.pad.Pad.TheVariants as pads
use Rattle.data_format.specs.Frames.{Test}
use Rattle.data_format.specs.Views.{body_of, frame_view}
use Rattle.data_format.proofs.Samples.{sample_passes}
use Rattle.data_format.proofs.Unchecked.{without_test, not_refused}
use Rattle.data_format.proofs.sample_body.SampleBody.again.Goals as goal

pub unreachable-requires : goal.unreachable-requires
unreachable-requires g c =
    let test : Test = λ f. g.C.BodyCheck.test c.args._check.now pads.Any f in
    not_refused g.F.HeadForm.members test (body_of (frame_view c.args.frame)) c.requires.passes
    c.in-Err.field-0 c.in-Err.ensures.exact

pub returns : goal.returns
returns g c =
    let test : Test = λ f. g.C.BodyCheck.test c.args._check.now pads.Any f in
    let b = body_of (frame_view c.args.frame) in
    let trees = g.F.HeadForm.trees in
    let members = g.F.HeadForm.members in
    let exact = sym (without_test members test b c.requires.passes) ∙ c.in-Ok.ensures.exact in
    record {
      exact = exact;
      passes = sample_passes trees members pads.Any test b (Ok c.in-Ok.sample) exact;
      ranges = c.in-Ok.ensures.ranges;
      tail = c.in-Ok.ensures.tail;
    }
