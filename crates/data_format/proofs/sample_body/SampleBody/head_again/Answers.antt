use Rattle.std.proofs.Common.{◌≡◌, Ok, Err}
use Rattle.wire_spec.specs.declared.pad.Pad.TheVariants as pads
use Rattle.wire_spec.specs.Reading.{members_at}
use Rattle.xdr_words.specs.Readers.{remaining}
use Rattle.data_format.specs.Frames.{Test}
use Rattle.data_format.specs.Views.{body_of, frame_view}
use Rattle.data_format.proofs.HeadsAlone.{head_there, head_found}
use Rattle.data_format.proofs.sample_body.SampleBody.head_again.Goals as goal

pub unreachable-requires : goal.unreachable-requires
unreachable-requires g c =
    let test : Test = λ f. g.C.BodyCheck.test c.args._check.now pads.Any f in
    let members = g.F.HeadForm.members in
    let b = body_of (frame_view c.args.frame) in
    let e : members_at pads.Any members b ≡ Err c.in-Err.field-0 = rw c.within-cursor.ensures at c.in-Err.ensures.exact.0 in
    head_there members test b c.in-Err.field-0 c.requires.passes e

pub returns-clause-exact : goal.returns-clause-exact
returns-clause-exact g c =
    let test : Test = λ f. g.C.BodyCheck.test c.args._check.now pads.Any f in
    let members = g.F.HeadForm.members in
    let b = body_of (frame_view c.args.frame) in
    let values = g.F.HeadForm.trees c.in-Ok.head in
    let e : members_at pads.Any members b ≡ Ok (values, remaining c.take.new.cursor) =
    rw c.within-cursor.ensures at c.in-Ok.ensures.exact.0 in
    head_found members test b (values, remaining c.take.new.cursor) c.requires.passes e
