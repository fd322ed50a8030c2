use Rattle.std.proofs.Common.{Option, refl, sym, subst, arith}
use Rattle.datagram_core.specs.Records.{record_tree}
use Rattle.datagram_core.specs.Writers.{OfKind}
use Rattle.datagram_core.specs.declared.writer.OpenSample.{OpenSample}
use Rattle.datagram_core.proofs.Frames.{format_fits}
use Rattle.datagram_core.proofs.WriterSteps.{pushed_after, nested_in}
use Rattle.datagram_core.proofs.writer.DatagramWriter.push_record.Goals as goal

pub append_record-requires-clause-format : goal.append_record-requires-clause-format
append_record-requires-clause-format c =
    let kind = c.in-Some.sample.kind in
    let P : Option OpenSample → Type 0 = OfKind kind in
    format_fits kind c.args.item.now (c.requires.kind kind (subst P (sym c.in-Some.is) refl))

pub invariant_of-self-2-clause-nested : goal.invariant_of-self-2-clause-nested
invariant_of-self-2-clause-nested c =
    let n = nested_in c.args.self.now c.in-Some.sample c.in-Some.is in
    let size = c.frame_length.ensures in
    (n.0, n.1, omega (arith, n.2, size.exact, size.least, c.in_ok-self.ensures.ends), n.3)

pub returns-clause-pushed : goal.returns-clause-pushed
returns-clause-pushed c = λ h samples s has.
    pushed_after c.args.self.now _ c.in-Some.sample h samples s (record_tree c.args.item.now) has c.in-Some.is
    c.in_ok-self.ensures.whole refl refl refl
