use Rattle.std.proofs.Common.{◌+◌, ℕ, List, refl, ap, ◌∙◌}
use Rattle.wire_spec.specs.Shapes.{other}
use Rattle.data_format.specs.Views.{format_word}
use Rattle.datagram_core.specs.Written.{patch}
use Rattle.datagram_core.proofs.Writing.{be}
use Rattle.datagram_core.proofs.WriterSteps.{kept_after}
use Rattle.datagram_core.proofs.writer.DatagramWriter.push_other.Goals as goal

pub returns-clause-has : goal.returns-clause-has
returns-clause-has c = λ h samples has.
    let old = c.args.self.now in
    let t = other (format_word c.args.format) c.args.body.now in
    kept_after old _ h samples t (old.samples + 1) has refl
    (c.patch_word.ensures.patched ∙ ap (λ (l : List ℕ). patch old.count_at (be (old.samples + 1)) l) c.in_ok-self.ensures.whole)
    refl refl refl
