use Rattle.std.proofs.Common.{ℕ, ◌+◌, ◌-◌, List, length, refl, ap, ◌∙◌, arith}
use Rattle.datagram_core.specs.Written.{patch}
use Rattle.datagram_core.proofs.Writing.{be}
use Rattle.datagram_core.proofs.WriterSteps.{closed_after, nested_in}
use Rattle.datagram_core.proofs.writer.DatagramWriter.close_sample.Goals as goal

pub invariant_of-self-2-clause-counted : goal.invariant_of-self-2-clause-counted
invariant_of-self-2-clause-counted c =
    let n = nested_in c.args.self.now c.in-Some.sample c.in-Some.is in
    omega (arith, n.0, n.1, n.2, c.in_ok-self.ensures.ends)

pub returns-clause-has : goal.returns-clause-has
returns-clause-has c = λ h samples s has.
    let old = c.args.self.now in
    let sample = c.in-Some.sample in
    let size = old.len - sample.start - 8 + length c.args.tail.now in
    let with_size : List ℕ → List ℕ = patch (sample.start + 4) (be size) in
    let with_records : List ℕ → List ℕ = patch sample.count_at (be sample.records) in
    let with_samples : List ℕ → List ℕ = patch old.count_at (be (old.samples + 1)) in
    closed_after old _ sample h samples s c.args.tail.now size (old.samples + 1) has c.in-Some.is refl refl
    (c.patch_word-3.ensures.patched ∙ ap with_samples (c.patch_word-2.ensures.patched
    ∙ ap with_records (c.patch_word.ensures.patched ∙ ap with_size c.in_ok-self.ensures.whole)))
    refl refl refl
