use Rattle.std.proofs.Common.{sym, subst}
use Rattle.byte_ends.specs.Unread.{unread}
use Rattle.sflow_io.specs.CaptureAnswers.{ReaderState}
use Rattle.sflow_io.specs.CaptureSteps.{IsBehind}
use Rattle.sflow_io.proofs.CaptureSteps.{within_given}
use Rattle.sflow_io.proofs.capture_reader.CaptureReader.go_on.Goals as goal

pub returns-clause-given : goal.returns-clause-given
returns-clause-given g c = λ bytes entries are behind.
    let before =
    subst
    (λ (r : ReaderState). IsBehind c.args.version entries bytes c.args.count c.args.offset (unread r.held (g.S.Source.seen c.args.source.now)))
    (sym c.self.view_is) behind in
    let read = c.read_within-answer.ensures in
    rw c.stage_behind-self-inside.ensures.after
    (within_given c.args.version bytes entries c.args.count c.args.offset _ _ _ _ _ are before read.told read.stops)
