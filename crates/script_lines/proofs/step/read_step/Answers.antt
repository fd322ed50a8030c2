use Rattle.script_lines.proofs.TextLines.{line_is, long_is, tells_line}
use Rattle.script_lines.proofs.step.read_step.Goals as goal

pub returns-in-Line-clause-told : goal.returns-in-Line-clause-told
returns-in-Line-clause-told g c = λ bytes told.
    let read = rw c.in-Line.is at c.in_ok-len.ensures.gives in
    tells_line _ _ _ _ _ (g.S.Source.seen c.read_text.new.source).told _ (line_is _ _ bytes _ told read.0) c.classify.ensures.shape c.classify.ensures.bounds

pub returns-in-Long-clause-told : goal.returns-in-Long-clause-told
returns-in-Long-clause-told g c = λ bytes told.
    let read = rw c.in-Long.is at c.in_ok-len.ensures.gives in
    long_is _ _ _ _ bytes told read
