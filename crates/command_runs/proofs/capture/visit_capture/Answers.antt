use Rattle.std.proofs.Common.{ap, sym, ◌∙◌}
use Rattle.command_runs.proofs.CaptureRuns.{finished, refused, write_failed}
use Rattle.command_runs.proofs.Walked.{waits_by}
use Rattle.command_runs.proofs.capture.visit_capture.Goals as goal

pub returns-in-Ok-visit_entries : goal.returns-in-Ok-visit_entries
returns-in-Ok-visit_entries g c = λ command does.
    let seen = c.in-Ok-visit_entries.ensures.visits in
    finished command (g.V.EntryVisitor.does c.args.visitor.now) does _ _ _ _ _ _ _ c.new-page.ensures
    (g.V.EntryVisitor.visited c.visit_entries.new.visitor) c.in-Ok-visit_entries.counts seen
    c.in-Ok-visit_entries.ensures.at_end c.in-Ok-visit_entries.ensures.cause _
    (c.in-Ok-visit_entries.ensures.same (λ e. cc)) _ (c.finish.ensures seen.entries seen.were)

pub stop-requires : goal.stop-requires
stop-requires g c = λ waits.
    let same = (rw c.in-Err-Read.field-0-is at c.in-Err-Read.ensures.same) (λ e. cc) in
    (c.in-Err-Read.ensures.waits (waits_by _ _ (sym same) waits)).2 ∙ c.new-page.ensures

pub returns-in-Err-Read : goal.returns-in-Err-Read
returns-in-Err-Read g c = λ command does.
    let seen = rw c.in-Err-Read.field-0-is at c.in-Err-Read.ensures.visits in
    let cause = rw c.in-Err-Read.field-0-is at c.in-Err-Read.ensures.cause in
    let same = (rw c.in-Err-Read.field-0-is at c.in-Err-Read.ensures.same) (λ e. cc) in
    refused command (g.V.EntryVisitor.does c.args.visitor.now) does _ _ _ _ _ _ _ c.new-page.ensures _ _ _
    c.status_of.ensures seen cause c.stop.ensures.flushed
    (λ waits.
    let stop = c.stop.ensures.waits (waits_by _ _ same waits) in
    (stop.0, ap (λ s. (g.K.Sink.seen s).told) (stop.1 ∙ (c.in-Err-Read.ensures.waits waits).1)))

pub returns : goal.returns
returns g c = λ command does.
    let seen = rw c.in-Err-Write.field-0-is at c.in-Err-Write.ensures.visits in
    let cause = rw c.in-Err-Write.field-0-is at c.in-Err-Write.ensures.cause in
    write_failed command (g.V.EntryVisitor.does c.args.visitor.now) does _ _ _ _ (g.K.Sink.seen c.args.sink.now) _ _
    c.new-page.ensures seen cause
