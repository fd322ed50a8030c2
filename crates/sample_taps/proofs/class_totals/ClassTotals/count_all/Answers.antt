use Rattle.std.proofs.Common.{rules}
use Rattle.sample_taps.proofs.Passings.{next_counted}
use Rattle.sample_taps.proofs.class_totals.ClassTotals.count_all.Goals as goal

pub loop-brief-preserved : goal.loop-brief-preserved
loop-brief-preserved c =
    next_counted c.args.self.now c.loop-brief.self c.count.new.self c.args.briefs.now c.loop-brief.brief-index _
    (search rules) c.loop-brief.invariant c.count.ensures
