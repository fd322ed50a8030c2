use Rattle.std.proofs.Common.{sym, ◌∙◌}
use Rattle.sample_taps.proofs.Feedings.{fed_next, fed_early}
use Rattle.sample_taps.proofs.tap.Tap.take_all.Goals as goal

pub loop-brief-preserved : goal.loop-brief-preserved
loop-brief-preserved g c =
    fed_next g.Self.Tap.step g.Self.Tap.ended c.args.briefs.now c.loop-brief.brief-index _ _ _ _ c.loop-brief-test.true
    c.loop-brief.invariant (sym c.done.ensures ∙ c.if-done.false) c.take.ensures

pub returns-then-done : goal.returns-then-done
returns-then-done g c =
    fed_early g.Self.Tap.step g.Self.Tap.ended c.args.briefs.now c.loop-brief.brief-index _ _ c.loop-brief.invariant
    (sym c.done.ensures ∙ c.if-done.true)
