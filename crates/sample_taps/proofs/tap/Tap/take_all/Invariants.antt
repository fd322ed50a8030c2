use Rattle.std.proofs.Common.{take}
use Rattle.sample_taps.specs.Feeding.{Fed}
use Rattle.sample_taps.proofs.tap.Tap.take_all.Given as goal

abbrev pub invariant-loop-brief : goal.invariant-loop-brief
invariant-loop-brief g l = Fed g.Self.Tap.step g.Self.Tap.ended (take l.brief-index l.briefs) l.initial.self l.self
