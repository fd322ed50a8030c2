use Rattle.std.proofs.Common.{◌≡◌, length, take}
use Rattle.sample_taps.specs.Briefs.{briefs_with}
use Rattle.sample_taps.proofs.briefing.briefs_of.Given as goal

abbrev pub invariant-loop-k : goal.invariant-loop-k
invariant-loop-k l = (take l.k l.briefs ≡ take l.k (briefs_with l.rows l.facts)) × (length l.briefs ≡ 16)
