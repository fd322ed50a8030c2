use Rattle.std.proofs.Common.{◌≡◌, map, take}
use Rattle.sample_taps.specs.Briefs.{facts_in}
use Rattle.sample_taps.specs.Classes.{with_headers}
use Rattle.sample_taps.proofs.class_totals.ClassTotals.count_all.Given as goal

abbrev pub invariant-loop-brief : goal.invariant-loop-brief
invariant-loop-brief l = l.self ≡ with_headers l.initial.self (map facts_in (take l.brief-index l.briefs))
