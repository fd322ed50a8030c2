use Rattle.std.proofs.Common.{◌≡◌, take}
use Rattle.sample_taps.specs.Counts.{greatest}
use Rattle.sample_taps.proofs.top_port_tap.most.Given as goal

abbrev pub invariant-loop-count : goal.invariant-loop-count
invariant-loop-count l = l.most ≡ greatest (take l.count-index l.counts)
