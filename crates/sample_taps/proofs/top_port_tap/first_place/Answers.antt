use Rattle.std.proofs.Common.{rules}
use Rattle.sample_taps.specs.Counts.{is_count}
use Rattle.sample_taps.proofs.Greatest.{found_here, same_count}
use Rattle.sample_taps.proofs.top_port_tap.first_place.Goals as goal

pub returns-then-counts-place : goal.returns-then-counts-place
returns-then-counts-place c =
    found_here (is_count c.args.count) c.args.counts.now c.loop-place.place 0 (search rules) c.loop-place.invariant (same_count _ _ c.if-counts-place.true)
