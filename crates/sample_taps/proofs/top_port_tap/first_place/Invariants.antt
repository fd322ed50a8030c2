use Rattle.std.proofs.Common.{◌≡◌, take}
use Rattle.std.specs.List.{position_or_len}
use Rattle.sample_taps.specs.Counts.{is_count}
use Rattle.sample_taps.proofs.top_port_tap.first_place.Given as goal

abbrev pub invariant-loop-place : goal.invariant-loop-place
invariant-loop-place l = position_or_len (is_count l.count) (take l.place l.counts) ≡ l.place
