use Rattle.data_format.proofs.Ranges.{nested_ranges, nested_end}
use Rattle.data_format.proofs.laws.ranges_within_ranges.Goals as goal

pub returns : goal.returns
returns c = record { frames = nested_ranges; tail = nested_end }
