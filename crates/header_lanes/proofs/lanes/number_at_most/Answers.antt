use Rattle.std.proofs.Common.{ap₂, ◌∙◌, bit_and, bit_or}
use Rattle.std.proofs.lemmas.Simd.{below_from_Fits}
use lib.Lanes.{zip2}
use mir.Syntax.{w8}
use Rattle.header_lanes.proofs.Numbers.{numbers_at_most}
use Rattle.header_lanes.proofs.lanes.number_at_most.Goals as goal

pub returns : goal.returns
returns c =
    ap₂ (zip2 bit_or) c.below.ensures (ap₂ (zip2 bit_and) c.equal.ensures c.at_most.ensures)
    ∙ numbers_at_most c.args.a c.args.b c.args.high c.args.low c.ranges.b.fits (below_from_Fits w8 _ c.fits-low.1)
