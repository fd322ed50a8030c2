use Rattle.std.proofs.Common.{ap₂, ◌∙◌, bit_and}
use Rattle.std.proofs.lemmas.Simd.{below_from_Fits}
use lib.Lanes.{zip2}
use mir.Syntax.{w8}
use Rattle.header_lanes.proofs.Numbers.{numbers_equal}
use Rattle.header_lanes.proofs.lanes.number_equal.Goals as goal

pub returns : goal.returns
returns c =
    ap₂ (zip2 bit_and) c.equal.ensures c.equal-2.ensures
    ∙ numbers_equal c.args.a c.args.b c.args.high c.args.low c.ranges.b.fits (below_from_Fits w8 _ c.fits-low.1)
