use Rattle.std.proofs.Common.{ap₂, ◌∙◌, bit_and, bit_or}
use Rattle.std.proofs.lemmas.Simd.{below_from_Fits}
use lib.Lanes.{zip2}
use mir.Syntax.{w8}
use Rattle.header_lanes.proofs.Numbers.{tags_are}
use Rattle.header_lanes.proofs.lanes.tag_types.Goals as goal

pub returns : goal.returns
returns c =
    ap₂ (zip2 bit_or) (ap₂ (zip2 bit_and) c.equal.ensures c.equal-2.ensures) (ap₂ (zip2 bit_and) c.equal-3.ensures c.equal-4.ensures)
    ∙ tags_are c.args.high c.args.low (below_from_Fits w8 _ c.fits-low.1)
