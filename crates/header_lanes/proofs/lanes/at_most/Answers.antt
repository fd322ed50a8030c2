use Rattle.std.proofs.Common.{ap, ◌∙◌, nat_le, replicate}
use Rattle.std.proofs.lemmas.Simd.{tops_compared, zip2_splat}
use lib.Lanes.{sel_l}
use mir.Syntax.{w8}
use Rattle.header_lanes.proofs.Flags.{flags_of}
use Rattle.header_lanes.proofs.lanes.at_most.Goals as goal

pub returns : goal.returns
returns c =
    ap (λ m. sel_l m (replicate 16 255) (replicate 16 0)) (tops_compared w8 nat_le c.args.bytes _ ∙ zip2_splat nat_le c.args.bytes 16 c.args.k c.fits-bytes.0)
    ∙ flags_of (λ x. nat_le x c.args.k) c.args.bytes 16 c.fits-bytes.0
