use Rattle.std.proofs.Common.{ap, ◌∙◌, nat_le, replicate}
use Rattle.std.proofs.lemmas.Simd.{tops_compared, zip2_splat_left}
use lib.Lanes.{sel_l}
use mir.Syntax.{w8}
use Rattle.header_lanes.proofs.Flags.{flags_of}
use Rattle.header_lanes.proofs.lanes.at_least.Goals as goal

pub returns : goal.returns
returns c =
    ap (λ m. sel_l m (replicate 16 255) (replicate 16 0)) (tops_compared w8 nat_le (replicate 16 c.args.k) c.args.bytes ∙ zip2_splat_left nat_le c.args.k 16 c.args.bytes c.fits-bytes.0)
    ∙ flags_of (λ x. nat_le c.args.k x) c.args.bytes 16 c.fits-bytes.0
