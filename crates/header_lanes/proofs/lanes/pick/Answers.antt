use Rattle.std.proofs.Common.{ap, ◌∙◌, nat_le, replicate}
use Rattle.std.proofs.lemmas.Simd.{tops_compared, zip2_splat_left}
use lib.Lanes.{sel_l}
use mir.Syntax.{w8}
use Rattle.header_lanes.proofs.lanes.pick.Goals as goal

pub returns : goal.returns
returns c =
    ap (λ m. sel_l m c.args.yes c.args.no) (tops_compared w8 nat_le (replicate 16 128) c.args.flags ∙ zip2_splat_left nat_le 128 16 c.args.flags c.fits-flags.0)
