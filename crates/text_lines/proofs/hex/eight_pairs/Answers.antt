use Rattle.std.proofs.Common.{◌≡◌, length, ap, arith}
use Rattle.wire_spec.specs.Texts.{hex}
use Rattle.text_lines.proofs.Eights.{only_eight}
use Rattle.text_lines.proofs.hex.eight_pairs.Goals as goal

pub returns : goal.returns
returns c =
    let long : length c.args.bytes ≡ 8 = omega arith in
    rw (c.high.ensures, c.low.ensures, c.high-2.ensures, c.low-2.ensures, c.high-3.ensures, c.low-3.ensures, c.high-4.ensures, c.low-4.ensures, c.high-5.ensures, c.low-5.ensures, c.high-6.ensures, c.low-6.ensures, c.high-7.ensures, c.low-7.ensures, c.high-8.ensures, c.low-8.ensures)
    (ap hex (only_eight c.args.bytes long))
