use Rattle.byte_ends.proofs.Prefixes.{prefix_longer}
use Rattle.text_lines.proofs.PageLaws.{prints_err, prints_past}
use Rattle.text_lines.proofs.page.Page.put.Goals as goal

pub returns-in_err-flush : goal.returns-in_err-flush
returns-in_err-flush g c =
    let part = c.in_err-flush.ensures.0 in
    prints_err _ _ _ _ _ _ _ c.from_residual.ensures.1 (prefix_longer _ _ _ _ part)

pub returns-then-bytes-gt-ROOM : goal.returns-then-bytes-gt-ROOM
returns-then-bytes-gt-ROOM g c =
    let flushed = c.in_ok-flush.ensures in
    prints_past _ _ _ _ _ _ _ flushed.0 flushed.1 c.write_all.ensures
