use Rattle.std.proofs.Common.{append-nil}
use Rattle.text_lines.proofs.PageLaws.{prints_same}
use Rattle.show_lines.proofs.parts.put_text.Goals as goal

pub returns : goal.returns
returns g c = prints_same _ _ _ _ _ _ _ (append-nil _) c.put_line.ensures
