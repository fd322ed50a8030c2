use Rattle.std.proofs.Common.{ap, ◌++◌, append-nil}
use Rattle.text_lines.proofs.PageLaws.{prints_same}
use Rattle.show_lines.proofs.parts.put_number.Goals as goal

pub returns : goal.returns
returns g c =
    prints_same _ _ _ _ _ _ _ (ap (λ l. c.args.before.now ++ l) (append-nil _)) c.put_line.ensures
