use Rattle.late_window.proofs.WordBits.{run-made}
use Rattle.late_window.proofs.ring.ones_from.Goals as goal

pub returns : goal.returns
returns c = run-made c.args.low c.args.count c.requires.in_word
