use Rattle.std.proofs.Common.{rules}
use Rattle.late_window.proofs.RingBits.{missing-run}
use Rattle.late_window.proofs.ring.Ring.missing_in_word.Goals as goal

pub returns : goal.returns
returns c = missing-run c.args.self.now.words c.args.slot c.args.count c.ones_from-ones.result (search rules)
    c.requires.from c.requires.in_word c.ones_from-ones.ensures
