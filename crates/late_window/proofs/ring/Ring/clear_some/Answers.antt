use Rattle.std.proofs.Common.{rules, arith, ◌%◌}
use Rattle.late_window.proofs.WordBits.{one-made}
use Rattle.late_window.proofs.RingBits.{slot-cleared, slot-left}
use Rattle.late_window.proofs.ring.Ring.clear_some.Goals as goal

pub returns-clause-cleared : goal.returns-clause-cleared
returns-clause-cleared c = λ s from to. slot-cleared c.args.self.now.words c.args.slot c.min-count.result s
    c.ones_from.result (search rules) (omega (arith, c.args.self.now.in_words)) (omega arith) c.ones_from.ensures from to

pub returns-clause-others : goal.returns-clause-others
returns-clause-others c = λ s out. slot-left c.args.self.now.words c.args.slot c.min-count.result s
    c.ones_from.result (search rules) (omega (arith, c.args.self.now.in_words)) (omega arith) c.ones_from.ensures out

pub returns-then-most-eq1-clause-cleared : goal.returns-then-most-eq1-clause-cleared
returns-then-most-eq1-clause-cleared c = λ s from to. slot-cleared c.args.self.now.words c.args.slot 1 s _ (search rules)
    (omega (arith, c.args.self.now.in_words)) (omega arith) (one-made (c.args.slot % 64) (omega arith)) from to

pub returns-then-most-eq1-clause-others : goal.returns-then-most-eq1-clause-others
returns-then-most-eq1-clause-others c = λ s out. slot-left c.args.self.now.words c.args.slot 1 s _ (search rules)
    (omega (arith, c.args.self.now.in_words)) (omega arith) (one-made (c.args.slot % 64) (omega arith)) out
