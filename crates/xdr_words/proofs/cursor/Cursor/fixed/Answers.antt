use Rattle.wire_spec.proofs.Items.{fixed_agrees}
use Rattle.xdr_words.proofs.Said.{bytes_seen, says_value, says_fault}
use Rattle.xdr_words.proofs.cursor.Cursor.fixed.Goals as goal

pub returns-clause-spelled : goal.returns-clause-spelled
returns-clause-spelled c =
    says_value _ _ _ _ _ (fixed_agrees c.args.self.now.pad c.args.n) _ _
    c.take_fixed.result (bytes_seen _ _ c.self.view_is c.self.invariant.1) c.take_fixed.ensures

pub returns-clause-fault : goal.returns-clause-fault
returns-clause-fault c =
    says_fault _ _ _ _ _ (fixed_agrees c.args.self.now.pad c.args.n) _ _
    c.take_fixed.result (bytes_seen _ _ c.self.view_is c.self.invariant.1) c.take_fixed.ensures
