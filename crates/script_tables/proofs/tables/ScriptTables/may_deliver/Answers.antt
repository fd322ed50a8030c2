use Rattle.std.proofs.Common.{◌∙◌}
use Rattle.script_tables.proofs.Follows.{deliver_follows}
use Rattle.script_tables.proofs.tables.ScriptTables.may_deliver.Goals as goal

pub returns : goal.returns
returns c = λ lines d tells lawful is_id is_boot is_number.
    c.has_sent.ensures
    ∙ deliver_follows c.args.self.now lines tells lawful c.args.id c.args.boot c.args.number d is_id is_boot is_number
