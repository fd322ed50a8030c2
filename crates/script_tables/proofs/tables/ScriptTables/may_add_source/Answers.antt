use Rattle.std.proofs.Common.{◌∙◌}
use Rattle.script_tables.proofs.Follows.{flow_kind, counter_kind}
use Rattle.script_tables.proofs.tables.ScriptTables.may_add_source.Goals as goal

pub returns-clause-flow : goal.returns-clause-flow
returns-clause-flow c = λ lines f tells lawful kind is.
    c.has_room_for_source.ensures
    ∙ flow_kind c.args.self.now lines tells lawful c.args.id c.args.flow c.args.source f kind is

pub returns-clause-counter : goal.returns-clause-counter
returns-clause-counter c = λ lines s tells lawful kind is.
    c.has_room_for_source.ensures
    ∙ counter_kind c.args.self.now lines tells lawful c.args.id c.args.flow c.args.source s kind is
