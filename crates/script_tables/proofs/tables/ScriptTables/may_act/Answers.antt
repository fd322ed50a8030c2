use Rattle.std.proofs.Common.{◌∙◌}
use Rattle.script_tables.proofs.Follows.{poll_follows, send_follows, restart_follows}
use Rattle.script_tables.proofs.tables.ScriptTables.may_act.Goals as goal

pub returns-clause-poll : goal.returns-clause-poll
returns-clause-poll c = λ lines now tells. c.knows.ensures ∙ poll_follows c.args.self.now lines tells c.args.id now

pub returns-clause-send : goal.returns-clause-send
returns-clause-send c = λ lines now tells. c.knows.ensures ∙ send_follows c.args.self.now lines tells c.args.id now

pub returns-clause-restart : goal.returns-clause-restart
returns-clause-restart c = λ lines at tells. c.knows.ensures ∙ restart_follows c.args.self.now lines tells c.args.id at
