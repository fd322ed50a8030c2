use Rattle.std.proofs.Common.{◌∙◌}
use Rattle.script_tables.proofs.Follows.{reset_follows}
use Rattle.script_tables.proofs.tables.ScriptTables.may_reset.Goals as goal

pub returns : goal.returns
returns c = λ lines tells. c.has.ensures ∙ reset_follows c.args.self.now lines tells c.args.flow c.args.source
