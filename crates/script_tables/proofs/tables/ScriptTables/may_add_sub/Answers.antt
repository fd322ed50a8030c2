use Rattle.std.proofs.Common.{◌∙◌}
use Rattle.script_tables.proofs.Follows.{sub_follows}
use Rattle.script_tables.proofs.tables.ScriptTables.may_add_sub.Goals as goal

pub returns : goal.returns
returns c = λ lines s tells is. c.has_room_for_sub.ensures ∙ sub_follows c.args.self.now lines tells c.args.id s is
