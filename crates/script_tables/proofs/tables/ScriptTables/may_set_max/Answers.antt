use Rattle.std.proofs.Common.{◌∙◌}
use Rattle.script_tables.proofs.Follows.{max_follows}
use Rattle.script_tables.proofs.tables.ScriptTables.may_set_max.Goals as goal

pub returns : goal.returns
returns c = λ lines bytes tells. c.has_room_for_max.ensures ∙ max_follows _ lines tells bytes
