use Rattle.std.proofs.Common.{◌∙◌}
use Rattle.script_tables.proofs.Follows.{packet_follows}
use Rattle.script_tables.proofs.tables.ScriptTables.may_observe.Goals as goal

pub returns : goal.returns
returns c = λ lines packet tells. c.has.ensures ∙ packet_follows c.args.self.now lines tells c.args.source packet
