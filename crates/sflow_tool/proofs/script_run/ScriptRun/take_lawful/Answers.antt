use Rattle.std.proofs.Common.{◌∙◌, sym}
use Rattle.script_lines.specs.Shown.{shown}
use Rattle.sflow_tool.proofs.Starts.{some_sub}
use Rattle.sflow_tool.proofs.script_run.ScriptRun.take_lawful.Goals as goal

pub start-requires : goal.start-requires
start-requires c =
    let lines = c.requires.sound.0 in
    (lines, c.requires.sound.1, some_sub (shown c.args.line) lines c.requires.sound.1.lawful (sym c.sets_up.ensures ∙ c.if-sets_up.false) c.requires.sound.3)
