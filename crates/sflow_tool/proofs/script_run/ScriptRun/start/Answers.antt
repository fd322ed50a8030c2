use Rattle.std.proofs.Common.{◌∙◌, ap, sym}
use Rattle.script_tables.specs.Said.{SetupsState}
use Rattle.sflow_tool.proofs.Starts.{never_bad, opened}
use Rattle.sflow_tool.proofs.script_run.ScriptRun.start.Goals as goal

pub unreachable-requires : goal.unreachable-requires
unreachable-requires c =
    never_bad c.args.self.now c.requires.0 c.into_setups.result.items c.in-Err-BadSetup.field-0-0 c.open.result c.in-Err-BadSetup.field-0
    c.requires.1 c.requires.2 (sym c.is_some.ensures ∙ c.if-is_some.false)
    (c.into_setups.ensures ∙ ap (λ (s : SetupsState). s.setups) c.replace-setups.ensures.value)
    (c.setups_are_accepted.ensures c.requires.0 c.into_setups.result.items c.requires.1.lawful)
    c.in-Err-BadSetup.is c.in-Err-BadSetup.field-0-is (c.open.ensures.refused c.in-Err-BadSetup.field-0-0)

pub returns-in-Ok : goal.returns-in-Ok
returns-in-Ok c = λ lines h.
    opened c.args.self.now lines c.in-Ok.device c.replace-setups.new.dest c.into_setups.result.items h
    (sym c.is_some.ensures ∙ c.if-is_some.false)
    (c.into_setups.ensures ∙ ap (λ (s : SetupsState). s.setups) c.replace-setups.ensures.value)
    (c.one_form.ensures lines c.into_setups.result.items h.lawful) c.in-Ok.ensures.stand
