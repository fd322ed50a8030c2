use Rattle.std.proofs.Common.{◌∙◌, subst, ap}
use Rattle.script_lines.specs.Shown.{shown}
use Rattle.made_runs.specs.declared.script.Phase.{Phase}
use Rattle.made_runs.specs.Scripts.{ScriptState, Told, Gives, IsWhole}
use Rattle.made_runs.proofs.Scripting.{if_none, if_some, told_as, whole_so}
use Rattle.made_runs.proofs.script.MadeScript.go_on.Goals as goal

pub returns-in-Some-clause-some : goal.returns-in-Some-clause-some
returns-in-Some-clause-some c = λ lines g sent. c.in-Some.ensures.some c.args.phase lines c.requires.stage g

pub returns-in-Packet-clause-some : goal.returns-in-Packet-clause-some
returns-in-Packet-clause-some c = λ lines g sent.
    let now = c.in_default.ensures.none in
    subst (λ (s : ScriptState). Gives s c.packet_line.new.self lines (shown c.packet_line.result)) now.0
    (c.packet_line.ensures lines (told_as lines now.0 c.in-Packet.is g) (ap (λ (s : ScriptState). s.due) now.0 ∙ now.1))

pub returns-in-Poll-clause-some : goal.returns-in-Poll-clause-some
returns-in-Poll-clause-some c = λ lines g sent.
    let now = c.in_default.ensures.none in
    subst (λ (s : ScriptState). Gives s c.poll_line.new.self lines (shown c.poll_line.result)) now.0
    (c.poll_line.ensures lines (told_as lines now.0 c.in-Poll.is g) (ap (λ (s : ScriptState). s.due) now.0 ∙ now.1))

pub returns-in-Send-clause-some : goal.returns-in-Send-clause-some
returns-in-Send-clause-some c = λ lines g sent.
    let now = c.in_default.ensures.none in
    subst (λ (s : ScriptState). Gives s c.send_line.new.self lines (shown c.send_line.result)) now.0
    (c.send_line.ensures lines (told_as lines now.0 c.in-Send.is g) (ap (λ (s : ScriptState). s.due) now.0 ∙ now.1))

pub returns-in-Restart-clause-some : goal.returns-in-Restart-clause-some
returns-in-Restart-clause-some c = λ lines g sent.
    let now = c.in_default.ensures.none in
    subst (λ (s : ScriptState). Gives s c.restart_line.new.self lines (shown c.restart_line.result)) now.0
    (c.restart_line.ensures lines (told_as lines now.0 c.in-Restart.is g) (ap (λ (s : ScriptState). s.due) now.0 ∙ now.1))

pub returns-in-Decide-clause-some : goal.returns-in-Decide-clause-some
returns-in-Decide-clause-some c =
    let now = c.in_default.ensures.none in
    if_some c.decided_line.result _ _ (λ line h lines g sent.
    subst (λ (s : ScriptState). Gives s c.decided_line.new.self lines (shown line)) now.0
    (h lines (told_as lines now.0 c.in-Decide.is g) sent)) c.decided_line.ensures.some

pub returns-in-Decide-clause-none : goal.returns-in-Decide-clause-none
returns-in-Decide-clause-none c =
    let now = c.in_default.ensures.none in
    if_none c.decided_line.result _ _ (λ h lines g sent.
    subst (λ (s : ScriptState). IsWhole s.seed s.total lines) now.0
    (h lines (told_as lines now.0 c.in-Decide.is g) sent)) c.decided_line.ensures.none

pub returns-in-Done-clause-none : goal.returns-in-Done-clause-none
returns-in-Done-clause-none c = λ lines g sent.
    whole_so c.args.self.now lines c.in_default.ensures.none.1
    (subst (λ (phase : Phase). Told phase c.args.self.now lines) c.in-Done.is g)
