use Rattle.std.proofs.Common.{◌≡◌, ◌∙◌, true, false, subst, sym}
use Rattle.trial_spec.specs.Made.{is_last_of_boot}
use Rattle.made_runs.specs.Scripts.{ScriptState}
use Rattle.made_runs.proofs.Scripting.{if_none, if_some, packet_next}
use Rattle.made_runs.proofs.script.MadeScript.line_behind.Goals as goal

pub returns-then-is_last_of_boot-clause-some : goal.returns-then-is_last_of_boot-clause-some
returns-then-is_last_of_boot-clause-some c = λ lines g none all.
    c.boot_line.ensures lines g none all
    (subst (λ (s : ScriptState). is_last_of_boot s.total s.packets ≡ true) c.self.view_is
    (sym c.is_last_of_boot.ensures ∙ c.if-is_last_of_boot.true))

pub returns-then-self-clause-some : goal.returns-then-self-clause-some
returns-then-self-clause-some c =
    if_some c.last_line.result _ _ (λ line h lines g none all.
    h lines g none all (subst (λ (s : ScriptState). s.packets ≡ s.total) c.self.view_is c.if-self.true)) c.last_line.ensures.some

pub returns-then-self-clause-none : goal.returns-then-self-clause-none
returns-then-self-clause-none c =
    if_none c.last_line.result _ _ (λ h lines g none all.
    h lines g none all (subst (λ (s : ScriptState). s.packets ≡ s.total) c.self.view_is c.if-self.true)) c.last_line.ensures.none

pub returns-clause-some : goal.returns-clause-some
returns-clause-some c = λ lines g none all.
    c.packet_line.ensures lines
    (packet_next c.args.self.now lines none g all
    (subst (λ (s : ScriptState). is_last_of_boot s.total s.packets ≡ false) c.self.view_is
    (sym c.is_last_of_boot.ensures ∙ c.if-is_last_of_boot.false))
    (subst (λ (s : ScriptState). s.packets ≡ s.total → ⊥) c.self.view_is c.if-self.false)) none
