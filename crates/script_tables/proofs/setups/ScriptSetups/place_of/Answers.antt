use Rattle.std.proofs.Common.{◌≡◌, ◌∙◌, List, Some, IfSome, ap, subst, slice_get}
use Rattle.agent_setups.specs.declared.setup.Setup.{Setup}
use Rattle.script_tables.specs.Said.{SetupsState}
use Rattle.script_tables.proofs.setups.ScriptSetups.place_of.Goals as goal

pub returns-clause-here : goal.returns-clause-here
returns-clause-here c = λ u.
    subst (λ (xs : List Setup). IfSome c.place_of.result (λ p. slice_get xs p ≡ Some u → u.sub_agent ≡ c.args.id))
    (c.deref.ensures.value ∙ ap (λ (s : SetupsState). s.setups) c.self.view_is) (c.place_of.ensures.here u)
