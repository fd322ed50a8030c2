use Rattle.std.proofs.Common.{◌∙◌, List, ap}
use Rattle.std.specs.List.{list_all}
use Rattle.trial_premises.specs.Streams.{StreamState, is_visible}
use Rattle.trial_premises.proofs.Answers.{visible-is}
use Rattle.trial_premises.proofs.premises.Premises.visible.Goals as goal

pub returns : goal.returns
returns c = rw (← c.self.view_is) (λ history deliveries st.
    c.all_visible.ensures ∙ ap (λ (xs : List StreamState). list_all is_visible xs) c.deref.ensures.value
    ∙ visible-is c.self.inside.limits history c.self.inside.streams.items deliveries st.streams_stand)
