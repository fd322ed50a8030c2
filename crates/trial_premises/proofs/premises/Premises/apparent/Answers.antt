use Rattle.std.proofs.Common.{◌∙◌, List, ap}
use Rattle.std.specs.List.{list_all}
use Rattle.trial_premises.specs.Streams.{StreamState, are_apparent}
use Rattle.trial_premises.proofs.Answers.{apparent-is}
use Rattle.trial_premises.proofs.premises.Premises.apparent.Goals as goal

pub returns : goal.returns
returns c = rw (← c.self.view_is) (λ history deliveries st.
    c.all_apparent.ensures ∙ ap (λ (xs : List StreamState). list_all are_apparent xs) c.deref.ensures.value
    ∙ apparent-is c.self.inside.limits history c.self.inside.streams.items deliveries st.streams_stand)
