use Rattle.std.proofs.Common.{◌≡◌, ◌∙◌, ◌&&◌, List, ap}
use Rattle.std.specs.List.{list_all}
use Rattle.trial_premises.specs.Streams.{StreamState, is_close, are_close}
use Rattle.trial_premises.proofs.Answers.{close-is}
use Rattle.trial_premises.proofs.premises.Premises.close.Goals as goal

pub returns : goal.returns
returns c = rw (← c.self.view_is) (λ history deliveries st.
    let datagrams : c.all_close.result ≡ list_all is_close c.self.inside.streams.items =
    c.all_close.ensures ∙ ap (λ (xs : List StreamState). list_all is_close xs) c.deref.ensures.value in
    let samples : c.all_samples_close.result ≡ list_all are_close c.self.inside.streams.items =
    c.all_samples_close.ensures ∙ ap (λ (xs : List StreamState). list_all are_close xs) c.deref-2.ensures.value in
    c.both.ensures ∙ (λ j. datagrams j && samples j)
    ∙ close-is c.self.inside.limits history c.self.inside.streams.items deliveries st.streams_stand)
