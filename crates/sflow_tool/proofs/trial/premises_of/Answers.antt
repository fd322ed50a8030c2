use Rattle.std.proofs.Common.{◌≡◌, ◌∙◌, map, ap}
use Rattle.books_spec.specs.Books.{totals}
use Rattle.books_spec.specs.declared.limits.Limits.{Limits}
use Rattle.books_spec.specs.declared.totals.Totals.{Totals}
use Rattle.account_spec.specs.Deliveries.{item}
use Rattle.script_histories.specs.Histories.{deliveries_of, history_of}
use Rattle.trial_spec.specs.PremiseTests.{apparent, close, visible}
use Rattle.sflow_tool.proofs.TriedAccount.{all_tested, totals_delivered}
use Rattle.sflow_tool.proofs.trial.premises_of.Goals as goal

pub returns : goal.returns
returns c = λ l lines lawful stands same books.
    let counted : totals l (map item (deliveries_of lines)) ≡ c.totals-totals.result =
    totals_delivered l lines (c.scripts_are_histories.ensures.history lines lawful) (c.scripts_are_accepted.ensures lines lawful)
    (c.scripts_are_histories.ensures.entries lines lawful) c.totals-totals.result (c.totals-totals.ensures l _ books) in
    all_tested l lines _
    (c.visible.ensures _ _ stands ∙ ap (λ (m : Limits). visible m (history_of lines) (deliveries_of lines)) same)
    (c.close.ensures _ _ stands ∙ ap (λ (m : Limits). close m (history_of lines) (deliveries_of lines)) same)
    (c.roomy.ensures l (deliveries_of lines) (ap (λ (t : Totals). t.unlisted) counted)
    (ap (λ (t : Totals). t.unlisted_samples) counted))
    (c.apparent.ensures _ _ stands ∙ ap (λ (m : Limits). apparent m (history_of lines) (deliveries_of lines)) same)
