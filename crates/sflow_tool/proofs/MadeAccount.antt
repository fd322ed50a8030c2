-- Where the premises hold of a history and what is delivered of it, the report of its trial is that of the account. Deliveries
-- have the LATEST FIRST.
use Rattle.std.proofs.Common.{◌≡◌, ℕ, Bool, List, [], ◌++◌, map, reverse, true, refl, ap}
use Rattle.wire_spec.specs.Captures.{Entry}
use Rattle.books_spec.specs.declared.limits.Limits.{Limits}
use Rattle.account_spec.specs.Histories.{IsHistory, SubAgent}
use Rattle.account_spec.specs.Deliveries.{AreSent, Delivers, Delivery, entry_of}
use Rattle.account_spec.specs.Premises.{Premises}
use Rattle.delivered_items.specs.Accepted.{AreAccepted}
use Rattle.delivered_items.specs.AccountHeaders.{account_briefs}
use Rattle.trial_spec.specs.PremiseTests.{apparent, close, roomy, visible}
use Rattle.report_lines.specs.HeaderLines.{ShownTaps}
use Rattle.report_lines.specs.declared.trial_lines.TrialPremises.{TrialPremises}
use Rattle.command_words.specs.declared.collection.Collection.{Collection}
use Rattle.sflow_tool.specs.MadeTrials.{premises_in, received_from, tail_from, text_from}
use Rattle.sflow_tool.specs.Replays.{briefs_in}
use Rattle.sflow_tool.specs.Trials.{all_hold}
use Rattle.sflow_tool.proofs.Collected.{back_from, due, report_due}
use Rattle.sflow_tool.proofs.DeliveredClasses.{briefs_as_sent}

module _ (l : Limits) (history : List SubAgent) (deliveries : List Delivery) (are : IsHistory history)
    (sent : AreSent history deliveries) (accepted : AreAccepted history)
    (tests : IsHistory history → AreSent history deliveries → visible l history deliveries ≡ true
    → close l history deliveries ≡ true → roomy l deliveries ≡ true → apparent l history deliveries ≡ true
    → Premises l history deliveries)
    (hold : premises_in l history deliveries ≡ all_hold) where
  premises : Premises l history deliveries
  premises =
      tests are sent (ap (λ (p : TrialPremises). p.visible) hold) (ap (λ (p : TrialPremises). p.close) hold)
      (ap (λ (p : TrialPremises). p.roomy) hold) (ap (λ (p : TrialPremises). p.apparent) hold)

  abbrev entries : List Entry
  entries = map (entry_of history) deliveries

  delivers : Delivers history deliveries entries
  delivers = record { sent = sent; entries_are = refl }

  abbrev asked : Bool → Collection
  asked interfaces = record { turns = 0; listen = []; limits = l; interfaces = interfaces }

  -- what is written
  pub account_text : (interfaces : Bool) (taps : ShownTaps) → text_from l interfaces taps history deliveries
      ≡ due (asked interfaces) history deliveries taps ++ tail_from l history deliveries
  account_text interfaces taps =
      ap (λ (t : List ℕ). t ++ tail_from l history deliveries)
      (report_due (asked interfaces) history deliveries taps (reverse entries)
      (record { accepted = accepted; premises = premises; entries = entries; delivers = delivers; in_order = refl }))

  -- what the consumers are fed
  pub account_briefs_are : briefs_in l (received_from history deliveries) ≡ account_briefs l deliveries
  account_briefs_are =
      briefs_as_sent l history deliveries entries (received_from history deliveries) premises accepted delivers
      (back_from (reverse entries))
