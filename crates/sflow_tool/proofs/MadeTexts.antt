-- The text of a trial over lines is that of their history and what they deliver. Lists of lines and deliveries have the
-- LATEST FIRST.
use Rattle.std.proofs.Common.{refl, ◌≡◌, ◌∙◌, ◌++◌, ℕ, Bool, List, map, reverse, ap, sym}
use Rattle.std.specs.List.{sum_by}
use Rattle.std.proofs.lemmas.List.{reverse-reverse}
use Rattle.books_spec.specs.declared.limits.Limits.{Limits}
use Rattle.agent_spec.specs.Events.{Event}
use Rattle.agent_spec.specs.Boots.{Boot, happened}
use Rattle.account_spec.specs.Histories.{SubAgent}
use Rattle.account_spec.specs.Deliveries.{Delivers, Delivery, entry_of}
use Rattle.script_spec.specs.Lines.{Line}
use Rattle.script_spec.specs.Lines as script
use Rattle.script_spec.specs.Agents.{boots_of, setup_of, subs_in}
use Rattle.script_spec.specs.Sent.{all_delivered, boots_in}
use Rattle.script_histories.specs.Histories.{agent_in, deliveries_of, history_of}
use Rattle.report_lines.specs.HeaderLines.{ShownTaps}
use Rattle.report_lines.specs.TrialLines.{agent_text, premises_text}
use Rattle.sflow_tool.specs.Collects.{received_of}
use Rattle.sflow_tool.specs.MadeTrials.{counted_by, counted_in, premises_in, received_from, tail_from, text_from}
use Rattle.sflow_tool.specs.Replays.{report_of}
use Rattle.sflow_tool.specs.Trials.{premises_of, received_in, tail_of, trial_text}
use Rattle.sflow_tool.specs.Trues.{events_in}
use Rattle.sflow_tool.proofs.Items.{map_reverse}
use Rattle.sflow_tool.proofs.TrueTotals.{all_sum, dropped_of, in_all, issued_of, sent_of, sum_map, sum_turned}

-- ---- counts

-- those of a sub-agent
by_agent : (count : Boot → ℕ) (lines : List Line) (s : script.SubAgent)
    → counted_by count (agent_in lines s) ≡ in_all count lines s
by_agent count lines s =
    let f : List Event → ℕ = λ events. count (happened (setup_of lines s) events) in
    ap (sum_by f) (map_reverse events_in (boots_of lines s)) ∙ sum_turned f (map events_in (boots_of lines s))

pub counted_so : (count : Boot → ℕ) (lines : List Line) → sum_by count (boots_in lines) ≡ counted_in count (history_of lines)
counted_so count lines =
    sym
    (sum_map (counted_by count) (agent_in lines) (reverse (subs_in lines))
    ∙ (λ i. sum_by (λ (s : script.SubAgent). by_agent count lines s i) (reverse (subs_in lines)))
    ∙ all_sum count lines)

same_premises : (l : Limits) (lines : List Line) → premises_of l lines ≡ premises_in l (history_of lines) (deliveries_of lines)
same_premises l lines = refl

module _ (l : Limits) (lines : List Line) (history : List SubAgent) (deliveries : List Delivery)
    (history_is : history_of lines ≡ history) (deliveries_are : deliveries_of lines ≡ deliveries)
    (delivers : Delivers (history_of lines) (deliveries_of lines) (reverse (all_delivered lines))) where
  -- ---- what arrives

  entries_are : map (entry_of (history_of lines)) (deliveries_of lines) ≡ map (entry_of history) deliveries
  entries_are = λ i. map (entry_of (history_is i)) (deliveries_are i)

  pub received_are : received_in lines ≡ received_from history deliveries
  received_are =
      ap received_of (sym (reverse-reverse (all_delivered lines)) ∙ ap reverse (delivers.entries_are ∙ entries_are))

  -- ---- what is written

  count_is : (count : Boot → ℕ) → sum_by count (boots_in lines) ≡ counted_in count history
  count_is count = counted_so count lines ∙ ap (counted_in count) history_is

  premises_are : premises_of l lines ≡ premises_in l history deliveries
  premises_are = same_premises l lines ∙ (λ i. premises_in l (history_is i) (deliveries_are i))

  tail_is : tail_of l lines ≡ tail_from l history deliveries
  tail_is = λ i.
      agent_text (count_is sent_of i) (count_is issued_of i) (count_is dropped_of i) ++ premises_text (premises_are i)

  pub text_is : (interfaces : Bool) (taps : ShownTaps) → trial_text l interfaces taps lines ≡ text_from l interfaces taps history deliveries
  text_is interfaces taps = λ i. report_of l interfaces taps (received_are i) ++ tail_is i
