-- The lines behind the report of a trial.
use Rattle.std.proofs.Common.{◌≡◌, ◌∙◌, ◌++◌, ℕ, List, [], ap, subst}
use Rattle.byte_ends.specs.Seen.{Seen, TakesPart}
use Rattle.text_lines.specs.Pages.{Puts}
use Rattle.books_spec.specs.declared.limits.Limits.{Limits}
use Rattle.script_spec.specs.Lines.{Line}
use Rattle.script_spec.specs.Sent.{datagrams_sent, packets_dropped, samples_issued}
use Rattle.command_runs.specs.Endings.{Flushed}
use Rattle.command_runs.specs.declared.status.Status.{Status}
use Rattle.report_lines.specs.TrialLines.{agent_text, premises_text}
use Rattle.report_lines.specs.declared.trial_lines.TrialPremises.{TrialPremises}
use Rattle.true_samples.specs.declared.sub_agent.Totals.{Totals}
use Rattle.sflow_tool.specs.Trials.{premises_of}
use Rattle.sflow_tool.specs.Trues.{HasTotals}

module _ (t : Totals) (lines : List Line) (h : HasTotals t lines) where
  line_is : agent_text t.datagrams t.issued t.dropped ≡ agent_text (datagrams_sent lines) (samples_issued lines) (packets_dropped lines)
  line_is =
      ap (λ (n : ℕ). agent_text n t.issued t.dropped) h.datagrams
      ∙ ap (λ (n : ℕ). agent_text (datagrams_sent lines) n t.dropped) h.issued
      ∙ ap (λ (n : ℕ). agent_text (datagrams_sent lines) (samples_issued lines) n) h.dropped

  -- a beginning of the line of the agent was written
  pub agent_same : (a b : Seen) (p : List ℕ) → TakesPart a b (p ++ agent_text t.datagrams t.issued t.dropped)
      → TakesPart a b (p ++ agent_text (datagrams_sent lines) (samples_issued lines) (packets_dropped lines))
  agent_same a b p part = subst (λ (l : List ℕ). TakesPart a b (p ++ l)) line_is part

  -- the line of the agent was put
  pub agent_written : (a b : Seen) (p q : List ℕ) → Puts a b p q (agent_text t.datagrams t.issued t.dropped)
      → Puts a b p q (agent_text (datagrams_sent lines) (samples_issued lines) (packets_dropped lines))
  agent_written a b p q put = subst (Puts a b p q) line_is put

pub premises_same : (p : TrialPremises) (l : Limits) (lines : List Line) → p ≡ premises_of l lines
    → premises_text p ≡ premises_text (premises_of l lines)
premises_same p l lines is = ap premises_text is

-- on a page of its own
pub flushed_new : (a b : Seen) (page text : List ℕ) (status result : Status) → page ≡ []
    → Flushed a b (page ++ text) status result → Flushed a b text status result
flushed_new a b page text status result empty h = subst (λ (p : List ℕ). Flushed a b (p ++ text) status result) empty h
