-- How many datagrams a sub-agent has sent in its current boot. Every list of lines and boots has the LATEST FIRST.
use Rattle.std.proofs.Common.{◌≡◌, ◌∙◌, ℕ, true, List, [], ◌∷◌, length, reverse, Option, Some, ap, sym, subst, slice_get}
use Rattle.std.specs.List.{list_all}
use Rattle.std.proofs.lemmas.Bool.{true≢false}
use Rattle.std.proofs.lemmas.List.{length-reverse}
use Rattle.std.proofs.lemmas.Option.{same_Some}
use Rattle.agent_spec.specs.Boots.{happened}
use Rattle.books_spec.specs.declared.limits.Limits.{Limits}
use Rattle.script_spec.specs.Lines.{Line, SubAgent}
use Rattle.script_spec.specs.Agents.{AgentBoot, boots_of, setup_of, subs_in}
use Rattle.script_spec.specs.Rules.{sets_up}
use Rattle.script_spec.specs.Sent.{sent_count}
use Rattle.script_laws.proofs.Happens.{none_yet}
use Rattle.script_meter.proofs.MeterReads.{HasNewest, has_newest}
use Rattle.script_tables.specs.Tables.{newest}
use Rattle.true_samples.specs.States.{TrueState}
use Rattle.sflow_tool.specs.Trials.{HasTried, TrialStands}
use Rattle.sflow_tool.specs.Trues.{TrueOf}
use Rattle.sflow_tool.specs.declared.trial_run.TrialRun.{TrialRun}
use Rattle.sflow_tool.specs.declared.trial_run.Tried.{Tried}
use Rattle.sflow_tool.proofs.TrueStands.{StandsIn, true_of_sub}

-- those of the newest boot
pub sent_newest : (lines : List Line) (s : SubAgent)
    → length (happened (setup_of lines s) (newest (boots_of lines s)).events).sent ≡ sent_count lines s (boots_of lines s)
sent_newest lines s = go (boots_of lines s) (has_newest lines s)
  where
    go : (boots : List AgentBoot) → HasNewest boots
        → length (happened (setup_of lines s) (newest boots).events).sent ≡ sent_count lines s boots
    go [] h = absurd (let bad : [] ≡ h.boot ∷ h.earlier = h.is in cc)
    go (b ∷ earlier) h = sym (length-reverse (happened (setup_of lines s) b.events).sent)

-- what is kept at a place is that of its sub-agent
pub kept_at : (trues : List TrueState) (lines : List Line) (s : SubAgent) (place : ℕ) (t : TrueState) → TrueOf trues lines
    → slice_get (reverse (subs_in lines)) place ≡ Some s → slice_get trues place ≡ Some t → StandsIn lines t s
kept_at trues lines s place t h at there =
    let found = true_of_sub lines trues (reverse (subs_in lines)) place s h at in
    subst (λ (u : TrueState). StandsIn lines u s) (same_Some _ _ (sym found.1 ∙ there)) found.2

-- before the first line that sets nothing up there are none
pub none_sent : (lines : List Line) (s : SubAgent) → list_all sets_up lines ≡ true → sent_count lines s (boots_of lines s) ≡ 0
none_sent lines s all = ap (λ (boots : List AgentBoot). sent_count lines s boots) (none_yet lines s all)

-- ---- of a script up to one of its lines

pub tried_as : (t : TrialRun) (o : Option Tried) (lines : List Line) → t.tried ≡ o → TrialStands t lines → HasTried t.limits o lines
tried_as t o lines is h = subst (λ (k : Option Tried). HasTried t.limits k lines) is h.tried

-- the only sub-agent is the first
pub at_first : (lines : List Line) (s : SubAgent) → subs_in lines ≡ s ∷ [] → slice_get (reverse (subs_in lines)) 0 ≡ Some s
at_first lines s only = ap (λ (subs : List SubAgent). slice_get (reverse subs) 0) only

-- what is open isn't setting up
pub not_setting : (l : Limits) (t : Tried) (lines : List Line) → HasTried l (Some t) lines → list_all sets_up lines ≡ true → ⊥
not_setting l t lines h all = true≢false (sym all ∙ h.1)
