-- Lines that set nothing up leave the sub-agents, their senders and their set-ups as they are; and without sub-agents there
-- is nothing.
use Rattle.std.proofs.Common.{◌≡◌, ◌∙◌, false, List, [], ◌∷◌, map, reverse, Option, Some, None, refl, ap, sym, option_map, option_and_then}
use Rattle.std.specs.Prelude.{find}
use Rattle.std.specs.List.{cons_option}
use Rattle.account_spec.specs.Histories.{stream_in}
use Rattle.account_spec.specs.Histories as account
use Rattle.account_spec.specs.Deliveries.{Delivery}
use Rattle.script_spec.specs.Lines as script
use Rattle.script_spec.specs.Lines.{Line, MaxLine, SubLine, FlowLine, CounterLine, PacketLine, PollLine, SendLine, RestartLine, ResetLine, DeliverLine, SubAgent}
use Rattle.script_spec.specs.Agents.{sub_in, subs_in, is_of, sender_of, setup_of, delivered}
use Rattle.script_spec.specs.Rules.{sets_up}
use Rattle.script_spec.specs.Sent.{delivery_in, deliveries_in, delivered_entry, all_delivered}
use Rattle.script_laws.proofs.Happens.{same_setup}
use Rattle.script_histories.specs.Histories.{agent_in, arrival_of, deliveries_of, delivery_at, history_of, without_boots, sources_in_order}
use Rattle.script_histories.proofs.Lists.{map_map, map_same, filter_map_none}
use Rattle.script_histories.proofs.Reaching.{arrives, same_sender}

-- ---- set-ups

same_subs : (line : Line) (lines : List Line) → sets_up line ≡ false → subs_in (line ∷ lines) ≡ subs_in lines
same_subs (MaxLine n) lines e = refl
same_subs (SubLine t) lines e = absurd cc
same_subs (FlowLine owner f) lines e = refl
same_subs (CounterLine owner c) lines e = refl
same_subs (PacketLine p k) lines e = refl
same_subs (PollLine owner now) lines e = refl
same_subs (SendLine owner now) lines e = refl
same_subs (RestartLine owner at) lines e = refl
same_subs (ResetLine t) lines e = refl
same_subs (DeliverLine d) lines e = refl

abbrev set_up_as : List Line → SubAgent → account.SubAgent
set_up_as lines s = without_boots (agent_in lines s)

one_same : (line : Line) (lines : List Line) → sets_up line ≡ false → (s : SubAgent)
    → set_up_as (line ∷ lines) s ≡ set_up_as lines s
one_same line lines sets s =
    let senders : sender_of (line ∷ lines) s ≡ sender_of lines s = same_sender line lines s sets in
    let setups : setup_of (line ∷ lines) s ≡ setup_of lines s = same_setup line lines s sets in
    λ i. record { sender = senders i; setup = setups i; boots = [] }

pub same_set_ups : (line : Line) (lines : List Line) → sets_up line ≡ false
    → map without_boots (history_of (line ∷ lines)) ≡ map without_boots (history_of lines)
same_set_ups line lines sets =
    ap (λ (xs : List SubAgent). map without_boots (map (agent_in (line ∷ lines)) (reverse xs))) (same_subs line lines sets)
    ∙ map_map (agent_in (line ∷ lines)) without_boots (reverse (subs_in lines))
    ∙ map_same (set_up_as (line ∷ lines)) (set_up_as lines) (reverse (subs_in lines)) (one_same line lines sets)
    ∙ sym (map_map (agent_in lines) without_boots (reverse (subs_in lines)))

-- what is said of sub-agents without their boots
of_set_ups : {X : Type 0} (of : account.SubAgent → X) → ((a : account.SubAgent) → of (without_boots a) ≡ of a)
    → (line : Line) (lines : List Line) → sets_up line ≡ false → map of (history_of (line ∷ lines)) ≡ map of (history_of lines)
of_set_ups of same line lines sets =
    sym (map_map without_boots of (history_of (line ∷ lines))
    ∙ map_same (λ a. of (without_boots a)) of (history_of (line ∷ lines)) same)
    ∙ ap (map of) (same_set_ups line lines sets)
    ∙ map_map without_boots of (history_of lines) ∙ map_same (λ a. of (without_boots a)) of (history_of lines) same

pub same_streams : (line : Line) (lines : List Line) → sets_up line ≡ false
    → map stream_in (history_of (line ∷ lines)) ≡ map stream_in (history_of lines)
same_streams = of_set_ups stream_in (λ a. refl)

pub same_sources : (line : Line) (lines : List Line) → sets_up line ≡ false
    → map sources_in_order (history_of (line ∷ lines)) ≡ map sources_in_order (history_of lines)
same_sources = of_set_ups sources_in_order (λ a. refl)

-- ---- no sub-agents

fewer : (o : Option SubAgent) (xs : List SubAgent) → cons_option o xs ≡ [] → xs ≡ []
fewer None xs e = e
fewer (Some s) xs e = absurd cc

pub no_history : (lines : List Line) → subs_in lines ≡ [] → history_of lines ≡ []
no_history lines e = ap (λ (xs : List SubAgent). map (agent_in lines) (reverse xs)) e

no_one : (lines : List Line) (d : script.Delivery) → subs_in lines ≡ [] → delivery_at lines d ≡ None
no_one lines d e =
    ap (λ (xs : List SubAgent). option_and_then (λ (s : SubAgent). option_map (arrival_of d s) (delivered lines d))
    (find (is_of d.id) xs)) e

none_by : (o : Option script.Delivery) (lines : List Line) → subs_in lines ≡ [] → option_and_then (delivery_at lines) o ≡ None
none_by None lines e = refl
none_by (Some d) lines e = no_one lines d e

pub no_deliveries : (lines : List Line) → subs_in lines ≡ [] → deliveries_of lines ≡ []
no_deliveries [] e = refl
no_deliveries (line ∷ before) e =
    let none : subs_in before ≡ [] = fewer (sub_in line) (subs_in before) e in
    ap (λ (o : Option Delivery). cons_option o (deliveries_of before)) (none_by (delivery_in line) before none)
    ∙ no_deliveries before none

no_entry : (lines : List Line) → subs_in lines ≡ [] → (d : script.Delivery) → delivered_entry lines d ≡ None
no_entry lines e d =
    ap (λ (xs : List SubAgent). option_and_then (λ (s : SubAgent). option_map (arrives lines d s) (delivered lines d))
    (find (is_of d.id) xs)) e

pub no_entries : (lines : List Line) → subs_in lines ≡ [] → all_delivered lines ≡ []
unfolding all_delivered
no_entries lines e = filter_map_none (delivered_entry lines) (no_entry lines e) (deliveries_in lines)
