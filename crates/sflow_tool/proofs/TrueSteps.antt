-- What is kept beside the sub-agents of a script behind one line more.
use Rattle.std.proofs.Common.{slice_index_or, ◌≡◌, ◌∙◌, ◌++◌, ◌<◌, ◌≤◌, ◌^◌, ℕ, Bool, true, List, [], ◌∷◌, length, map, reverse, set, Some, Result, Ok, Err, OnOk, refl, ap, sym, subst, arith, slice_get}
use Rattle.std.specs.List.{list_all}
use Rattle.std.proofs.lemmas.List.{length-map}
use Rattle.std.proofs.lemmas.Option.{same_Some, slice_get_within}
use Rattle.wire_spec.specs.Shapes.{Tree}
use Rattle.data_format.specs.declared.source.SourceId.{SourceId}
use Rattle.agent_outlets.specs.declared.list_outlet.Put.{Put}
use Rattle.agent_outlets.specs.Outlets.{put_view}
use Rattle.agent_spec.specs.Sources.{FlowSetup}
use Rattle.agent_spec.specs.Samples.{Packet, Setup as SetupSaid}
use Rattle.agent_spec.specs.Events.{Event, Observe, Poll, Reset, Send}
use Rattle.agent_spec.specs.Boots.{IsAmong, MayHappen, happened}
use Rattle.agent_spec.specs.Spelled.{Sender, sent_bytes}
use Rattle.agent_setups.specs.declared.setup.Setup.{Setup}
use Rattle.account_spec.specs.Histories.{IsSetUp, counter_sources, flow_sources}
use Rattle.script_spec.specs.Lines.{Line, SubAgent}
use Rattle.script_spec.specs.Agents.{AgentBoot, boots_of, sender_of, setup_of, subs_in}
use Rattle.script_spec.specs.Rules.{sets_up}
use Rattle.script_laws.specs.Lawful.{AreLawful}
use Rattle.script_laws.proofs.Happens.{none_yet}
use Rattle.script_tables.specs.Said.{AreSetUp, Said, said_of, setup_said}
use Rattle.script_tables.specs.Tables.{newest}
use Rattle.sub_agents.specs.SubAgents.{BootSoFar, next_boot}
use Rattle.sub_agents.proofs.Lists.{read-get}
use Rattle.true_samples.specs.declared.calls.Seen.{Seen}
use Rattle.true_samples.specs.Counts.{IsShort, id_in, seen_of, source_as}
use Rattle.true_samples.specs.Opening.{polled_as, sampled_as}
use Rattle.true_samples.specs.Pairs.{Each}
use Rattle.true_samples.specs.Sends.{bytes_of, leaving}
use Rattle.true_samples.specs.Standing.{StandsFor}
use Rattle.true_samples.specs.States.{TrueState}
use Rattle.true_samples.specs.Words.{HasAddress}
use Rattle.sflow_tool.specs.declared.script_run.Sent.{Sent}
use Rattle.sflow_tool.specs.ScriptBoots.{boot_now, boots_now}
use Rattle.sflow_tool.specs.Steps.{Observes, PollsAt, ResetsAt, RestartsAt, SendsAt, bytes_put}
use Rattle.sflow_tool.specs.Trues.{StandTrue, TrueOf, earlier_now, events_behind}
use Rattle.sflow_tool.proofs.TrueLines.{fit_at}
use Rattle.sflow_tool.proofs.TrueSetUps.{is_set_up}
use Rattle.sflow_tool.proofs.TrueStands.{happened_at, set_true, stood_at}

-- ---- calls at a place

pub on_ok : {T E A B : Type 0} (r : Result T E) → OnOk r A → (A → B) → OnOk r B
on_ok (Ok x) h f = f h
on_ok (Err e) h f = tt

-- what was read there stands there
pub read_at : (subs old : List TrueState) (k : ℕ) (t : TrueState) → subs ≡ old → k < length subs → t ≡ slice_index_or subs k t
    → slice_get old k ≡ Some t
read_at subs old k t view within read =
    subst (λ (l : List TrueState). slice_get l k ≡ Some t) view (read-get subs k t within read)

-- a place of a sub-agent is one of those that are kept
pub past : (old : List TrueState) (lines : List Line) (k : ℕ) (b : BootSoFar) → TrueOf old lines
    → slice_get (boots_now lines) k ≡ Some b → length old ≤ k → ⊥
past old lines k b h at e =
    let s = stood_at old (boots_now lines) (earlier_now lines) k b h at in
    omega (arith, e, slice_get_within old k s.state s.there)

abbrev pub ObservesTo : SourceId → Seen → TrueState → TrueState → Type 0
ObservesTo source seen t t' =
    (sender : Sender) (s : SetupSaid) (events : List Event) (earlier : List (List Event)) (f : FlowSetup) (packet : Packet)
    → IsAmong f s.flows → id_in f.source ≡ source → seen ≡ seen_of s f events → IsShort s (Observe f packet ∷ events)
    → StandsFor sender s t events earlier → StandsFor sender s t' (Observe f packet ∷ events) earlier

abbrev pub PollsTo : ℕ → ℕ → TrueState → TrueState → Type 0
PollsTo uptime count t t' =
    (sender : Sender) (s : SetupSaid) (events : List Event) (earlier : List (List Event)) (readings : List Tree)
    → length readings ≡ count → IsShort s (Poll uptime readings ∷ events) → StandsFor sender s t events earlier
    → StandsFor sender s t' (Poll uptime readings ∷ events) earlier

abbrev pub SendsTo : ℕ → List Put → TrueState → TrueState → Type 0
SendsTo uptime puts t t' =
    (sender : Sender) (s : SetupSaid) (events : List Event) (earlier : List (List Event)) → HasAddress sender.agent
    → map bytes_of puts ≡ map (sent_bytes sender) (leaving s uptime (happened s events)) → s.stage < 2 ^ 32
    → MayHappen s events → StandsFor sender s t events earlier
    → StandsFor sender s t' (Send uptime (length puts) ∷ events) earlier

abbrev pub ResetsTo : Bool → SourceId → TrueState → TrueState → Type 0
ResetsTo is_flow source t t' =
    (sender : Sender) (s : SetupSaid) (events : List Event) (earlier : List (List Event))
    → IsAmong (source_as is_flow source) (flow_sources s ++ counter_sources s)
    → IsShort s (Reset (source_as is_flow source) ∷ events) → StandsFor sender s t events earlier
    → StandsFor sender s t' (Reset (source_as is_flow source) ∷ events) earlier

abbrev pub RestartsTo : TrueState → TrueState → Type 0
RestartsTo t t' =
    (sender : Sender) (s : SetupSaid) (events : List Event) (earlier : List (List Event))
    → StandsFor sender s t events earlier → StandsFor sender s t' [] (events ∷ earlier)

views_bytes : (puts : List Put) → map bytes_put (map put_view puts) ≡ map bytes_of puts
views_bytes [] = refl
views_bytes (p ∷ more) = ap (λ (l : List (List ℕ)). p.bytes.items ∷ l) (views_bytes more)

module _ (old : List TrueState) (k : ℕ) (t t' : TrueState) (there : slice_get old k ≡ Some t) (lines : List Line) (line : Line)
    (lawful : AreLawful (line ∷ lines)) (few : length lines < 2 ^ 32) (h : TrueOf old lines) where
  pub observed : (source : SourceId) (seen : Seen) → ObservesTo source seen t t' → Observes lines line k source seen
      → TrueOf (set old k t') (line ∷ lines)
  observed source seen does x =
      let fit = fit_at lines k x.boot lawful.2 few x.happens.there in
      happened_at old lines line k x.boot t t' there h (Observe x.flow x.packet) x.happens
      (λ behind now. does x.boot.sender x.boot.setup x.boot.events behind x.flow x.packet x.among x.source_is x.seen_is
      (fit.short (Observe x.flow x.packet)) now)

  pub polled : (uptime count : ℕ) → PollsTo uptime count t t' → PollsAt lines line k uptime count
      → TrueOf (set old k t') (line ∷ lines)
  polled uptime count does x =
      let fit = fit_at lines k x.boot lawful.2 few x.happens.there in
      happened_at old lines line k x.boot t t' there h (Poll uptime x.readings) x.happens
      (λ behind now. does x.boot.sender x.boot.setup x.boot.events behind x.readings x.count_is
      (fit.short (Poll uptime x.readings)) now)

  pub sent : (uptime : ℕ) (puts : List Put) (s : Sent) → SendsTo uptime puts t t' → map put_view puts ≡ s.datagrams.taken
      → SendsAt lines line k uptime s → TrueOf (set old k t') (line ∷ lines)
  sent uptime puts s does taken x =
      let fit = fit_at lines k x.boot lawful.2 few x.happens.there in
      let many : length puts ≡ length s.datagrams.taken = sym (length-map puts put_view) ∙ ap length taken in
      let bytes : map bytes_of puts ≡ map bytes_put s.datagrams.taken = sym (views_bytes puts) ∙ ap (map bytes_put) taken in
      happened_at old lines line k x.boot t t' there h (Send uptime (length s.datagrams.taken)) x.happens
      (λ behind now.
      subst (λ (n : ℕ). StandsFor x.boot.sender x.boot.setup t' (Send uptime n ∷ x.boot.events) behind) many
      (does x.boot.sender x.boot.setup x.boot.events behind fit.address (bytes ∙ x.bytes_are) fit.stage fit.may now))

  pub was_reset : (is_flow : Bool) (source : SourceId) → ResetsTo is_flow source t t' → ResetsAt lines line k is_flow source
      → TrueOf (set old k t') (line ∷ lines)
  was_reset is_flow source does x =
      let fit = fit_at lines k x.boot lawful.2 few x.happens.there in
      happened_at old lines line k x.boot t t' there h (Reset (source_as is_flow source)) x.happens
      (λ behind now. does x.boot.sender x.boot.setup x.boot.events behind x.among
      (fit.short (Reset (source_as is_flow source))) now)

pub restarted : (old : List TrueState) (k : ℕ) (t t' : TrueState) → slice_get old k ≡ Some t → (lines : List Line) (line : Line)
    → TrueOf old lines → RestartsTo t t' → RestartsAt lines line k → TrueOf (set old k t') (line ∷ lines)
restarted old k t t' there lines line h does x =
    let s = stood_at old (boots_now lines) (earlier_now lines) k x.boot h x.there in
    let state : s.state ≡ t = same_Some _ _ (sym s.there ∙ there) in
    let behind : s.behind ≡ x.behind = same_Some _ _ (sym s.behind_is ∙ x.behind_is) in
    let first : StandsFor x.boot.sender x.boot.setup t x.boot.events s.behind =
    subst (λ (v : TrueState). StandsFor x.boot.sender x.boot.setup v x.boot.events s.behind) state s.stands in
    let now : StandsFor x.boot.sender x.boot.setup t x.boot.events x.behind =
    subst (StandsFor x.boot.sender x.boot.setup t x.boot.events) behind first in
    let made = set_true old (boots_now lines) (earlier_now lines) k t' (next_boot x.boot) (x.boot.events ∷ x.behind) h
    (does x.boot.sender x.boot.setup x.boot.events x.behind now) in
    let boots : StandTrue (set old k t') (boots_now (line ∷ lines)) (set (earlier_now lines) k (x.boot.events ∷ x.behind)) =
    subst (λ (l : List BootSoFar). StandTrue (set old k t') l (set (earlier_now lines) k (x.boot.events ∷ x.behind)))
    (sym x.boots) made in
    subst (StandTrue (set old k t') (boots_now (line ∷ lines))) (sym x.earlier) boots

-- ---- the opening

abbrev pub IsOpened : TrueState → Setup → Type 0
IsOpened t u =
    (sender : Sender) (s : SetupSaid) → IsSetUp s → s.first ≡ u.first → s.flows ≡ map sampled_as u.flows.items
    → s.counters ≡ map polled_as u.counters.items → StandsFor sender s t [] []

each_push : {A B : Type 0} (P : A → B → Type 0) (xs : List A) (ys : List B) (x : A) (y : B) → Each P xs ys → P x y
    → Each P (xs ++ x ∷ []) (ys ++ y ∷ [])
each_push P [] [] x y h p = (p, tt)
each_push P [] (b ∷ ys) x y h p = absurd h
each_push P (a ∷ xs) [] x y h p = absurd h
each_push P (a ∷ xs) (b ∷ ys) x y h p = (h.0, each_push P xs ys x y h.1 p)

pub next_open : (trues trues' : List TrueState) (setups setups' : List Setup) (t : TrueState) (u : Setup)
    → Each IsOpened trues setups → IsOpened t u → trues' ≡ trues ++ t ∷ [] → setups' ≡ setups ++ u ∷ [] → Each IsOpened trues' setups'
next_open trues trues' setups setups' t u h new pushed next =
    subst (λ (l : List Setup). Each IsOpened trues' l) (sym next)
    (subst (λ (l : List TrueState). Each IsOpened l (setups ++ u ∷ [])) (sym pushed) (each_push IsOpened trues setups t u h new))

-- what a set-up says of a sub-agent
record IsSaid (lines : List Line) (s : SubAgent) (u : Setup) : Type 0 where
  first : (setup_of lines s).first ≡ u.first
  flows : (setup_of lines s).flows ≡ map sampled_as u.flows.items
  counters : (setup_of lines s).counters ≡ map polled_as u.counters.items

is_said : (lines : List Line) (s : SubAgent) (u : Setup) → setup_said u ≡ said_of lines s → IsSaid lines s u
unfolding setup_of
is_said lines s u e = record {
  first = ap (λ (d : Said). d.first) (sym e);
  flows = ap (λ (d : Said). d.flows) (sym e);
  counters = ap (λ (d : Said). d.counters) (sym e);
}

one_open : (lines : List Line) (s : SubAgent) (u : Setup) (t : TrueState) → AreLawful lines → list_all sets_up lines ≡ true
    → setup_said u ≡ said_of lines s → IsOpened t u
    → StandsFor (sender_of lines s) (setup_of lines s) t (newest (boots_of lines s)).events (events_behind (boots_of lines s))
one_open lines s u t lawful all said new =
    let x = is_said lines s u said in
    subst (λ (boots : List AgentBoot). StandsFor (sender_of lines s) (setup_of lines s) t (newest boots).events
    (events_behind boots))
    (sym (none_yet lines s all))
    (new (sender_of lines s) (setup_of lines s) (is_set_up lines s lawful) x.first x.flows x.counters)

each_open : (lines : List Line) (trues : List TrueState) (setups : List Setup) (xs : List SubAgent) → AreLawful lines
    → list_all sets_up lines ≡ true → Each IsOpened trues setups → map setup_said setups ≡ map (said_of lines) xs
    → StandTrue trues (map (boot_now lines) xs) (map (λ (s : SubAgent). events_behind (boots_of lines s)) xs)
each_open lines [] [] [] lawful all h said = tt
each_open lines [] [] (x ∷ xs) lawful all h said = absurd cc
each_open lines [] (u ∷ setups) xs lawful all h said = absurd h
each_open lines (t ∷ trues) [] xs lawful all h said = absurd h
each_open lines (t ∷ trues) (u ∷ setups) [] lawful all h said = absurd cc
each_open lines (t ∷ trues) (u ∷ setups) (x ∷ xs) lawful all h said =
    let one : setup_said u ≡ said_of lines x = cc in
    let others : map setup_said setups ≡ map (said_of lines) xs = cc in
    (one_open lines x u t lawful all one h.0, each_open lines trues setups xs lawful all h.1 others)

pub opened : (lines : List Line) (trues : List TrueState) (setups : List Setup) → AreLawful lines → list_all sets_up lines ≡ true
    → AreSetUp lines setups → Each IsOpened trues setups → TrueOf trues lines
opened lines trues setups lawful all said h = each_open lines trues setups (reverse (subs_in lines)) lawful all h said
