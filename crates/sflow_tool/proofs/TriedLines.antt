-- What is kept beside the device of a script, behind one line more. Every list of lines and deliveries has the LATEST FIRST.
use Rattle.std.proofs.Common.{Result, Ok, Err, OnErr, OnOk, IfNone, is_err, ◌≡◌, ◌&&◌, ◌∙◌, ◌≤◌, ◌<◌, ◌^◌, ◌++◌, ℕ, zero, suc, true, false, Bool, List, [], ◌∷◌, length, map, reverse, Option, Some, None, refl, sym, ap, subst, arith, slice_get}
use Rattle.std.specs.Prelude.{option_map, option_and_then, is_some}
use Rattle.std.specs.List.{list_all}
use Rattle.std.proofs.lemmas.List.{length-map}
use Rattle.std.proofs.lemmas.Option.{same_Some, slice_get-map}
use Rattle.std.proofs.lemmas.Bool.{and_from, true≢false}
use Rattle.wire_spec.specs.Captures.{Entry}
use Rattle.books_spec.specs.Books.{most_entries}
use Rattle.books_spec.specs.SampledHeaders.{HeaderedItem}
use Rattle.books_spec.specs.declared.limits.Limits.{Limits}
use Rattle.capture_spec.specs.Items.{sent_by}
use Rattle.agent_spec.specs.Samples.{Datagram, Sample}
use Rattle.agent_spec.specs.Spelled.{sent_bytes}
use Rattle.account_spec.specs.Histories as account
use Rattle.account_spec.specs.Histories.{IsHistory, stream_in}
use Rattle.account_spec.specs.Deliveries as deliveries
use Rattle.account_spec.specs.Deliveries.{id_of}
use Rattle.script_spec.specs.Lines.{Line, MaxLine, SubLine, FlowLine, CounterLine, PacketLine, PollLine, SendLine, RestartLine, ResetLine, DeliverLine, SubAgent, Delivery}
use Rattle.script_spec.specs.Rules.{sets_up}
use Rattle.script_spec.specs.Agents.{AgentBoot, boots_of, delivered, datagrams_of, numbered, sender_of, subs_in}
use Rattle.script_spec.specs.Sent.{all_delivered, delivery_in}
use Rattle.script_laws.specs.Lawful.{AreLawful}
use Rattle.script_histories.specs.Histories.{IsOneMore, agent_in, arrival_of, deliveries_of, history_of, without_boots}
use Rattle.script_histories.proofs.Deliveries.{none_delivered}
use Rattle.script_histories.proofs.Histories.{agent_at, is_history, sub_at}
use Rattle.script_histories.proofs.MoreLines.{one_more, other_deliveries}
use Rattle.script_histories.proofs.Reaching.{Reaches, reached}
use Rattle.script_histories.proofs.SetUpsStay.{same_set_ups}
use Rattle.sample_taps.specs.declared.brief.Brief.{Brief}
use Rattle.flow_collector.specs.Collectors as collectors
use Rattle.flow_collector.specs.Collectors.{CollectorState}
use Rattle.sample_taps.specs.Classes.{no_classes}
use Rattle.flow_collector.specs.Gathering.{Gathered}
use Rattle.flow_collector.specs.Headers.{headered_entry}
use Rattle.true_samples.specs.Pairs as pairs
use Rattle.true_samples.specs.Samples.{IsIssued}
use Rattle.true_samples.specs.States.{SentState, TrueState}
use Rattle.true_samples.specs.declared.samples.IssuedSample.{IssuedSample}
use Rattle.trial_premises.specs.Pairs.{Each}
use Rattle.trial_premises.specs.Delivered.{AreSamples, IsOf}
use Rattle.trial_premises.specs.Premises.{HaveSources, PremiseState, StandsFor}
use Rattle.trial_premises.specs.Streams as streams
use Rattle.trial_premises.specs.Streams.{StreamState, ids_of}
use Rattle.trial_premises.specs.declared.delivered.TrueDatagram.{TrueDatagram}
use Rattle.trial_premises.specs.declared.delivered.TrueSample.{TrueSample}
use Rattle.sub_agents.specs.SubAgents.{BootSoFar}
use Rattle.sflow_tool.specs.Replays.{Collects}
use Rattle.agent_setups.specs.declared.setup.Setup.{Setup as SetupIn}
use Rattle.script_tables.specs.Said.{AreSetUp}
use Rattle.sflow_tool.specs.ScriptBoots.{boot_now, boots_now}
use Rattle.sflow_tool.specs.ScriptRuns as script_runs
use Rattle.sflow_tool.specs.Steps.{ArrivesFrom}
use Rattle.sflow_tool.specs.Trials.{HasTried, IsOpen, IsTried, TrialStands, received_in, true_sample}
use Rattle.sflow_tool.specs.declared.trial_run.TrialRun.{TrialRun}
use Rattle.sflow_tool.specs.Trues.{Finds, StandTrue, TrueOf, earlier_now}
use Rattle.sflow_tool.specs.declared.trial_run.Tried.{Tried}
use Rattle.sflow_tool.proofs.Items.{none_taken, one_taken}
use Rattle.sflow_tool.specs.Steps.{IsStep}
use Rattle.sflow_tool.specs.declared.script_run.ScriptRun.{ScriptRun}
use Rattle.sflow_tool.specs.declared.step.Step.{Step}
use Rattle.sflow_tool.specs.declared.step.Step.TheVariants as steps
use Rattle.script_laws.proofs.Happens.{in_order}
use Rattle.sflow_tool.proofs.Arrived.{nothing_arrived, one_received, still_received}

-- ---- what stands for a history stands for one with the same set-ups

module _ (l : Limits) (ds : List deliveries.Delivery) where
  abbrev Stands : account.SubAgent → StreamState → Type 0
  Stands a s = streams.StandsFor l (ids_of a) s (deliveries.deliveries_of (stream_in a) ds)

  one_carried : (a b : account.SubAgent) (s : StreamState) → without_boots a ≡ without_boots b → Stands a s → Stands b s
  one_carried a b s e h = subst (λ (x : account.SubAgent). Stands x s) e h

  each_carried : (os bs : List account.SubAgent) (states : List StreamState) → map without_boots os ≡ map without_boots bs
      → Each Stands os states → Each Stands bs states
  each_carried [] [] states e h = h
  each_carried [] (b ∷ bs) states e h = absurd cc
  each_carried (a ∷ os) [] states e h = absurd cc
  each_carried (a ∷ os) (b ∷ bs) [] e h = absurd h
  each_carried (a ∷ os) (b ∷ bs) (s ∷ states) e h =
      let first : without_boots a ≡ without_boots b = cc in
      let others : map without_boots os ≡ map without_boots bs = cc in
      (one_carried a b s first h.0, each_carried os bs states others h.1)

carried : (line : Line) (lines : List Line) (p : PremiseState) (ds : List deliveries.Delivery) → sets_up line ≡ false
    → StandsFor p (history_of lines) ds → StandsFor p (history_of (line ∷ lines)) ds
carried line lines p ds sets h = record {
  streams_stand = each_carried p.limits ds (history_of lines) (history_of (line ∷ lines)) p.streams
      (sym (same_set_ups line lines sets)) h.streams_stand;
}

-- a line that sets nothing up and delivers nothing
pub premises_stay : (line : Line) (lines : List Line) (p : PremiseState) → sets_up line ≡ false → delivery_in line ≡ None
    → StandsFor p (history_of lines) (deliveries_of lines)
    → StandsFor p (history_of (line ∷ lines)) (deliveries_of (line ∷ lines))
premises_stay line lines p sets none h =
    subst (StandsFor p (history_of (line ∷ lines))) (sym (other_deliveries line lines none))
    (carried line lines p (deliveries_of lines) sets h)

-- ---- the datagram that a line delivers

boot_counted : {X Y : Type 0} (bs : List X) (next : X → Option Y) (n : ℕ) (y : Y)
    → option_and_then next (numbered bs n) ≡ Some y → 1 ≤ n
boot_counted bs next zero y e = absurd cc
boot_counted bs next (suc n) y e = omega arith

counted : (lines : List Line) (d : Delivery) → Reaches lines d → 1 ≤ d.boot
counted lines d r =
    boot_counted (reverse (boots_of lines r.sub)) (λ (b : AgentBoot). numbered (datagrams_of lines r.sub b) d.number) d.boot r.datagram
    r.of_sub

samples_are : (a : account.SubAgent) (ts : List IssuedSample) (xs : List Sample) → pairs.Each (IsIssued a.setup) ts xs
    → AreSamples (ids_of a) (map true_sample ts) xs
samples_are a [] [] h = tt
samples_are a [] (x ∷ xs) h = absurd h
samples_are a (t ∷ ts) [] h = absurd h
samples_are a (t ∷ ts) (x ∷ xs) h = (
  record {
    source = slice_get-map id_of (streams.sources_of a) t.source ∙ ap (option_map id_of) h.0.source;
    generation = h.0.generation;
    counted = h.0.counted;
    number = h.0.number;
    pool = h.0.pool;
    drops = h.0.drops;
  },
  samples_are a ts xs h.1,
)

-- what a delivery makes of the premises, for all histories
abbrev pub Enters : PremiseState → PremiseState → ℕ → TrueDatagram → List TrueSample → Type 0
Enters old new place e samples =
    (history : List account.SubAgent) (a : account.SubAgent) (d : deliveries.Delivery) (before : List deliveries.Delivery)
    → IsHistory history → slice_get history place ≡ Some a → d.stream ≡ stream_in a → IsOf e d
    → AreSamples (ids_of a) samples d.datagram.samples → StandsFor old history before → StandsFor new history (d ∷ before)

module _ (lines : List Line) (line : Line) (place boot number at : ℕ) (lawful : AreLawful (line ∷ lines))
    (x : ArrivesFrom lines line place boot number at) (t : SentState) (f : Finds lines place boot number at t) where
  abbrev d : Delivery
  d = record { id = f.sub.id; boot = boot; number = number; at = at }

  same : x.sub ≡ f.sub
  same = same_Some _ _ (sym x.there ∙ f.there)

  line_is : line ≡ DeliverLine d
  line_is =
      x.line_is
      ∙ ap (λ (s : SubAgent). DeliverLine (record { id = s.id; boot = boot; number = number; at = at })) same

  lawful_line : AreLawful (DeliverLine d ∷ lines)
  lawful_line = subst (λ (k : Line). AreLawful (k ∷ lines)) line_is lawful

  one : IsOneMore lines d
  one = one_more lines d lawful_line

  abbrev its : deliveries.Delivery
  its = arrival_of d f.sub f.datagram

  delivery_its : one.delivery ≡ its
  delivery_its =
      same_Some _ _
      (sym one.delivery_is
      ∙ ap (option_and_then (λ (s : SubAgent). option_map (arrival_of d s) (delivered lines d)))
      (sub_at lines place f.sub lawful_line.2 f.there)
      ∙ ap (option_map (arrival_of d f.sub)) f.is)

  entry_its : one.entry ≡ record { arrival = at; bytes = t.bytes }
  entry_its =
      same_Some _ _
      (sym one.entry_is
      ∙ ap (option_and_then (λ (s : SubAgent). option_map (λ (y : Datagram). record { arrival = at; bytes = sent_bytes (sender_of lines s) y })
      (delivered lines d))) (sub_at lines place f.sub lawful_line.2 f.there)
      ∙ ap (option_map (λ (y : Datagram). record { arrival = at; bytes = sent_bytes (sender_of lines f.sub) y })) f.is
      ∙ ap (λ (b : List ℕ). Some (record { arrival = at; bytes = b })) (sym f.sent.bytes))

  pub entered : (old new : PremiseState) (n u : ℕ) (samples : List TrueSample) → n ≡ t.number → u ≡ t.uptime
      → samples ≡ map true_sample t.samples
      → Enters old new place (record { boot = boot; number = n; uptime = u; arrival = at }) samples
      → StandsFor old (history_of lines) (deliveries_of lines)
      → StandsFor new (history_of (line ∷ lines)) (deliveries_of (line ∷ lines))
  entered old new n u samples n_is u_is samples_is enters h =
      let of_it : IsOf (record { boot = boot; number = n; uptime = u; arrival = at }) its =
      record {
        boot = refl;
        counted = counted lines d (reached lines d f.datagram f.is);
        number = f.sent.number ∙ sym n_is;
        uptime = f.sent.uptime ∙ sym u_is;
        arrival = refl;
      } in
      let stands : StandsFor new (history_of lines) (its ∷ deliveries_of lines) =
      enters (history_of lines) (agent_in lines f.sub) its (deliveries_of lines) (is_history lines lawful_line.2)
      (agent_at lines place f.sub f.there) refl of_it
      (subst (λ (ss : List TrueSample). AreSamples (ids_of (agent_in lines f.sub)) ss f.datagram.samples) (sym samples_is)
      (samples_are (agent_in lines f.sub) t.samples f.datagram.samples f.sent.samples))
      h in
      let all : StandsFor new (history_of (DeliverLine d ∷ lines)) (deliveries_of (DeliverLine d ∷ lines)) =
      subst (StandsFor new (history_of (DeliverLine d ∷ lines)))
      (sym (one.deliveries ∙ ap (λ (y : deliveries.Delivery). y ∷ deliveries_of lines) delivery_its))
      (carried (DeliverLine d) lines new (its ∷ deliveries_of lines) refl stands) in
      subst (λ (k : Line). StandsFor new (history_of (k ∷ lines)) (deliveries_of (k ∷ lines))) (sym line_is) all

  -- what was counted stands for the same
  pub trues_stay : (trues : List TrueState) → TrueOf trues lines → TrueOf trues (line ∷ lines)
  trues_stay trues h =
      subst (λ (bs : List BootSoFar). StandTrue trues bs (earlier_now (line ∷ lines))) (sym x.boots)
      (subst (StandTrue trues (boots_now lines)) (sym x.earlier) h)

  received_its : received_in (line ∷ lines) ≡ received_in lines ++ sent_by None (record { arrival = at; bytes = t.bytes }) ∷ []
  received_its =
      ap (λ (k : Line). received_in (k ∷ lines)) line_is
      ∙ one_received d lines one
      ∙ ap (λ (e : Entry). received_in lines ++ sent_by None e ∷ []) entry_its

  -- the collector took it
  pub collected : {X : Type 0} (step : X → Brief → X → Type 0) (done : X → Bool) (m : Limits) (old new : CollectorState)
      (xs ys zs : List X) (all left left' : ℕ) (bytes : List ℕ) → bytes ≡ t.bytes → length (all_delivered lines) < 2 ^ 48
      → Collects step done m old xs ys all left (received_in lines)
      → ((k : Limits) (items : List HeaderedItem) (us : List X) → length items < most_entries
      → Gathered step done old k items us ys → Gathered step done new k (headered_entry at bytes ∷ items) us zs)
      → left' ≡ left → Collects step done m new xs zs all left' (received_in (line ∷ lines))
  collected step done m old new xs ys zs all left left' bytes same_bytes few so_far takes kept =
      subst (Collects step done m new xs zs all left') (sym received_its)
      (one_taken step done m old new xs ys zs all left left' (received_in lines)
      (sent_by None (record { arrival = at; bytes = t.bytes }))
      (omega (arith, few, length-map (all_delivered lines) (λ (e : Entry). sent_by None e))) so_far
      (λ k items us fewer g.
      subst (λ (b : List ℕ). Gathered step done new k (headered_entry at b ∷ items) us zs) same_bytes (takes k items us fewer g))
      kept)

-- ---- it is opened

list_sets : (lines : List Line) (t : TrialRun) → TrialStands t lines → is_some t.tried ≡ false → list_all sets_up lines ≡ true
list_sets lines t h none = go t.tried none h.tried
  where
    go : (o : Option Tried) → is_some o ≡ false → HasTried t.limits o lines → list_all sets_up lines ≡ true
    go None e a = a
    go (Some x) e a = absurd cc

-- it is open already
pub still_open : (t : TrialRun) (lines : List Line) → is_some t.tried ≡ true → TrialStands t lines → IsOpen t lines
still_open t lines some h = go t.tried refl some h.tried
  where
    go : (o : Option Tried) → t.tried ≡ o → is_some o ≡ true → HasTried t.limits o lines → IsOpen t lines
    go None is e a = absurd cc
    go (Some x) is e a = record { run = h.run; tried = x; is_open = is; stands = a.0 }

abbrev sources_in : BootSoFar → ℕ
sources_in b = length (account.flow_sources b.setup ++ account.counter_sources b.setup)

have_sources : (lines : List Line) (xs : List SubAgent)
    → HaveSources (map (agent_in lines) xs) (map sources_in (map (boot_now lines) xs))
have_sources lines [] = tt
have_sources lines (x ∷ xs) = (refl, have_sources lines xs)

pub open_now : (old : TrialRun) (t : Tried) (setups : List SetupIn) (counts : List ℕ) (lines : List Line)
    → is_some old.tried ≡ false → TrialStands old lines
    → ((ls : List Line) → script_runs.StandsFor old.run ls → list_all sets_up ls ≡ true → AreSetUp ls setups)
    → ((ls : List Line) → AreLawful ls → list_all sets_up ls ≡ true → AreSetUp ls setups → TrueOf t.trues ls)
    → ((ls : List Line) → TrueOf t.trues ls → counts ≡ map sources_in (boots_now ls))
    → ((history : List account.SubAgent) → HaveSources history counts → StandsFor t.premises history [])
    → t.premises.limits ≡ old.limits → IsOpen (record old { tried = Some t }) lines
open_now old t setups counts lines none h said trues many stands same =
    let sets : list_all sets_up lines ≡ true = list_sets lines old h none in
    let true_now : TrueOf t.trues lines = trues lines h.run.lawful sets (said lines h.run sets) in
    let counted_so : HaveSources (history_of lines) counts =
    subst (HaveSources (history_of lines)) (sym (many lines true_now)) (have_sources lines (reverse (subs_in lines))) in
    record {
      run = h.run;
      tried = t;
      is_open = refl;
      stands = record {
        trues = true_now;
        premises_stand = subst (StandsFor t.premises (history_of lines)) (sym (none_delivered lines sets))
            (stands (history_of lines) counted_so);
        limits_are = same;
      };
    }

-- ---- one line more

sets_none : (line : Line) → sets_up line ≡ true → delivery_in line ≡ None
sets_none (MaxLine bytes) e = refl
sets_none (SubLine s) e = refl
sets_none (FlowLine id f) e = refl
sets_none (CounterLine id c) e = refl
sets_none (PacketLine p k) e = absurd cc
sets_none (PollLine id now) e = absurd cc
sets_none (SendLine id now) e = absurd cc
sets_none (RestartLine id at) e = absurd cc
sets_none (ResetLine s) e = absurd cc
sets_none (DeliverLine d) e = absurd cc

-- a line that sets something up
pub set_more : (t : TrialRun) (run : ScriptRun) (line : Line) (lines : List Line) → sets_up line ≡ true
    → script_runs.StandsFor run (line ∷ lines) → TrialStands t lines → TrialStands (record t { run = run }) (line ∷ lines)
set_more t run line lines sets now h = record { run = now; tried = go t.tried h.tried }
  where
    before : list_all sets_up lines ≡ true
    before = in_order line lines now.lawful.1 sets

    go : (o : Option Tried) → HasTried t.limits o lines → HasTried t.limits o (line ∷ lines)
    go None a = and_from (sets_up line) (list_all sets_up lines) sets before
    go (Some x) a = absurd (true≢false (sym before ∙ a.1))

-- and what has arrived
pub set_received : (line : Line) (lines : List Line) (run : ScriptRun) → sets_up line ≡ true
    → script_runs.StandsFor run (line ∷ lines) → received_in (line ∷ lines) ≡ received_in lines
set_received line lines run sets now = still_received line lines now.lawful (sets_none line sets)

list_none : (line : Line) (lines : List Line) → sets_up line ≡ false → list_all sets_up (line ∷ lines) ≡ false
list_none line lines e = ap (λ (b : Bool). b && list_all sets_up lines) e

-- a line that makes the device do something
pub acted_more : (l : Limits) (run : ScriptRun) (tried : Tried) (line : Line) (lines : List Line) → sets_up line ≡ false
    → script_runs.StandsFor run (line ∷ lines) → IsTried l tried (line ∷ lines)
    → TrialStands (record { run = run; limits = l; tried = Some tried }) (line ∷ lines)
acted_more l run tried line lines sets now h = record { run = now; tried = (h, list_none line lines sets) }

-- what is open is this
pub open_as : (t : TrialRun) (x : Tried) (lines : List Line) → IsOpen t lines → t.tried ≡ Some x → IsTried t.limits x lines
open_as t x lines h is = subst (λ (y : Tried). IsTried t.limits y lines) (same_Some _ _ (sym h.is_open ∙ is)) h.stands

pub not_open : (t : TrialRun) (lines : List Line) → IsOpen t lines → t.tried ≡ None → ⊥
not_open t lines h is = let bad : Some h.tried ≡ None = sym h.is_open ∙ is in cc

-- ---- what a step delivers

abbrev pub IsDelivery : Step → Bool
IsDelivery (steps.Delivered place boot number at) = true
IsDelivery other = false

pub not_delivery : (step : Step) → ((place boot number at : ℕ) → step ≡ steps.Delivered place boot number at → ⊥)
    → IsDelivery step ≡ false
not_delivery steps.SetUp other = refl
not_delivery (steps.Observed place source seen) other = refl
not_delivery (steps.Polled place now count) other = refl
not_delivery (steps.Sent place now sent) other = refl
not_delivery (steps.Restarted place) other = refl
not_delivery (steps.Reset place flow source) other = refl
not_delivery (steps.Delivered place boot number at) other = absurd (other place boot number at refl)

pub quiet_step : (lines : List Line) (line : Line) (step : Step) → IsStep lines line step → IsDelivery step ≡ false
    → delivery_in line ≡ None
quiet_step lines line steps.SetUp h e = sets_none line h
quiet_step lines line (steps.Observed place source seen) h e = h.happens.delivers_none
quiet_step lines line (steps.Polled place now count) h e = h.happens.delivers_none
quiet_step lines line (steps.Sent place now sent) h e = h.happens.delivers_none
quiet_step lines line (steps.Restarted place) h e = h.delivers_none
quiet_step lines line (steps.Reset place flow source) h e = h.happens.delivers_none
quiet_step lines line (steps.Delivered place boot number at) h e = absurd cc

-- the rest of what is kept follows what was counted
pub tried_more : (l : Limits) (old : Tried) (trues : List TrueState) (line : Line) (lines : List Line) → sets_up line ≡ false
    → delivery_in line ≡ None → TrueOf trues (line ∷ lines) → IsTried l old lines
    → IsTried l (record old { trues = trues }) (line ∷ lines)
tried_more l old trues line lines sets none now h = record {
  trues = now;
  premises_stand = premises_stay line lines old.premises sets none h.premises_stand;
  limits_are = h.limits_are;
}

-- a line that delivers nothing leaves the collector its work
pub still_collected : {X : Type 0} (step : X → Brief → X → Type 0) (done : X → Bool) (m : Limits) (now : CollectorState)
    (xs ys : List X) (all left : ℕ) (line : Line) (lines : List Line) → AreLawful (line ∷ lines) → delivery_in line ≡ None
    → Collects step done m now xs ys all left (received_in lines)
    → Collects step done m now xs ys all left (received_in (line ∷ lines))
still_collected step done m now xs ys all left line lines lawful none h =
    subst (Collects step done m now xs ys all left) (sym (still_received line lines lawful none)) h

pub set_collected : {X : Type 0} (step : X → Brief → X → Type 0) (done : X → Bool) (m : Limits) (now : CollectorState)
    (xs ys : List X) (all left : ℕ) (line : Line) (lines : List Line) (run : ScriptRun) → sets_up line ≡ true
    → script_runs.StandsFor run (line ∷ lines) → Collects step done m now xs ys all left (received_in lines)
    → Collects step done m now xs ys all left (received_in (line ∷ lines))
set_collected step done m now xs ys all left line lines run sets stands h =
    still_collected step done m now xs ys all left line lines stands.lawful (sets_none line sets) h

-- what wasn't touched is as it was
pub err_same : {T E A B : Type 0} (r : Result T E) (a : A) (b : B) → OnErr r ((a ≡ a) × (b ≡ b))
err_same (Ok x) a b = tt
err_same (Err e) a b = (refl, refl)

-- it was opened
pub opened_so : {T E : Type 0} {old new : TrialRun} (r : Result T E) (b : Bool) → b ≡ is_err r → b ≡ false
    → OnOk r ((ls : List Line) → TrialStands old ls → IsOpen new ls) → (lines : List Line) → TrialStands old lines
    → IsOpen new lines
opened_so (Ok x) b is ok h lines stands = h lines stands
opened_so (Err e) b is ok h lines stands = absurd (true≢false (sym is ∙ ok))

-- nothing was found where something was sent
pub nothing_found : {X : Type 0} (o : Option X) → ((x : X) → o ≡ Some x → ⊥) → IfNone o ⊥ → ⊥
nothing_found None other h = h
nothing_found (Some x) other h = other x refl

-- before the first line
pub none_collected : {X : Type 0} (step : X → Brief → X → Type 0) (done : X → Bool) (m : Limits) (now : CollectorState)
    (xs : List X) (all : ℕ) → collectors.StandsFor now.books m [] → now.classes ≡ no_classes
    → Collects step done m now xs xs all all (received_in [])
none_collected step done m now xs all stands classes =
    subst (Collects step done m now xs xs all all) (sym nothing_arrived) (none_taken step done m now xs all stands classes)

-- where nothing was touched
pub kept_collected : {X : Type 0} (step : X → Brief → X → Type 0) (done : X → Bool) (m : Limits) (old new : CollectorState)
    (xs ys zs : List X) (all left left' : ℕ) (lines : List Line) → new ≡ old → zs ≡ ys → left' ≡ left
    → Collects step done m old xs ys all left (received_in lines) → Collects step done m new xs zs all left' (received_in lines)
kept_collected {X} step done m old new xs ys zs all left left' lines same_now same_taps same_left h =
    subst (λ (s : CollectorState). Collects step done m s xs zs all left' (received_in lines)) (sym same_now)
    (subst (λ (us : List X). Collects step done m old xs us all left' (received_in lines)) (sym same_taps)
    (subst (λ (n : ℕ). Collects step done m old xs ys all n (received_in lines)) (sym same_left) h))
