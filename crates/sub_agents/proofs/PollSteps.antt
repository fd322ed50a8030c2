-- What a sub-agent stands for while it polls its sources one by one.
use Rattle.std.proofs.Common.{◌≡◌, ◌≢◌, ℕ, ◌+◌, inl, inr, List, [], ◌∷◌, ◌++◌, length, map, set, reverse, filter, refl, sym, ap, subst, ◌∙◌}
use Rattle.std.specs.Prelude.{slice_get}
use Rattle.std.specs.List.{AllByRecursion}
use Rattle.std.proofs.lemmas.Bool.{cases_Bool}
use Rattle.std.proofs.lemmas.List.{reverse-append}
use Rattle.std.specs.declared.option.Option.TheVariants.{Some}
use Rattle.circular_buffer.specs.Buffer.{buffer}
use Rattle.wire_spec.specs.Shapes.{Tree, known, none, ◌&◌}
use Rattle.data_format.specs.declared.heads.Form.{Form}
use Rattle.data_format.specs.declared.heads.Form.TheVariants.{Compact, Expanded}
use Rattle.rec_counters.specs.Contents.{interface_content}
use Rattle.agent_spec.specs.Sources as spec
use Rattle.agent_spec.specs.Samples as samples
use Rattle.agent_spec.specs.Samples.{Sample}
use Rattle.agent_spec.specs.Spelled.{sample_tree}
use Rattle.agent_spec.specs.Events.{Event, Poll, turn_after}
use Rattle.agent_spec.specs.Polls.{is_due_after}
use Rattle.agent_spec.specs.Boots.{Boot, is_sample_of, seen_in, issued_in, dropped_in, last_poll, is_due, counter_sample, after_poll}
use Rattle.agent_spec.proofs.Lists.{filter-yes, filter-no}
use Rattle.agent_spec.proofs.Keys.{other-turn}
use Rattle.agent_spec.proofs.Turns.{turn-stays}
use Rattle.agent_sampler.specs.Following as flows
use Rattle.agent_poller.specs.Following as polls
use Rattle.agent_poller.specs.Following.{after_one}
use Rattle.agent_poller.specs.Polling as polling
use Rattle.agent_poller.specs.Polling.{PollerState, number_behind}
use Rattle.agent_poller.proofs.Follows.{own-poll, other-poll}
use Rattle.sub_agents.specs.declared.sources.FlowSource.{FlowSource}
use Rattle.sub_agents.specs.declared.staged.Staged.TheVariants.{Counters}
use Rattle.sub_agents.specs.declared.staged.StagedCounters.{StagedCounters}
use Rattle.sub_agents.specs.Setups.{form_of, flow_source, counter_source}
use Rattle.sub_agents.specs.Staged.{staged_value, counters_value, sample_value}
use Rattle.sub_agents.specs.Counts.{counter_setup, HasCounts, HasPolls, polled_sources}
use Rattle.agent_setups.specs.Ids.{AreDistinct}
use Rattle.sub_agents.specs.Polls.{is_due_at}
use Rattle.sub_agents.specs.SubAgents.{SubAgentState, HasCountsOf}
use Rattle.sub_agents.proofs.Lists.{each-get, each-set, each-map, map-last, some-eq, none-some}
use Rattle.sub_agents.proofs.Observed.{other-counter}

-- ---- one reading more

none-read : (now : ℕ) (ev : List Event) (due : List spec.CounterSetup) (b : Boot) → after_poll now ev due [] b ≡ b
none-read now ev [] b = refl
none-read now ev (c ∷ due) b = refl

pub nothing-read : (now : ℕ) (ev : List Event) (due : List spec.CounterSetup) (b : Boot) → b ≡ after_poll now ev due [] b
nothing-read now ev due b = sym (none-read now ev due b)

pub read-last : (now : ℕ) (ev : List Event) (due : List spec.CounterSetup) (rs : List Tree) (r : Tree) (b : Boot)
    (c : spec.CounterSetup) → slice_get due (length rs) ≡ Some c
    → after_poll now ev due (rs ++ r ∷ []) b ≡ after_one c (turn_after c.source ev) now r (after_poll now ev due rs b)
read-last now ev [] rs r b c e = none-some c e
read-last now ev (d ∷ due) [] r b c e =
    none-read now ev due (after_one d (turn_after d.source ev) now r b)
    ∙ ap (λ (k : spec.CounterSetup). after_one k (turn_after k.source ev) now r b) (some-eq d c e)
read-last now ev (d ∷ due) (x ∷ rs) r b c e =
    read-last now ev due rs r (after_one d (turn_after d.source ev) now x b) c e

-- ---- the sources that are due

module _ (now : ℕ) (ev : List Event) (b : Boot) where
  pub due-are : (ps : List PollerState)
      → AllByRecursion (λ (p : PollerState). HasPolls (polls.counts_in (turn_after (counter_source p.source) ev) b) p) ps
      → map counter_setup (filter (is_due_at now) ps) ≡ filter (is_due now ev b) (map counter_setup ps)
  due-are [] h = refl
  due-are (p ∷ ps) h =
      let rest : map counter_setup (filter (is_due_at now) ps) ≡ filter (is_due now ev b) (map counter_setup ps) = due-are ps h.1 in
      let same : is_due now ev b (counter_setup p) ≡ is_due_at now p =
      ap (λ (l : ℕ). is_due_after p.every l now) (sym h.0.last_is) in
      elim (cases_Bool (is_due_at now p)) [
        | inl due_now ↦
            ap (map counter_setup) (filter-yes (is_due_at now) p ps due_now)
            ∙ ap (λ (l : List spec.CounterSetup). counter_setup p ∷ l) rest
            ∙ sym (filter-yes (is_due now ev b) (counter_setup p) (map counter_setup ps) (same ∙ due_now))
        | inr later ↦
            ap (map counter_setup) (filter-no (is_due_at now) p ps later) ∙ rest
            ∙ sym (filter-no (is_due now ev b) (counter_setup p) (map counter_setup ps) (same ∙ later))
      ]

-- ---- a sample of counters

sample-is : (form : Form) (p : PollerState) (t : spec.Turn) (b : Boot) (st : StagedCounters)
    → t.source ≡ counter_source p.source → st.head.source ≡ p.source
    → st.head.sequence ≡ number_behind p.first (issued_in t b)
    → staged_value form (Counters st)
    ≡ sample_value (form_of form) (counter_sample (counter_setup p) t (interface_content st.counters).0 b)
sample-is Compact p t b st own source number =
    (λ i. counters_value Compact (record { sequence = number i; source = source i })
    (known 1 (interface_content st.counters).0 [] & none))
    ∙ ap (λ (k : spec.Source). sample_tree (form_of Compact) k
    (counter_sample (counter_setup p) t (interface_content st.counters).0 b)
    (samples.Counted (interface_content st.counters).0)) (sym own)
sample-is Expanded p t b st own source number =
    (λ i. counters_value Expanded (record { sequence = number i; source = source i })
    (known 1 (interface_content st.counters).0 [] & none))
    ∙ ap (λ (k : spec.Source). sample_tree (form_of Expanded) k
    (counter_sample (counter_setup p) t (interface_content st.counters).0 b)
    (samples.Counted (interface_content st.counters).0)) (sym own)

-- ---- one source

-- the source at a place was polled
pub polled-step : (v : SubAgentState) (ev : List Event) (b : Boot) (place : ℕ) (p q : PollerState) (st : StagedCounters)
    (now : ℕ) → HasCountsOf v ev b → AreDistinct (polled_sources v.pollers) → slice_get v.pollers place ≡ Some p
    → counter_setup q ≡ counter_setup p
    → ((issued last : ℕ) → polling.StandsFor p issued last → polling.StandsFor q (1 + issued) now)
    → ((issued last : ℕ) → polling.StandsFor p issued last → st.head.sequence ≡ number_behind p.first issued)
    → st.head.source ≡ p.source
    → HasCountsOf (record v { pollers = set v.pollers place q; stage = buffer (v.stage.items ++ Counters st ∷ []) v.stage.capacity })
    ev (after_one (counter_setup p) (turn_after (counter_source p.source) ev) now (interface_content st.counters).0 b)
polled-step v ev b place p q st now h apart at setup stands number source =
    let c : spec.CounterSetup = counter_setup p in
    let r : Tree = (interface_content st.counters).0 in
    let t : spec.Turn = turn_after (counter_source p.source) ev in
    let x : Sample = counter_sample c t r b in
    let after : Boot = after_one c t now r b in
    let C : FlowSource → Type 0 = λ z. HasCounts (flows.counts_in (turn_after (flow_source z.source) ev) b) z in
    let D : FlowSource → Type 0 = λ z. HasCounts (flows.counts_in (turn_after (flow_source z.source) ev) after) z in
    let still : (z : FlowSource) → C z → D z = λ z k.
    let tz : spec.Turn = turn_after (flow_source z.source) ev in
    let same : length (filter (is_sample_of tz) (x ∷ b.issued)) ≡ issued_in tz b =
    ap length (filter-no (is_sample_of tz) x b.issued (other-turn tz t refl)) in
    subst (λ (n : ℕ). HasCounts (record { packets = seen_in tz b; issued = n; dropped = dropped_in tz b }) z) (sym same) k in
    let Q : PollerState → Type 0 = λ z. HasPolls (polls.counts_in (turn_after (counter_source z.source) ev) b) z in
    let R : PollerState → Type 0 = λ z. HasPolls (polls.counts_in (turn_after (counter_source z.source) ev) after) z in
    let to : (z : PollerState) → z.source ≢ p.source → Q z → R z = λ z d k.
    let tz : spec.Turn = turn_after (counter_source z.source) ev in
    subst (λ (n : polls.PollCounts). HasPolls n z)
    (sym (other-poll c tz t now r b (other-turn tz t (other-counter z.source p.source d)))) k in
    let mine_old : Q p = each-get Q v.pollers place p h.pollers at in
    let mine_new : HasPolls (polls.counts_in t after) q =
    subst (λ (n : polls.PollCounts). HasPolls n q) (sym (own-poll c t now r b))
    (stands (issued_in t b) (last_poll t b.polled) mine_old) in
    let source_same : counter_source q.source ≡ counter_source p.source = ap (λ (k : spec.CounterSetup). k.source) setup in
    let mine : R q =
    subst (λ (k : spec.Source). HasPolls (polls.counts_in (turn_after k ev) after) q) (sym source_same) mine_new in
    let value : staged_value v.form (Counters st) ≡ sample_value (form_of v.form) x =
    sample-is v.form p t b st refl source (number (issued_in t b) (last_poll t b.polled) mine_old) in
    record {
      flows = each-map C D v.flows still h.flows;
      pollers = each-set (λ (z : PollerState). z.source) Q R v.pollers place p q apart h.pollers at to mine;
      staged = map-last (staged_value v.form) v.stage.items (Counters st)
          ∙ (λ i. h.staged i ++ value i ∷ [])
          ∙ sym (map-last (sample_value (form_of v.form)) (reverse b.staged) x)
          ∙ ap (map (sample_value (form_of v.form))) (sym (reverse-append (x ∷ []) b.staged));
      numbered = h.numbered;
    }

-- ---- the event of the poll

-- a poll begins no generation
pub polled-counts : (v : SubAgentState) (ev : List Event) (b : Boot) (now : ℕ) (rs : List Tree) → HasCountsOf v ev b
    → HasCountsOf v (Poll now rs ∷ ev) b
polled-counts v ev b now rs h = record {
  flows = each-map (λ (z : FlowSource). HasCounts (flows.counts_in (turn_after (flow_source z.source) ev) b) z)
      (λ (z : FlowSource). HasCounts (flows.counts_in (turn_after (flow_source z.source) (Poll now rs ∷ ev)) b) z) v.flows
      (λ z k. subst (λ (t : spec.Turn). HasCounts (flows.counts_in t b) z)
      (sym (turn-stays (flow_source z.source) (Poll now rs) ev refl)) k) h.flows;
  pollers = each-map (λ (z : PollerState). HasPolls (polls.counts_in (turn_after (counter_source z.source) ev) b) z)
      (λ (z : PollerState). HasPolls (polls.counts_in (turn_after (counter_source z.source) (Poll now rs ∷ ev)) b) z) v.pollers
      (λ z k. subst (λ (t : spec.Turn). HasPolls (polls.counts_in t b) z)
      (sym (turn-stays (counter_source z.source) (Poll now rs) ev refl)) k) h.pollers;
  staged = h.staged;
  numbered = h.numbered;
}
