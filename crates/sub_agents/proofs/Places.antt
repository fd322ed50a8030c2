-- The places of the stage, and what is staged of a packet.
use Rattle.std.proofs.Common.{◌≡◌, ℕ, ◌+◌, ◌-◌, ◌<◌, ◌≤◌, inl, inr, Bool, true, false, not, cond, List, [], ◌∷◌, ◌++◌, length, map, reverse, drop, take, refl, sym, ap, subst, ◌∙◌, arith, length-append}
use Rattle.std.proofs.lemmas.List.{length-reverse, reverse-append}
use Rattle.std.specs.Prelude.{◌==◌, nat_lt, slice_get}
use Rattle.std.proofs.lemmas.Bool.{eqb-true, eqb-false, ltb-true, ltb-false, cases_Bool}
use Rattle.std.specs.declared.option.Option.TheVariants.{Some}
use Rattle.circular_buffer.specs.Buffer.{Buffer, buffer, keep_last}
use Rattle.data_format.specs.declared.heads.FlowHead.{FlowHead}
use Rattle.data_format.specs.declared.heads.Form.{Form}
use Rattle.data_format.specs.declared.heads.Form.TheVariants.{Compact, Expanded}
use Rattle.agent_spec.specs.Sources as spec
use Rattle.agent_spec.specs.Samples as samples
use Rattle.agent_spec.specs.Samples.{Sample, Setup}
use Rattle.agent_spec.specs.Events.{turn_after, Observe}
use Rattle.agent_spec.specs.Boots.{Boot, flow_sample}
use Rattle.agent_spec.specs.Marks.{is_marked}
use Rattle.agent_spec.specs.Spelled.{sample_tree, flow_records, switch_records}
use Rattle.wire_spec.specs.Shapes.{Tree, known, none, ◌&◌}
use Rattle.agent_sampler.specs.Following as flows
use Rattle.agent_sampler.specs.Sampling.{marks_after, word_behind}
use Rattle.agent_sampler.specs.declared.sampler.Marks.{Marks}
use Rattle.sub_agents.specs.declared.sources.FlowSource.{FlowSource}
use Rattle.sub_agents.specs.declared.sources.Taken.{Taken}
use Rattle.sub_agents.specs.declared.sources.Taken.TheVariants.{Passed, Dropped, Issued}
use Rattle.sub_agents.specs.declared.packet.Packet.{Packet}
use Rattle.sub_agents.specs.declared.packet.Seen.TheVariants as seen
use Rattle.sub_agents.specs.declared.staged.StagedFlow.{StagedFlow}
use Rattle.sub_agents.specs.declared.staged.Staged.{Staged}
use Rattle.sub_agents.specs.declared.staged.Staged.TheVariants.{Flow}
use Rattle.sub_agents.specs.Setups.{form_of, flow_source}
use Rattle.sub_agents.specs.Packets.{packet_of}
use Rattle.sub_agents.specs.Staged.{staged_value, flow_value, sample_value}
use Rattle.sub_agents.specs.Counts.{flow_setup, flow_sources, HasCounts, taken_of}
use Rattle.agent_setups.specs.Ids.{AreDistinct}
use Rattle.sub_agents.specs.Answers.{seen_by}
use Rattle.sub_agents.specs.SubAgents.{SubAgentState, BootSoFar, so_far, with_event, StandsFor}
use Rattle.sub_agents.proofs.Cuts.{map-length}
use Rattle.sub_agents.proofs.Lists.{each-get, map-last}
use Rattle.sub_agents.proofs.Observed.{with_flow, staged-after, observed}

not-full : (n m : ℕ) → n ≤ m → not (n == m) ≡ nat_lt n m
not-full n m most = elim (cases_Bool (n == m)) [
  | inl same ↦
      elim (cases_Bool (nat_lt n m)) [
        | inl less ↦ absurd (omega (arith, eqb-true n m same, ltb-true n m less))
        | inr other ↦ ap not same ∙ sym other
      ]
  | inr apart ↦
      elim (cases_Bool (nat_lt n m)) [
        | inl less ↦ ap not apart ∙ sym less
        | inr other ↦
            let more : m ≤ n = ltb-false n m other in
            absurd (eqb-false n m apart (omega (arith, most, more)))
      ]
]

pub free-place : (n m : ℕ) (has : Bool) → n ≤ m → has ≡ not (n == m) → has ≡ true → n < m
free-place n m has most told some = ltb-true n m (sym (not-full n m most) ∙ sym told ∙ some)

-- the stage has a place
pub place-told : (s : SubAgentState) (b : BootSoFar) → StandsFor s b → length s.stage.items ≤ s.stage.capacity
    → not (length s.stage.items == s.stage.capacity) ≡ flows.has_place b.setup b.events
place-told s b h within =
    let staged : List Sample = (so_far b).staged in
    let size : length s.stage.items ≡ length staged = omega (
      arith,
      map-length (staged_value s.form) s.stage.items,
      ap length h.counts.staged,
      map-length (sample_value (form_of s.form)) (reverse staged),
      length-reverse staged,
    ) in
    let room : s.stage.capacity ≡ b.setup.stage = ap (λ (k : Setup). k.stage) h.setup in
    not-full (length s.stage.items) s.stage.capacity within ∙ (λ i. nat_lt (size i) (room i))

-- a stage that isn't full takes one more behind the others
pub pushed : (xs : List Staged) (y : Staged) (room : ℕ) → length xs < room
    → buffer (keep_last room (xs ++ y ∷ [])) room ≡ buffer (xs ++ y ∷ []) room
pushed xs y room free =
    let none : length (xs ++ y ∷ []) - room ≡ 0 = omega (arith, free, length-append xs (y ∷ [])) in
    ap (λ (k : ℕ). buffer (drop k (xs ++ y ∷ [])) room) none

-- the sample of a packet, as it is staged
pub record IsStagedOf (f : FlowSource) (marks : Marks) (p : Packet) (st : StagedFlow) : Type 0 where
  pub head : st.head ≡ record {
    sequence = marks.next;
    source = f.source;
    rate = f.rate;
    pool = marks.pool;
    drops = marks.drops;
    input = p.input;
    output = p.output;
  }
  pub frame_length : st.frame_length ≡ p.frame_length
  pub vlan : st.vlan ≡ p.vlan
  pub header : st.header.items ≡ take 128 p.header.now

abbrev head_shown : FlowSource → Packet → Marks → FlowHead
head_shown f p marks = record {
  sequence = marks.next;
  source = f.source;
  rate = f.rate;
  pool = marks.pool;
  drops = marks.drops;
  input = p.input;
  output = p.output;
}

module _ (f : FlowSource) (t : spec.Turn) (p : Packet) (b : Boot) (marks : Marks) (st : StagedFlow)
    (own : t.source ≡ flow_source f.source) (is : IsStagedOf f marks p st)
    (at : marks ≡ marks_after f.sampler.begin (1 + (flows.counts_in t b).packets) (flows.counts_in t b).issued (flows.counts_in t b).dropped) where
  head-is : st.head ≡ head_shown f p
      (marks_after f.sampler.begin (1 + (flows.counts_in t b).packets) (flows.counts_in t b).issued (flows.counts_in t b).dropped)
  head-is = is.head ∙ ap (head_shown f p) at

  value-is : (form : Form) → staged_value form (Flow st) ≡ flow_value form (head_shown f p
      (marks_after f.sampler.begin (1 + (flows.counts_in t b).packets) (flows.counts_in t b).issued (flows.counts_in t b).dropped))
      (flow_records (packet_of p))
  value-is form = λ i. flow_value form (head-is i) (
      known 1 (Tree.structure (Tree.word 1 & Tree.word (is.frame_length i) & Tree.word 4 & Tree.opaque (is.header i) & none)) []
      & switch_records (is.vlan i))

  -- what is staged has the value of the sample that is issued
  pub sample-is : (form : Form)
      → staged_value form (Flow st) ≡ sample_value (form_of form) (flow_sample (flow_setup f) t (packet_of p) b)
  sample-is Compact = value-is Compact ∙ ap (λ (k : spec.Source). sample_tree (form_of Compact) k
      (flow_sample (flow_setup f) t (packet_of p) b) (samples.Sampled (packet_of p))) (sym own)
  sample-is Expanded = value-is Expanded ∙ ap (λ (k : spec.Source). sample_tree (form_of Expanded) k
      (flow_sample (flow_setup f) t (packet_of p) b) (samples.Sampled (packet_of p))) (sym own)

-- ---- what a source tells of a packet

unmarked : (begin : Marks) (m has : Bool) (k : flows.FlowCounts) → Passed ≡ taken_of begin m has k → m ≡ false
unmarked begin false has k e = refl
unmarked begin true true k e = absurd cc
unmarked begin true false k e = absurd cc

dropped-told : (begin : Marks) (m has : Bool) (k : flows.FlowCounts) → Dropped ≡ taken_of begin m has k
    → (m ≡ true) × (has ≡ false)
dropped-told begin false has k e = absurd cc
dropped-told begin true true k e = absurd cc
dropped-told begin true false k e = (refl, refl)

abbrev marks_or : Taken → Marks → Marks
marks_or (Issued marks) other = marks
marks_or Passed other = other
marks_or Dropped other = other

issued-told : (begin : Marks) (m has : Bool) (k : flows.FlowCounts) (marks : Marks) → Issued marks ≡ taken_of begin m has k
    → (m ≡ true) × (has ≡ true) × (marks ≡ marks_after begin (1 + k.packets) k.issued k.dropped)
issued-told begin false has k marks e = absurd cc
issued-told begin true false k marks e = absurd cc
issued-told begin true true k marks e = (refl, refl, ap (λ (r : Taken). marks_or r marks) e)

-- ---- a packet of the source at a place

module _ (s : SubAgentState) (b : BootSoFar) (place : ℕ) (f g : FlowSource) (p : Packet) (has : Bool) (r : Taken)
    (h : StandsFor s b) (apart : AreDistinct (flow_sources s.flows)) (at : slice_get s.flows place ≡ Some f)
    (within : length s.stage.items ≤ s.stage.capacity)
    (told : has ≡ not (length s.stage.items == s.stage.capacity))
    (same : flow_setup g ≡ flow_setup f)
    (counts : (k : flows.FlowCounts) → HasCounts k f
    → HasCounts (flows.with_packet (is_marked f.sampler.skips (1 + k.packets)) has k) g)
    (taken : (k : flows.FlowCounts) → HasCounts k f
    → r ≡ taken_of f.sampler.begin (is_marked f.sampler.skips (1 + k.packets)) has k) where
  abbrev k : flows.FlowCounts
  k = flows.counts_after b.setup (flow_source f.source) b.events

  abbrev t : spec.Turn
  t = turn_after (flow_source f.source) b.events

  abbrev m : Bool
  m = is_marked f.sampler.skips (1 + k.packets)

  abbrev F : spec.FlowSetup
  F = flow_setup f

  abbrev after : BootSoFar
  after = with_event (Observe F (packet_of p)) b

  abbrev v : Sample → Tree
  v = sample_value (form_of s.form)

  mine : HasCounts k f
  mine = each-get (λ (z : FlowSource). HasCounts (flows.counts_after b.setup (flow_source z.source) b.events) z)
      s.flows place f h.counts.flows at

  free : has ≡ flows.has_place b.setup b.events
  free = told ∙ place-told s b h within

  goes-on : (stage : Buffer Staged) → stage.capacity ≡ s.stage.capacity
      → map (staged_value s.form) stage.items ≡ map v (reverse (so_far after).staged)
      → StandsFor (with_flow s place g stage) after
  goes-on stage room staged = observed s b place f g stage (packet_of p) h apart at same room
      (subst (λ (k2 : Bool). HasCounts (flows.with_packet m k2 k) g) free (counts k mine)) staged

  still : (so_far after).staged ≡ (so_far b).staged → StandsFor (with_flow s place g s.stage) after
  still e = goes-on s.stage refl (h.counts.staged ∙ sym (ap (λ (l : List Sample). map v (reverse l)) e))

  pub passed-stands : r ≡ Passed → StandsFor (with_flow s place g s.stage) after
  passed-stands e = still (staged-after b.setup F t (packet_of p) (so_far b) false (flows.has_place b.setup b.events)
      (unmarked f.sampler.begin m has k (sym e ∙ taken k mine)) refl)

  pub passed-seen : r ≡ Passed → seen.Passed ≡ seen_by F b
  passed-seen e = sym (ap (λ (x : Bool). cond x
      (cond (flows.has_place b.setup b.events) (seen.Issued (word_behind F.first k.issued)) seen.Dropped) seen.Passed)
      (unmarked f.sampler.begin m has k (sym e ∙ taken k mine)))

  pub dropped-stands : r ≡ Dropped → StandsFor (with_flow s place g s.stage) after
  dropped-stands e =
      let both = dropped-told f.sampler.begin m has k (sym e ∙ taken k mine) in
      still (staged-after b.setup F t (packet_of p) (so_far b) true false both.0 (sym free ∙ both.1))

  pub dropped-seen : r ≡ Dropped → seen.Dropped ≡ seen_by F b
  dropped-seen e =
      let both = dropped-told f.sampler.begin m has k (sym e ∙ taken k mine) in
      let none : flows.has_place b.setup b.events ≡ false = sym free ∙ both.1 in
      sym (λ i. cond (both.0 i) (cond (none i) (seen.Issued (word_behind F.first k.issued)) seen.Dropped) seen.Passed)

  pub issued-stands : (marks : Marks) (st : StagedFlow) → r ≡ Issued marks → IsStagedOf f marks p st
      → StandsFor (with_flow s place g (buffer (s.stage.items ++ Flow st ∷ []) s.stage.capacity)) after
  issued-stands marks st e is =
      let all = issued-told f.sampler.begin m has k marks (sym e ∙ taken k mine) in
      let x : Sample = flow_sample F t (packet_of p) (so_far b) in
      let before : List Sample = (so_far b).staged in
      let value : staged_value s.form (Flow st) ≡ v x = sample-is f t p (so_far b) marks st refl is all.2 s.form in
      let now : (so_far after).staged ≡ x ∷ before =
      staged-after b.setup F t (packet_of p) (so_far b) true true all.0 (sym free ∙ all.1) in
      goes-on (buffer (s.stage.items ++ Flow st ∷ []) s.stage.capacity) refl (
      map-last (staged_value s.form) s.stage.items (Flow st)
      ∙ (λ i. h.counts.staged i ++ value i ∷ [])
      ∙ sym (map-last v (reverse before) x)
      ∙ ap (map v) (sym (reverse-append (x ∷ []) before))
      ∙ sym (ap (λ (l : List Sample). map v (reverse l)) now)
      )

  pub issued-seen : (marks : Marks) → r ≡ Issued marks → seen.Issued marks.next ≡ seen_by F b
  issued-seen marks e =
      let all = issued-told f.sampler.begin m has k marks (sym e ∙ taken k mine) in
      let some : flows.has_place b.setup b.events ≡ true = sym free ∙ all.1 in
      ap (λ (x : Marks). seen.Issued x.next) all.2
      ∙ sym (λ i. cond (all.0 i) (cond (some i) (seen.Issued (word_behind F.first k.issued)) seen.Dropped) seen.Passed)
