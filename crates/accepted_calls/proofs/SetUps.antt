-- A set-up that breaks no rule.
use Rattle.std.proofs.Common.{◌≡◌, ℕ, ◌<◌, ◌≤◌, ◌^◌, Bool, true, false, ◌&&◌, ◌||◌, cond, List, [], ◌∷◌, length, map, Some, None, refl, arith}
use Rattle.std.specs.Prelude.{nat_le, nat_lt, ◌==◌}
use Rattle.std.specs.declared.option.Option.{Option}
use Rattle.std.specs.List.{AllByRecursion}
use Rattle.std.proofs.lemmas.Bool.{ltb-false, leb-false}
use Rattle.data_format.specs.declared.heads.Form.{Form}
use Rattle.data_format.specs.declared.heads.Form.TheVariants.{Compact, Expanded}
use Rattle.data_format.specs.declared.source.SourceId.{SourceId}
use Rattle.agent_spec.specs.Sources as spec
use Rattle.agent_spec.specs.Events.{Event}
use Rattle.agent_setups.specs.declared.setup.FlowSetup.{FlowSetup}
use Rattle.agent_setups.specs.declared.setup.CounterSetup.{CounterSetup}
use Rattle.agent_setups.specs.declared.setup.Setup.{Setup}
use Rattle.agent_setups.specs.Ids.{has_twice, has_great_class, has_great_index}
use Rattle.agent_setups.specs.Faults.{sampled_ids, polled_ids, has_zero_rate, has_zero_time, is_compact, setup_fault}
use Rattle.sub_agents.specs.Setups.{form_of}
use Rattle.sub_agents.specs.Opening.{sampled_as, polled_as, sender_in, first_boot}
use Rattle.delivered_items.specs.Accepted.{IsSourceIn, IsFlowSetup, IsTaken, IsAccepted}
use Rattle.accepted_calls.specs.Words.{IsSourceOfWords, IsSetupOfWords}
use Rattle.accepted_calls.proofs.Tests.{or-false, and-right, past}

abbrev HasSmallClass : SourceId → Type 0
HasSmallClass id = id.class < 2 ^ 8

abbrev HasSmallIndex : SourceId → Type 0
HasSmallIndex id = id.index < 2 ^ 24

small-classes : (ids : List SourceId) → has_great_class ids ≡ false → AllByRecursion HasSmallClass ids
small-classes [] e = tt
small-classes (x ∷ more) e =
    let p = or-false (nat_lt 255 x.class) (has_great_class more) e in
    let l : x.class ≤ 255 = ltb-false 255 x.class p.0 in
    (omega (arith, l), small-classes more p.1)

small-indexes : (ids : List SourceId) → has_great_index ids ≡ false → AllByRecursion HasSmallIndex ids
small-indexes [] e = tt
small-indexes (x ∷ more) e =
    let p = or-false (nat_le 16777216 x.index) (has_great_index more) e in
    let l : x.index < 16777216 = leb-false 16777216 x.index p.0 in
    (omega (arith, l), small-indexes more p.1)

source-in : (form : Form) (flow : Bool) (id : SourceId) → HasSmallClass id → (is_compact form ≡ true → HasSmallIndex id)
    → IsSourceOfWords id → IsSourceIn (form_of form) (record { flow = flow; class = id.class; index = id.index })
source-in Compact flow id c i w = (c, i refl)
source-in Expanded flow id c i w = w

flows-in : (form : Form) (fs : List FlowSetup) → AllByRecursion HasSmallClass (sampled_ids fs)
    → (is_compact form ≡ true → AllByRecursion HasSmallIndex (sampled_ids fs))
    → AllByRecursion (λ (f : FlowSetup). IsSourceOfWords f.source × (f.rate < 2 ^ 32)) fs
    → AllByRecursion (IsFlowSetup (form_of form)) (map sampled_as fs)
flows-in form [] c i w = tt
flows-in form (f ∷ more) c i w = (
  record { source = source-in form true f.source c.0 (λ t. (i t).0) w.0.0; rate = w.0.1 },
  flows-in form more c.1 (λ t. (i t).1) w.1,
)

counters-in : (form : Form) (cs : List CounterSetup) → AllByRecursion HasSmallClass (polled_ids cs)
    → (is_compact form ≡ true → AllByRecursion HasSmallIndex (polled_ids cs))
    → AllByRecursion (λ (c : CounterSetup). IsSourceOfWords c.source) cs
    → AllByRecursion (λ (c : spec.CounterSetup). IsSourceIn (form_of form) c.source) (map polled_as cs)
counters-in form [] c i w = tt
counters-in form (x ∷ more) c i w = (
  source-in form false x.source c.0 (λ t. (i t).0) w.0,
  counters-in form more c.1 (λ t. (i t).1) w.1,
)

pub accepted : (form : Form) (s : Setup) (boots : List (List Event)) → IsSetupOfWords s → setup_fault form s ≡ None
    → AllByRecursion (AllByRecursion (IsTaken (sender_in form s))) boots
    → IsAccepted (record { sender = sender_in form s; setup = (first_boot form s).setup; boots = boots })
accepted form s boots words sound taken =
    let flows : List SourceId = sampled_ids s.flows.items in
    let counters : List SourceId = polled_ids s.counters.items in
    let size : Bool = nat_lt s.max_datagram 64 || nat_lt 65535 s.max_datagram in
    let stage : Bool = (s.stage == 0) || nat_lt 1024 s.stage in
    let many : Bool = nat_lt 1024 (length flows) || nat_lt 1024 (length counters) in
    let twice : Bool = has_twice flows || has_twice counters in
    let zero_set : Bool = has_zero_rate s.flows.items || has_zero_time s.counters.items in
    let class : Bool = has_great_class flows || has_great_class counters in
    let index : Bool = is_compact form && (has_great_index flows || has_great_index counters) in
    let rest_6 : Option ℕ = cond index (Some 7) None in
    let rest_5 : Option ℕ = cond class (Some 6) rest_6 in
    let rest_4 : Option ℕ = cond zero_set (Some 5) rest_5 in
    let rest_3 : Option ℕ = cond twice (Some 4) rest_4 in
    let rest_2 : Option ℕ = cond many (Some 3) rest_3 in
    let rest_1 : Option ℕ = cond stage (Some 2) rest_2 in
    let p1 = past size 1 rest_1 sound in
    let p2 = past stage 2 rest_2 p1.1 in
    let p3 = past many 3 rest_3 p2.1 in
    let p4 = past twice 4 rest_4 p3.1 in
    let p5 = past zero_set 5 rest_5 p4.1 in
    let p6 = past class 6 rest_6 p5.1 in
    let p7 = past index 7 None p6.1 in
    let sizes = or-false (nat_lt s.max_datagram 64) (nat_lt 65535 s.max_datagram) p1.0 in
    let classes = or-false (has_great_class flows) (has_great_class counters) p6.0 in
    record {
      sender = record {
        agent = words.agent;
        sub_agent = words.sub_agent;
        most = ltb-false 65535 s.max_datagram sizes.1;
      };
      fits = λ samples. refl;
      flows = flows-in form s.flows.items (small-classes flows classes.0)
          (λ t. small-indexes flows (or-false (has_great_index flows) (has_great_index counters)
          (and-right (is_compact form) (has_great_index flows || has_great_index counters) p7.0 t)).0) words.flows;
      counters = counters-in form s.counters.items (small-classes counters classes.1)
          (λ t. small-indexes counters (or-false (has_great_index flows) (has_great_index counters)
          (and-right (is_compact form) (has_great_index flows || has_great_index counters) p7.0 t)).1) words.counters;
      boots = taken;
    }
