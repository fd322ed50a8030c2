-- The set-up of a made run is accepted.
use Rattle.std.proofs.Common.{◌≡◌, ◌∙◌, ℕ, Bool, false, cond, List, [], ◌∷◌, length, map, Some, None, refl, ap}
use Rattle.std.specs.Prelude.{◌==◌, ◌&&◌, ◌||◌, nat_lt}
use Rattle.std.specs.declared.option.Option.{Option}
use Rattle.std.specs.List.{list_any}
use Rattle.data_format.specs.declared.source.SourceId.{SourceId}
use Rattle.data_format.specs.declared.heads.Form.{Form}
use Rattle.data_format.specs.declared.heads.Form.TheVariants.{Compact, Expanded}
use Rattle.agent_spec.specs.Sources as spec
use Rattle.agent_setups.specs.declared.setup.FlowSetup.{FlowSetup}
use Rattle.agent_setups.specs.declared.setup.CounterSetup.{CounterSetup}
use Rattle.agent_setups.specs.declared.setup.Setup.{Setup}
use Rattle.agent_setups.specs.Ids.{has_twice, has_great_class, has_great_index}
use Rattle.agent_setups.specs.Faults.{sampled_ids, polled_ids, has_zero_rate, has_zero_time, is_compact}
use Rattle.agent_setups.specs.Lists.{device_fault, form_for, first_or}
use Rattle.made_runs.specs.Setups.{flow_as, counter_as, IsMadeSetup}

abbrev flow-id : spec.FlowSetup → SourceId
flow-id f = record { class = f.source.class; index = f.source.index }

abbrev counter-id : spec.CounterSetup → SourceId
counter-id c = record { class = c.source.class; index = c.source.index }

sampled : (fs : List FlowSetup) → sampled_ids fs ≡ map flow-id (map flow_as fs)
sampled [] = refl
sampled (f ∷ fs) = ap (λ xs. f.source ∷ xs) (sampled fs)

polled : (cs : List CounterSetup) → polled_ids cs ≡ map counter-id (map counter_as cs)
polled [] = refl
polled (c ∷ cs) = ap (λ xs. c.source ∷ xs) (polled cs)

rates : (fs : List FlowSetup) → has_zero_rate fs ≡ list_any (λ (f : spec.FlowSetup). f.rate == 0) (map flow_as fs)
rates [] = refl
rates (f ∷ fs) = ap (λ b. (f.rate == 0) || b) (rates fs)

times : (cs : List CounterSetup) → has_zero_time cs ≡ list_any (λ (c : spec.CounterSetup). c.every == 0) (map counter_as cs)
times [] = refl
times (c ∷ cs) = ap (λ b. (c.every == 0) || b) (times cs)

abbrev port : SourceId
port = record { class = 0; index = 1 }

-- the form and the fault of a lone set-up, by what they look at
abbrev form-by : List SourceId → List SourceId → Form
form-by fs cs = cond ((has_great_index fs || has_great_index cs) || false) Expanded Compact

abbrev fault-by : Form → ℕ → ℕ → List SourceId → List SourceId → Bool → Bool → Option ℕ
fault-by form most stage flows counters rate time =
    cond (nat_lt most 64 || nat_lt 65535 most) (Some 1)
    (cond ((stage == 0) || nat_lt 1024 stage) (Some 2)
    (cond (nat_lt 1024 (length flows) || nat_lt 1024 (length counters)) (Some 3)
    (cond (has_twice flows || has_twice counters) (Some 4)
    (cond (rate || time) (Some 5)
    (cond (has_great_class flows || has_great_class counters) (Some 6)
    (cond (is_compact form && (has_great_index flows || has_great_index counters)) (Some 7)
    None))))))

abbrev alone : ℕ → ℕ → List SourceId → List SourceId → Bool → Bool → Option ℕ
alone most stage fs cs rate time = first_or (first_or (fault-by (form-by fs cs) most stage fs cs rate time) None) None

module _ (seed : ℕ) (u : Setup) (is : IsMadeSetup seed u) where
  flow-ids : sampled_ids u.flows.items ≡ port ∷ []
  flow-ids = sampled u.flows.items ∙ ap (map flow-id) is.flows

  counter-ids : polled_ids u.counters.items ≡ port ∷ []
  counter-ids =
      polled u.counters.items ∙ ap (map counter-id) is.counters

  no-rate : has_zero_rate u.flows.items ≡ false
  no-rate = rates u.flows.items ∙ ap (list_any (λ (f : spec.FlowSetup). f.rate == 0)) is.flows

  no-time : has_zero_time u.counters.items ≡ false
  no-time = times u.counters.items ∙ ap (list_any (λ (c : spec.CounterSetup). c.every == 0)) is.counters

  pub compact : form_for (u ∷ []) ≡ Compact
  compact =
      ap (λ fs. form-by fs (polled_ids u.counters.items)) flow-ids ∙ ap (λ cs. form-by (port ∷ []) cs) counter-ids

  pub accepted : device_fault (u ∷ []) ≡ None
  accepted =
      let fs : List SourceId = sampled_ids u.flows.items in
      let cs : List SourceId = polled_ids u.counters.items in
      let rate : Bool = has_zero_rate u.flows.items in
      let time : Bool = has_zero_time u.counters.items in
      ap (λ n. alone n u.stage fs cs rate time) is.max_datagram
      ∙ ap (λ n. alone 1400 n fs cs rate time) is.stage
      ∙ ap (λ xs. alone 1400 16 xs cs rate time) flow-ids
      ∙ ap (λ xs. alone 1400 16 (port ∷ []) xs rate time) counter-ids
      ∙ ap (λ b. alone 1400 16 (port ∷ []) (port ∷ []) b time) no-rate
      ∙ ap (λ b. alone 1400 16 (port ∷ []) (port ∷ []) false b) no-time
