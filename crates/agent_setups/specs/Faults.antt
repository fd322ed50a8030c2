-- What is wrong with a set-up: the number of the first rule that it breaks.
use Rattle.std.specs.Prelude.{ℕ, ◌==◌, ◌&&◌, ◌||◌, nat_lt, Bool, true, false, cond, List, length, map}
use Rattle.std.specs.List.{list_any}
use Rattle.std.specs.declared.option.Option.{Option}
use Rattle.std.specs.declared.option.Option.TheVariants.{Some, None}
use Rattle.data_format.specs.declared.source.SourceId.{SourceId}
use Rattle.data_format.specs.declared.heads.Form.{Form}
use Rattle.data_format.specs.declared.heads.Form.TheVariants.{Compact, Expanded}
use Rattle.agent_setups.specs.declared.setup.FlowSetup.{FlowSetup}
use Rattle.agent_setups.specs.declared.setup.CounterSetup.{CounterSetup}
use Rattle.agent_setups.specs.declared.setup.Setup.{Setup}
use Rattle.agent_setups.specs.Ids.{has_twice, has_great_class, has_great_index}

abbrev pub sampled_ids : List FlowSetup → List SourceId
sampled_ids flows = map (λ (f : FlowSetup). f.source) flows

abbrev pub polled_ids : List CounterSetup → List SourceId
polled_ids counters = map (λ (c : CounterSetup). c.source) counters

-- some rate is 0, and some source would be polled every 0 ms
abbrev pub has_zero_rate : List FlowSetup → Bool
has_zero_rate flows = list_any (λ (f : FlowSetup). f.rate == 0) flows

abbrev pub has_zero_time : List CounterSetup → Bool
has_zero_time counters = list_any (λ (c : CounterSetup). c.every == 0) counters

abbrev pub is_compact : Form → Bool
is_compact Compact = true
is_compact Expanded = false

abbrev pub setup_fault : Form → Setup → Option ℕ
setup_fault form s =
    let flows : List SourceId = sampled_ids s.flows.items in
    let counters : List SourceId = polled_ids s.counters.items in
    cond (nat_lt s.max_datagram 64 || nat_lt 65535 s.max_datagram) (Some 1)
    (cond ((s.stage == 0) || nat_lt 1024 s.stage) (Some 2)
    (cond (nat_lt 1024 (length flows) || nat_lt 1024 (length counters)) (Some 3)
    (cond (has_twice flows || has_twice counters) (Some 4)
    (cond (has_zero_rate s.flows.items || has_zero_time s.counters.items) (Some 5)
    (cond (has_great_class flows || has_great_class counters) (Some 6)
    (cond (is_compact form && (has_great_index flows || has_great_index counters)) (Some 7)
    None))))))
