-- What a history that may happen says of the set-ups of its events.
use Rattle.std.proofs.Common.{◌≡◌, true, false, List, [], ◌∷◌, sym, ap, ◌∙◌}
use Rattle.std.proofs.lemmas.Bool.{true≢false}
use Rattle.std.specs.List.{AllByRecursion}
use Rattle.agent_spec.specs.Sources.{same_source, FlowSetup, CounterSetup}
use Rattle.agent_spec.specs.Samples.{Setup}
use Rattle.agent_spec.specs.Events.{Event, Observe, Poll, Send, Reset}
use Rattle.agent_spec.specs.Boots.{MayHappen}
use Rattle.agent_spec.specs.Orders.{NumbersBegin, HasFirst, IsOfSetup, IsOnlySetup, HasOneSetup}

pub only : (f : FlowSetup) (s : Setup) (events : List Event) → HasOneSetup f s → MayHappen s events → IsOnlySetup f s events
only f s events h may = record { packets = each events may; counters = h.counters }
  where
    each : (events : List Event) → MayHappen s events → AllByRecursion (IsOfSetup f) events
    each [] may = tt
    each (Observe other packet ∷ before) may = (λ same. h.flows other may.0 same, each before may.1)
    each (Poll now readings ∷ before) may = (tt, each before may.2)
    each (Send now count ∷ before) may = (tt, each before may.1)
    each (Reset source ∷ before) may = (tt, each before may.1)

pub begins : (f : FlowSetup) (s : Setup) (events : List Event) → HasOneSetup f s → MayHappen s events
    → HasFirst f.source f.first s events
begins f s events h may = record { packets = each events may; counters = none s.counters h.counters }
  where
    each : (events : List Event) → MayHappen s events → AllByRecursion (NumbersBegin f.source f.first) events
    each [] may = tt
    each (Observe other packet ∷ before) may =
        (λ same. ap (λ (g : FlowSetup). g.first) (h.flows other may.0 same), each before may.1)
    each (Poll now readings ∷ before) may = (tt, each before may.2)
    each (Send now count ∷ before) may = (tt, each before may.1)
    each (Reset source ∷ before) may = (tt, each before may.1)

    none : (cs : List CounterSetup) → AllByRecursion (λ (c : CounterSetup). same_source f.source c.source ≡ false) cs
        → AllByRecursion (λ (c : CounterSetup). same_source f.source c.source ≡ true → c.first ≡ f.first) cs
    none [] h = tt
    none (c ∷ more) h = (λ same. absurd (true≢false (sym same ∙ h.0)), none more h.1)
