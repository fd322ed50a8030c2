-- What holds of the samples of one source in one generation. Every list has the LATEST FIRST.
use Rattle.std.specs.Prelude.{◌≡◌, ℕ, ◌+◌, ◌<◌, ◌≤◌, true, false, List, [], ◌∷◌, length}
use Rattle.std.specs.List.{AllByRecursion, filter}
use Rattle.agent_spec.specs.Sources.{Source, same_source, Turn, FlowSetup, CounterSetup}
use Rattle.agent_spec.specs.Samples.{Sample, Setup}
use Rattle.agent_spec.specs.Events.{Event, Observe, Poll, Send, Reset}
use Rattle.agent_spec.specs.Boots.{Boot, is_sample_of, IsAmong}

-- the samples of a source in a generation
abbrev pub samples_in : Turn → Boot → List Sample
samples_in turn b = filter (is_sample_of turn) b.issued

-- each has the number behind that of the one issued before it, and the first has the first number
abbrev pub AreNumberedFrom : ℕ → List Sample → Type 0
AreNumberedFrom first [] = Unit {0}
AreNumberedFrom first (x ∷ before) = (x.number ≡ first + length before) × AreNumberedFrom first before

-- the pool rises from each to the next, and drops don't fall
abbrev pub NeverFall : List Sample → Type 0
NeverFall [] = Unit {0}
NeverFall (x ∷ before) =
    AllByRecursion (λ (y : Sample). (y.pool < x.pool) × (y.drops ≤ x.drops)) before × NeverFall before

-- ---- whose events these are

-- a packet of this source belongs to a setup whose numbers begin here
abbrev pub NumbersBegin : Source → ℕ → Event → Type 0
NumbersBegin source first (Observe f packet) = same_source source f.source ≡ true → f.first ≡ first
NumbersBegin source first (Poll now readings) = Unit {0}
NumbersBegin source first (Send now count) = Unit {0}
NumbersBegin source first (Reset other) = Unit {0}

-- the numbers of this source begin here
pub record HasFirst (source : Source) (first : ℕ) (s : Setup) (events : List Event) : Type 0 where
  pub packets : AllByRecursion (NumbersBegin source first) events
  pub counters : AllByRecursion (λ (c : CounterSetup). same_source source c.source ≡ true → c.first ≡ first) s.counters

-- a packet of this setup's source belongs to this setup
abbrev pub IsOfSetup : FlowSetup → Event → Type 0
IsOfSetup f (Observe other packet) = same_source f.source other.source ≡ true → other ≡ f
IsOfSetup f (Poll now readings) = Unit {0}
IsOfSetup f (Send now count) = Unit {0}
IsOfSetup f (Reset other) = Unit {0}

-- this source has no other setup
pub record IsOnlySetup (f : FlowSetup) (s : Setup) (events : List Event) : Type 0 where
  pub packets : AllByRecursion (IsOfSetup f) events
  pub counters : AllByRecursion (λ (c : CounterSetup). same_source f.source c.source ≡ false) s.counters

-- the source of this setup has no other one
pub record HasOneSetup (f : FlowSetup) (s : Setup) : Type 0 where
  pub flows : (g : FlowSetup) → IsAmong g s.flows → same_source f.source g.source ≡ true → g ≡ f
  pub counters : AllByRecursion (λ (c : CounterSetup). same_source f.source c.source ≡ false) s.counters
