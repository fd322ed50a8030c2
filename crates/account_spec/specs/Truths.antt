-- What interface counters truly were, beyond the 32 or 64 bits that a reading shows of each. Every list has the LATEST
-- FIRST.
use Rattle.std.specs.Prelude.{◌≡◌, ℕ, ◌%◌, List, map}
use Rattle.std.specs.List.{AllByRecursion}
use Rattle.count_spec.specs.TrueRise.{AreMonotone, RiseByLess}
use Rattle.books_spec.specs.declared.limits.Limits.{Limits}
use Rattle.books_spec.specs.Items.{Stream}
use Rattle.books_spec.specs.InterfaceRise.{InterfaceCounters, InterfaceCounter, interface_counters}
use Rattle.agent_spec.specs.Sources.{Source}
use Rattle.agent_spec.specs.Samples.{Content, Sampled, Counted, Sample}
use Rattle.account_spec.specs.Readings.{counters_in}
use Rattle.account_spec.specs.Histories.{SubAgent, stream_in, counter_sources}
use Rattle.account_spec.specs.Deliveries.{Delivery, deliveries_of, id_of}
use Rattle.account_spec.specs.Arrivals.{Arrived, source_boots}
use Rattle.account_spec.specs.Accounts.{kept, values, differences, generations_of}

-- thirteen numbers for the reading of each counters sample of a sub-agent in a boot
abbrev pub Truth : Type 0
Truth = Stream → ℕ → Sample → InterfaceCounters

-- congruent, each by its modulus
abbrev pub AreCongruent : InterfaceCounters → InterfaceCounters → Type 0
AreCongruent true_counters shown = AllByRecursion
    (λ (c : InterfaceCounter). c.value true_counters % c.modulus ≡ c.value shown % c.modulus) interface_counters

abbrev pub AgreesWith : InterfaceCounters → Content → Type 0
AgreesWith true_counters (Sampled packet) = Unit {0}
AgreesWith true_counters (Counted reading) = AreCongruent true_counters (counters_in reading)

abbrev pub true_value : Truth → Stream → InterfaceCounter → Arrived → ℕ
true_value truth stream c x = c.value (truth stream x.boot x.sample)

-- in a generation a counter doesn't fall, and rises by less than its modulus
pub record RisesSlowly (value : Arrived → ℕ) (modulus width : ℕ) (generation : List Arrived) : Type 0 where
  pub monotone : AreMonotone (values value (kept width generation))
  pub less : RiseByLess modulus (values value (kept width generation))

-- of a counters source, over its samples in each boot
pub record IsSlowOver (truth : Truth) (stream : Stream) (width : ℕ) (boots : List (List Arrived)) : Type 0 where
  pub congruent : AllByRecursion
      (AllByRecursion (λ (x : Arrived). AgreesWith (truth stream x.boot x.sample) x.sample.content)) boots
  pub slow : AllByRecursion
      (λ (c : InterfaceCounter). AllByRecursion (RisesSlowly (true_value truth stream c) c.modulus width) (generations_of boots))
      interface_counters

-- of each counters source of each sub-agent
abbrev pub IsSlow : Truth → Limits → List SubAgent → List Delivery → Type 0
IsSlow truth l history deliveries = AllByRecursion
    (λ (a : SubAgent). AllByRecursion
    (λ (s : Source). IsSlowOver truth (stream_in a) l.sample_width
    (source_boots l.datagram_width (id_of s) (deliveries_of (stream_in a) deliveries)))
    (counter_sources a.setup)) history

-- by how much each counter truly rose, over all generations
abbrev pub true_rises : Truth → Stream → ℕ → List (List Arrived) → List ℕ
true_rises truth stream width boots =
    map (λ (c : InterfaceCounter). differences (true_value truth stream c) width (generations_of boots)) interface_counters
