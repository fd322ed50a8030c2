-- By how much the counters of an interface rose, over the counters samples that carry them. Samples have the LATEST
-- FIRST, and stretches of samples the current one first.
use Rattle.std.specs.Prelude.{ℕ, cond, nat_lt, Option, Some, None, List, [], ◌∷◌, length, map, ℤ}
use Rattle.std.specs.List.{sum_by}
use Rattle.count_spec.specs.Windows.{answer, counted}
use Rattle.count_spec.specs.Rise.{NumberedValue}
use Rattle.count_spec.specs.CounterRise.{counter_rise}
use Rattle.count_spec.specs.declared.entered.Entered.{Entered}
use Rattle.count_spec.specs.declared.entered.Entered.TheVariants.{First, Repeat, Late}
use Rattle.books_spec.specs.declared.source_view.IfView.{IfView}

-- the counters of the generic interface record of a counters sample (sFlow Version 5, section 5)
pub record InterfaceCounters : Type 0 where
  pub in_octets : ℕ
  pub in_ucast : ℕ
  pub in_multicast : ℕ
  pub in_broadcast : ℕ
  pub in_discards : ℕ
  pub in_errors : ℕ
  pub in_unknown : ℕ
  pub out_octets : ℕ
  pub out_ucast : ℕ
  pub out_multicast : ℕ
  pub out_broadcast : ℕ
  pub out_discards : ℕ
  pub out_errors : ℕ

-- a counter: which one of them, and after how many it begins again at 0
pub record InterfaceCounter : Type 0 where
  pub value : InterfaceCounters → ℕ
  pub modulus : ℕ

abbrev pub of_32_bits : (InterfaceCounters → ℕ) → InterfaceCounter
of_32_bits value = record { value = value; modulus = 4294967296 }

abbrev pub of_64_bits : (InterfaceCounters → ℕ) → InterfaceCounter
of_64_bits value = record { value = value; modulus = 18446744073709551616 }

-- the thirteen, in the order of the record
abbrev pub interface_counters : List InterfaceCounter
interface_counters =
    of_64_bits (λ c. c.in_octets)
    ∷ of_32_bits (λ c. c.in_ucast)
    ∷ of_32_bits (λ c. c.in_multicast)
    ∷ of_32_bits (λ c. c.in_broadcast)
    ∷ of_32_bits (λ c. c.in_discards)
    ∷ of_32_bits (λ c. c.in_errors)
    ∷ of_32_bits (λ c. c.in_unknown)
    ∷ of_64_bits (λ c. c.out_octets)
    ∷ of_32_bits (λ c. c.out_ucast)
    ∷ of_32_bits (λ c. c.out_multicast)
    ∷ of_32_bits (λ c. c.out_broadcast)
    ∷ of_32_bits (λ c. c.out_discards)
    ∷ of_32_bits (λ c. c.out_errors)
    ∷ []

-- a sample's counted number, and the counters that it carries
pub record NumberedCounters : Type 0 where
  pub number : ℤ
  pub counters : InterfaceCounters

-- what a counter shows at each number
abbrev pub values_of : InterfaceCounter → List NumberedCounters → List NumberedValue
values_of counter samples = map (λ s. record { number = s.number; value = counter.value s.counters }) samples

-- by how much it rose over the samples of one stretch
abbrev pub rise_of : InterfaceCounter → List NumberedCounters → ℕ
rise_of counter samples = counter_rise counter.modulus (values_of counter samples)

-- what is shown of stretches: how many samples, and how much each counter rose, summed
abbrev pub interface_view : List (List NumberedCounters) → IfView
interface_view stretches = record {
  samples = sum_by length stretches;
  rises = map (λ counter. sum_by (rise_of counter) stretches) interface_counters;
}

-- the same, where there is a sample
abbrev pub interface_shown : List (List NumberedCounters) → Option IfView
interface_shown stretches =
    cond (nat_lt 0 (sum_by length stretches)) (Some (interface_view stretches)) None

-- ---- the samples that count

-- the samples with one more, where this answer is First and the sample carries counters
abbrev pub with_counters : Entered → Option InterfaceCounters → List NumberedCounters → List NumberedCounters
with_counters (First place n) (Some counters) before = record { number = n; counters = counters } ∷ before
with_counters (First place n) None before = before
with_counters Repeat shown before = before
with_counters Late shown before = before

-- the First samples among these that carry counters, by the mark that each shows and the counters that it may carry
abbrev pub first_counters :
    {X : Type 0} → (X → ℕ) → (X → Option InterfaceCounters) → ℕ → List X → List NumberedCounters
first_counters mark carried width [] = []
first_counters mark carried width (x ∷ before) =
    with_counters (answer width (counted width (map mark before)) (mark x)) (carried x)
    (first_counters mark carried width before)
