-- A ledger of interface counters, and the runs of samples for which it stands: the current run first, and in each the
-- LATEST FIRST.
use Rattle.std.specs.Prelude.{◌≡◌, ℕ, cond, nat_lt, List, [], ◌∷◌, length, map, ℤ, int_lt}
use Rattle.std.specs.List.{sum_by}
use Rattle.count_spec.specs.Windows.{greatest, least}
use Rattle.count_spec.specs.declared.entered.Place.{Place}
use Rattle.count_spec.specs.declared.entered.Place.TheVariants.{Only, Newest, Inside, Least}
use Rattle.count_spec.specs.Rise.{value_at_greatest, value_at_least}
use Rattle.books_spec.specs.InterfaceRise.{InterfaceCounter, of_32_bits, of_64_bits, NumberedCounters, values_of, rise_of}
use Rattle.if_ledger.specs.declared.rises.Rises.{Rises}

-- what is to be seen of it
pub record IfState : Type 0 where
  -- the run that was entered last, or 0
  pub run : ℕ
  -- how many samples were entered
  pub samples : ℕ
  -- the greatest and the least number of that run
  pub greatest : ℤ
  pub least : ℤ
  pub rises : Rises

-- where a number of this run stands among those before it
abbrev pub place_in : IfState → ℕ → ℤ → Place
place_in s run n =
    cond (nat_lt s.run run) Only (cond (int_lt s.greatest n) Newest (cond (int_lt n s.least) Least Inside))

-- the samples of the current run
abbrev pub current_run : List (List NumberedCounters) → List NumberedCounters
current_run [] = []
current_run (current ∷ closed) = current

abbrev pub numbers_in : List NumberedCounters → List ℤ
numbers_in run = map (λ (x : NumberedCounters). x.number) run

-- a counter shows these runs
pub record ShowsCounter (counter : InterfaceCounter) (total at_greatest at_least : ℕ)
    (runs : List (List NumberedCounters)) : Type 0 where
  pub total_is : total ≡ sum_by (rise_of counter) runs
  pub greatest_is : at_greatest ≡ value_at_greatest (values_of counter (current_run runs))
  pub least_is : at_least ≡ value_at_least (values_of counter (current_run runs))

-- the counters show these runs
pub record ShowsRises (r : Rises) (runs : List (List NumberedCounters)) : Type 0 where
  pub in_octets : ShowsCounter (of_64_bits (λ c. c.in_octets)) r.in_octets.total r.in_octets.at_greatest
      r.in_octets.at_least runs
  pub in_ucast : ShowsCounter (of_32_bits (λ c. c.in_ucast)) r.in_ucast.total r.in_ucast.at_greatest r.in_ucast.at_least runs
  pub in_multicast : ShowsCounter (of_32_bits (λ c. c.in_multicast)) r.in_multicast.total r.in_multicast.at_greatest
      r.in_multicast.at_least runs
  pub in_broadcast : ShowsCounter (of_32_bits (λ c. c.in_broadcast)) r.in_broadcast.total r.in_broadcast.at_greatest
      r.in_broadcast.at_least runs
  pub in_discards : ShowsCounter (of_32_bits (λ c. c.in_discards)) r.in_discards.total r.in_discards.at_greatest
      r.in_discards.at_least runs
  pub in_errors : ShowsCounter (of_32_bits (λ c. c.in_errors)) r.in_errors.total r.in_errors.at_greatest
      r.in_errors.at_least runs
  pub in_unknown : ShowsCounter (of_32_bits (λ c. c.in_unknown)) r.in_unknown.total r.in_unknown.at_greatest
      r.in_unknown.at_least runs
  pub out_octets : ShowsCounter (of_64_bits (λ c. c.out_octets)) r.out_octets.total r.out_octets.at_greatest
      r.out_octets.at_least runs
  pub out_ucast : ShowsCounter (of_32_bits (λ c. c.out_ucast)) r.out_ucast.total r.out_ucast.at_greatest
      r.out_ucast.at_least runs
  pub out_multicast : ShowsCounter (of_32_bits (λ c. c.out_multicast)) r.out_multicast.total r.out_multicast.at_greatest
      r.out_multicast.at_least runs
  pub out_broadcast : ShowsCounter (of_32_bits (λ c. c.out_broadcast)) r.out_broadcast.total r.out_broadcast.at_greatest
      r.out_broadcast.at_least runs
  pub out_discards : ShowsCounter (of_32_bits (λ c. c.out_discards)) r.out_discards.total r.out_discards.at_greatest
      r.out_discards.at_least runs
  pub out_errors : ShowsCounter (of_32_bits (λ c. c.out_errors)) r.out_errors.total r.out_errors.at_greatest
      r.out_errors.at_least runs

-- the ledger stands for these runs
pub record StandsFor (s : IfState) (runs : List (List NumberedCounters)) : Type 0 where
  pub samples_are : s.samples ≡ sum_by length runs
  pub greatest_is : s.greatest ≡ greatest (numbers_in (current_run runs))
  pub least_is : s.least ≡ least (numbers_in (current_run runs))
  pub rises_are : ShowsRises s.rises runs
