-- One more number in a run: where it stands among those before it, and what its values add.
use Rattle.std.specs.Prelude.{ℕ, ◌+◌, ◌≤◌, List, [], ◌∷◌}
use Rattle.count_spec.specs.declared.entered.Place.{Place}
use Rattle.count_spec.specs.declared.entered.Place.TheVariants.{Only, Newest, Inside, Least}
use Rattle.count_spec.specs.CounterRise.{step_between}
use Rattle.books_spec.specs.InterfaceRise.{InterfaceCounters}
use Rattle.if_ledger.specs.Records.{modulus_32, modulus_64}
use Rattle.if_ledger.specs.declared.counter.Counter32.{Counter32}
use Rattle.if_ledger.specs.declared.counter.Counter64.{Counter64}
use Rattle.if_ledger.specs.declared.rises.Rises.{Rises}

-- the value at the greatest number, after a number at this place that shows `new`
abbrev pub greatest_after : {X : Type 0} → Place → X → X → X
greatest_after Only new old = new
greatest_after Newest new old = new
greatest_after Inside new old = old
greatest_after Least new old = old

-- the value at the least number, alike
abbrev pub least_after : {X : Type 0} → Place → X → X → X
least_after Only new old = new
least_after Newest new old = old
least_after Inside new old = old
least_after Least new old = new

-- what is added to the rise, from the values at the greatest and the least number
abbrev pub rise_after : ℕ → Place → ℕ → ℕ → ℕ → ℕ
rise_after modulus Only new at_greatest at_least = 0
rise_after modulus Newest new at_greatest at_least = step_between modulus at_greatest new
rise_after modulus Inside new at_greatest at_least = 0
rise_after modulus Least new at_greatest at_least = step_between modulus new at_least

abbrev pub risen_32 : Counter32 → Place → ℕ → Counter32
risen_32 c place value = record {
  total = c.total + rise_after modulus_32 place value c.at_greatest c.at_least;
  at_greatest = greatest_after place value c.at_greatest;
  at_least = least_after place value c.at_least;
}

abbrev pub risen_64 : Counter64 → Place → ℕ → Counter64
risen_64 c place value = record {
  total = c.total + rise_after modulus_64 place value c.at_greatest c.at_least;
  at_greatest = greatest_after place value c.at_greatest;
  at_least = least_after place value c.at_least;
}

-- ---- the thirteen

abbrev pub none_32 : Counter32
none_32 = record { total = 0; at_greatest = 0; at_least = 0 }

abbrev pub none_64 : Counter64
none_64 = record { total = 0; at_greatest = 0; at_least = 0 }

abbrev pub no_rises : Rises
no_rises = record {
  in_octets = none_64;
  in_ucast = none_32;
  in_multicast = none_32;
  in_broadcast = none_32;
  in_discards = none_32;
  in_errors = none_32;
  in_unknown = none_32;
  out_octets = none_64;
  out_ucast = none_32;
  out_multicast = none_32;
  out_broadcast = none_32;
  out_discards = none_32;
  out_errors = none_32;
}

-- the rises after a record whose sample has a number at this place
abbrev pub rises_after : Rises → Place → InterfaceCounters → Rises
rises_after r place c = record {
  in_octets = risen_64 r.in_octets place c.in_octets;
  in_ucast = risen_32 r.in_ucast place c.in_ucast;
  in_multicast = risen_32 r.in_multicast place c.in_multicast;
  in_broadcast = risen_32 r.in_broadcast place c.in_broadcast;
  in_discards = risen_32 r.in_discards place c.in_discards;
  in_errors = risen_32 r.in_errors place c.in_errors;
  in_unknown = risen_32 r.in_unknown place c.in_unknown;
  out_octets = risen_64 r.out_octets place c.out_octets;
  out_ucast = risen_32 r.out_ucast place c.out_ucast;
  out_multicast = risen_32 r.out_multicast place c.out_multicast;
  out_broadcast = risen_32 r.out_broadcast place c.out_broadcast;
  out_discards = risen_32 r.out_discards place c.out_discards;
  out_errors = risen_32 r.out_errors place c.out_errors;
}

-- the sums, in the order of the record
abbrev pub totals_of : Rises → List ℕ
totals_of r =
    r.in_octets.total
    ∷ r.in_ucast.total
    ∷ r.in_multicast.total
    ∷ r.in_broadcast.total
    ∷ r.in_discards.total
    ∷ r.in_errors.total
    ∷ r.in_unknown.total
    ∷ r.out_octets.total
    ∷ r.out_ucast.total
    ∷ r.out_multicast.total
    ∷ r.out_broadcast.total
    ∷ r.out_discards.total
    ∷ r.out_errors.total
    ∷ []

-- each sum is at most so much
pub record AreAtMost (most : ℕ) (r : Rises) : Type 0 where
  pub in_octets : r.in_octets.total ≤ most
  pub in_ucast : r.in_ucast.total ≤ most
  pub in_multicast : r.in_multicast.total ≤ most
  pub in_broadcast : r.in_broadcast.total ≤ most
  pub in_discards : r.in_discards.total ≤ most
  pub in_errors : r.in_errors.total ≤ most
  pub in_unknown : r.in_unknown.total ≤ most
  pub out_octets : r.out_octets.total ≤ most
  pub out_ucast : r.out_ucast.total ≤ most
  pub out_multicast : r.out_multicast.total ≤ most
  pub out_broadcast : r.out_broadcast.total ≤ most
  pub out_discards : r.out_discards.total ≤ most
  pub out_errors : r.out_errors.total ≤ most
