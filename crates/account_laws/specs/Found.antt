-- What is found out item by item along a run: less than what is assumed of the whole, and enough. Every list has the
-- LATEST FIRST.
use Rattle.std.specs.Prelude.{◌≡◌, ℕ, ◌≤◌, ◌<◌, false, List, [], ◌∷◌, map, ℤ}
use Rattle.std.specs.List.{AllByRecursion}
use Rattle.count_spec.specs.TrueStretches.{newest_index, true_stretches}
use Rattle.books_spec.specs.declared.sample_place.SamplePlace.{SamplePlace}
use Rattle.books_spec.specs.Generations.{is_before}
use Rattle.books_spec.specs.declared.limits.Limits.{Limits}
use Rattle.account_spec.specs.Histories.{SubAgent, stream_in, IsHistory}
use Rattle.account_spec.specs.Deliveries.{Delivery, boot_of, number_of, deliveries_of, AreSent}
use Rattle.account_spec.specs.TrueNumbers.{AreClose}
use Rattle.account_spec.specs.Arrivals.{Arrived, generation_of, sample_number}
use Rattle.account_spec.specs.Close.{RiseSlowly}
use Rattle.account_spec.specs.Premises.{OfEachSource, Visible, Roomy}
use Rattle.account_spec.specs.Apparent.{first_generation, of_generation, newest_number, DoesNotRise}

-- the numbers of each boot, or of each generation, are close, but for those of past items
abbrev pub EachIsClose : {X : Type 0} → (X → ℕ) → (X → ℤ) → List X → Type 0
EachIsClose {X} index number items =
    AllByRecursion (λ (stretch : List X). AreClose (map number stretch)) (true_stretches index items)

-- the first of these samples
abbrev pub first_of : Arrived → List Arrived → Arrived
first_of x [] = x
first_of x (y ∷ before) = first_of y before

-- this place isn't before that of the first of these
abbrev pub IsNotBefore : SamplePlace → List Arrived → Type 0
IsNotBefore p [] = Unit {0}
IsNotBefore p (x ∷ before) = is_before p (first_of x before).place ≡ false

-- a further sample, after these: it isn't of an earlier generation than all; one of a later generation doesn't rise; and
-- one of the newest generation doesn't stand before the sample that opened it, but where that was the first of all
pub record IsApparentAfter (before : List Arrived) (x : Arrived) : Type 0 where
  pub known : first_generation before ≤ generation_of x
  pub number : newest_index generation_of before < generation_of x → DoesNotRise (sample_number x) (newest_number before)
  pub behind : generation_of x ≡ newest_index generation_of before
      → first_generation before < newest_index generation_of before
      → IsNotBefore x.place (of_generation (newest_index generation_of before) before)

abbrev pub EachIsApparent : List Arrived → Type 0
EachIsApparent [] = Unit {0}
EachIsApparent (x ∷ []) = Unit {0}
EachIsApparent (x ∷ y ∷ before) = IsApparentAfter (y ∷ before) x × EachIsApparent (y ∷ before)

-- of the samples of one source in one boot
pub record AreFound (width : ℕ) (samples : List Arrived) : Type 0 where
  pub close : EachIsClose generation_of sample_number samples
  pub rise : AllByRecursion (RiseSlowly width) (true_stretches generation_of samples)
  pub apparent : EachIsApparent samples

-- what is assumed of a history and its deliveries, but for what is stale
pub record LesserPremises (l : Limits) (history : List SubAgent) (deliveries : List Delivery) : Type 0 where
  pub history_is : IsHistory history
  pub sent : AreSent history deliveries
  pub visible : Visible l history deliveries
  pub datagrams : AllByRecursion
      (λ (a : SubAgent). EachIsClose boot_of number_of (deliveries_of (stream_in a) deliveries)) history
  pub samples : AllByRecursion (OfEachSource (AreFound l.sample_width) l.datagram_width deliveries) history
  pub roomy : Roomy l deliveries
