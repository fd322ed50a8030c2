-- The samples that are delivered of one boot: those of the first delivery in time of each datagram, each with its place,
-- the number of its datagram and its index there. Every list has the LATEST FIRST, but the samples of a datagram stand
-- in its order.
use Rattle.std.specs.Prelude.{ℕ, suc, Bool, cond, not, ◌&&◌, List, [], ◌∷◌, map, ℤ, pos}
use Rattle.std.specs.List.{filter}
use Rattle.count_spec.specs.Windows.{has}
use Rattle.count_spec.specs.TrueStretches.{true_stretches}
use Rattle.books_spec.specs.declared.sample_place.SamplePlace.{SamplePlace}
use Rattle.books_spec.specs.Items.{SourceId}
use Rattle.books_spec.specs.Listing.{same_id}
use Rattle.books_spec.specs.Books.{onto}
use Rattle.agent_spec.specs.Samples.{Sample}
use Rattle.account_spec.specs.Deliveries.{Delivery, boot_of, number_of, numbers_of, id_in}
use Rattle.account_spec.specs.TrueNumbers.{is_late, in_time}

-- a sample that was delivered: the boot in which it was issued, and where it stood there
pub record Arrived : Type 0 where
  pub boot : ℕ
  pub place : SamplePlace
  pub sample : Sample

abbrev pub place_of : Arrived → SamplePlace
place_of x = x.place

abbrev pub generation_of : Arrived → ℕ
generation_of x = x.sample.turn.generation

abbrev pub sample_number : Arrived → ℤ
sample_number x = pos x.sample.number

abbrev pub sample_numbers : List Arrived → List ℤ
sample_numbers samples = map sample_number samples

-- whether a delivery, after these of its boot, is the first one in time of its datagram
abbrev pub is_first_in_time : ℕ → List Delivery → Delivery → Bool
is_first_in_time width before d =
    not (is_late width (numbers_of before) (number_of d))
    && not (has (in_time width (numbers_of before)) (number_of d))

-- these samples of the datagram of this number in this boot, from this index on
abbrev pub arrived_from : ℕ → ℤ → ℕ → List Sample → List Arrived
arrived_from boot datagram index [] = []
arrived_from boot datagram index (s ∷ more) =
    record { boot = boot; place = record { datagram = datagram; index = index }; sample = s }
    ∷ arrived_from boot datagram (suc index) more

-- what a delivery brings after these of its boot
abbrev pub brought : ℕ → List Delivery → Delivery → List Arrived
brought width before d =
    cond (is_first_in_time width before d) (arrived_from d.boot (number_of d) 0 d.datagram.samples) []

-- the samples delivered in a boot
abbrev pub arrived : ℕ → List Delivery → List Arrived
arrived width [] = []
arrived width (d ∷ before) = onto (brought width before d) (arrived width before)

-- those of one source
abbrev pub arrived_of : ℕ → SourceId → List Delivery → List Arrived
arrived_of width id boot = filter (λ (x : Arrived). same_id id (id_in x.sample)) (arrived width boot)

-- those of a source in each boot of its sub-agent; a delivery is in none where a later boot was delivered before it
abbrev pub source_boots : ℕ → SourceId → List Delivery → List (List Arrived)
source_boots width id deliveries = map (arrived_of width id) (true_stretches boot_of deliveries)
