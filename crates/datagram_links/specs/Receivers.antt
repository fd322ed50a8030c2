-- What a receiver of datagrams shows, and what a call makes of it.
use Rattle.std.specs.Prelude.{◌≡◌, ℕ, List, [], ◌∷◌, ◌++◌, Option, None, Some, Result, MatchResult}
use Rattle.std.specs.Option.{option_map}
use Rattle.byte_ends.specs.Seen.{next_count}

-- what a receiver tells: the place that it is aimed at, None where there is none yet, and the datagrams that it took
pub record ReceiverTold : Type 0 where
  pub place : Option (List ℕ)
  pub taken : List (List ℕ)

-- what a receiver tells, None where it tells nothing; and how many of its calls have failed, up to 2^64 - 1
pub record ReceiverSeen : Type 0 where
  pub told : Option ReceiverTold
  pub faults : ℕ

abbrev pub receiver_as : (ReceiverTold → ReceiverTold) → ReceiverSeen → ReceiverSeen
receiver_as change seen = record seen { told = option_map change seen.told }

-- it is aimed at this place
abbrev pub aimed_at : List ℕ → ReceiverSeen → ReceiverSeen
aimed_at place seen = receiver_as (λ told. record told { place = Some place }) seen

-- it took one datagram
abbrev pub passed_one : List ℕ → ReceiverSeen → ReceiverSeen
passed_one bytes seen = receiver_as (λ told. record told { taken = told.taken ++ bytes ∷ [] }) seen

-- a call failed, and did nothing else
abbrev pub failed_receiver : ReceiverSeen → ReceiverSeen
failed_receiver seen = record seen { faults = next_count seen.faults }

-- the call made this of the receiver, or it failed
abbrev pub Does : {T E : Type 0} → ReceiverSeen → ReceiverSeen → ReceiverSeen → Result T E → Type 0
Does old done new result = MatchResult result (λ _. new ≡ done) (λ _. new ≡ failed_receiver old)

-- the datagrams that it shows: those that it took, and none where it tells nothing
abbrev pub shown : Option ReceiverTold → List (List ℕ)
shown None = []
shown (Some told) = told.taken
