-- What a link of datagrams shows, and what a call makes of it.
use Rattle.std.specs.Prelude.{◌≡◌, ℕ, ◌≤◌, List, [], ◌∷◌, ◌++◌, length, take, drop, min, ⊤, Option, None, Some, Result, MatchResult}
use Rattle.std.specs.Option.{option_map}
use Rattle.wire_spec.specs.Captures.{Entry}
use Rattle.byte_ends.specs.Seen.{next_count}
use Rattle.datagram_links.specs.declared.received.Received.{Received}
use Rattle.datagram_links.specs.declared.received.Received.TheVariants as received

-- what a link tells: the items that it has left, each a datagram with its arrival in ms, or None where nothing comes
-- for a while; the place that it listens at and the one that it is aimed at, None where there is none yet; and the
-- datagrams that it took to send
pub record LinkTold : Type 0 where
  pub items : List (Option Entry)
  pub listens : Option (List ℕ)
  pub aims : Option (List ℕ)
  pub sent : List (List ℕ)

-- what a link tells, None where it tells nothing; and how many of its calls have failed, up to 2^64 - 1
pub record LinkSeen : Type 0 where
  pub told : Option LinkTold
  pub faults : ℕ

-- ---- a call that succeeds

abbrev pub told_as : (LinkTold → LinkTold) → LinkSeen → LinkSeen
told_as change seen = record seen { told = option_map change seen.told }

-- it listens at this place
abbrev pub listening : List ℕ → LinkSeen → LinkSeen
listening place seen = told_as (λ told. record told { listens = Some place }) seen

-- it is aimed at this place
abbrev pub aimed : List ℕ → LinkSeen → LinkSeen
aimed place seen = told_as (λ told. record told { aims = Some place }) seen

-- its next item has left it, where there is one
abbrev pub received_one : LinkSeen → LinkSeen
received_one seen = told_as (λ told. record told { items = drop 1 told.items }) seen

-- it took one datagram to send
abbrev pub sent_one : List ℕ → LinkSeen → LinkSeen
sent_one bytes seen = told_as (λ told. record told { sent = told.sent ++ bytes ∷ [] }) seen

-- ---- any call

-- a call failed, and did nothing else
abbrev pub failed : LinkSeen → LinkSeen
failed seen = record seen { faults = next_count seen.faults }

-- the call made this of the link, or it failed
abbrev pub Makes : {T E : Type 0} → LinkSeen → LinkSeen → LinkSeen → Result T E → Type 0
Makes old done new result = MatchResult result (λ _. new ≡ done) (λ _. new ≡ failed old)

-- ---- what a receive gives

-- a datagram is no longer than the room
abbrev pub FitsRoom : Received → List ℕ → Type 0
FitsRoom (received.Got len at) room = len ≤ length room
FitsRoom received.Quiet room = ⊤

-- it gives the next item: of a datagram the bytes that fit the room, at its start, and the arrival; and it is quiet
-- where that is the next item, and behind the last one
abbrev pub GivesNext : List (Option Entry) → Received → List ℕ → Type 0
GivesNext [] result room = result ≡ received.Quiet
GivesNext (None ∷ more) result room = result ≡ received.Quiet
GivesNext (Some e ∷ more) result room =
    (result ≡ received.Got (min (length e.bytes) (length room)) e.arrival)
    × (take (min (length e.bytes) (length room)) room ≡ take (length room) e.bytes)

-- ---- many receives

-- the datagrams among some items, each with its first bytes, as many as the room has
abbrev pub datagrams_in : ℕ → List (Option Entry) → List Entry
datagrams_in room [] = []
datagrams_in room (None ∷ more) = datagrams_in room more
datagrams_in room (Some e ∷ more) = record e { bytes = take room e.bytes } ∷ datagrams_in room more
