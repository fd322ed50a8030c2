-- The made run for which what is kept stands. Deliveries and arrivals have the LATEST FIRST.
use Rattle.std.specs.Prelude.{◌≡◌, ℕ, ◌+◌, ◌*◌, ◌^◌, ◌<◌, ◌≤◌, ◌%◌, Option, Some, None, List, [], ◌∷◌, length}
use Rattle.agent_spec.specs.Samples.{Datagram}
use Rattle.account_spec.specs.Deliveries.{Delivery}
use Rattle.trial_spec.specs.Made.{Sent, Made, made_stream, boot_number, next_state, drawn}
use Rattle.made_runs.specs.declared.arrivals.Arrival.{Arrival}
use Rattle.made_runs.specs.declared.arrivals.Arrivals.{Arrivals}

-- what is kept of a run
pub record RunState : Type 0 where
  pub state : ℕ
  pub base : ℕ
  pub packets : ℕ
  pub boot : ℕ
  pub held : Option ℕ

-- which datagram a number of a boot names; each is counted from 1
abbrev pub Naming : Type 0
Naming = ℕ → ℕ → Option Datagram

-- the number names the datagram that is held, in this boot
abbrev pub IsHeld : Naming → ℕ → Option ℕ → Option Sent → Type 0
IsHeld names boot None None = Unit {0}
IsHeld names boot None (Some s) = ⊥
IsHeld names boot (Some number) None = ⊥
IsHeld names boot (Some number) (Some s) = (s.0 ≡ boot) × (names boot number ≡ Some s.1)

-- what is kept is so in the run
pub record StandsFor (names : Naming) (r : RunState) (m : Made) : Type 0 where
  pub state_is : r.state ≡ m.state
  pub base_is : r.base ≡ m.base
  pub packets_are : r.packets ≡ m.packets
  pub boot_is : r.boot ≡ boot_number m
  pub held_is : IsHeld names (boot_number m) r.held m.held

-- the run has few enough packets and boots that its uptimes stay below 2^32 ms and its times below 2^63 ms
pub record IsShort (m : Made) : Type 0 where
  pub packets : m.packets ≤ 10000000
  pub base : m.base < 2 ^ 62
  pub boots : length m.earlier < 2 ^ 62

-- ---- what arrives

-- the arrival is that of this delivery
pub record IsDelivered (names : Naming) (a : Arrival) (d : Delivery) : Type 0 where
  pub stream_is : d.stream ≡ made_stream
  pub boot_is : d.boot ≡ a.boot
  pub datagram_is : names a.boot a.number ≡ Some d.datagram
  pub arrival_is : d.arrival ≡ a.at

-- these arrivals come on top of the deliveries so far
abbrev pub Adds : Naming → List Arrival → List Delivery → List Delivery → Type 0
Adds names [] old new = new ≡ old
Adds names (a ∷ before) old [] = ⊥
Adds names (a ∷ before) old (d ∷ more) = IsDelivered names a d × Adds names before old more

abbrev pub with_some : Option Arrival → List Arrival → List Arrival
with_some None before = before
with_some (Some a) before = a ∷ before

abbrev pub arrived_once : Option Arrival → List Arrival
arrived_once a = with_some a []

abbrev pub arrived : Arrivals → List Arrival
arrived a = with_some a.held (with_some a.second (with_some a.first []))

-- the run goes on from one state to the next, and this arrives
pub record Goes (names : Naming) (arrivals : List Arrival) (r : RunState) (m n : Made) : Type 0 where
  pub stands : StandsFor names r n
  pub adds : Adds names arrivals m.deliveries n.deliveries

-- ---- one arrival, in words of 64 bits

abbrev pub after_arrival : RunState → RunState
after_arrival r = record r { state = next_state r.state }

abbrev pub arrival_at : RunState → ℕ → Arrival
arrival_at r number = record {
  boot = r.boot;
  number = number;
  at = ((r.base + (r.packets * 10) % 2 ^ 32) % 2 ^ 64 + drawn 50 (next_state r.state)) % 2 ^ 64;
}

-- ---- what stays

-- no packet, no event and no boot comes
pub record Keeps (m n : Made) : Type 0 where
  pub base : n.base ≡ m.base
  pub packets : n.packets ≡ m.packets
  pub events : n.events ≡ m.events
  pub earlier : n.earlier ≡ m.earlier
