-- What a whole run made of receivers: they were aimed, and then the First datagrams went on to them one by one.
use Rattle.std.specs.Prelude.{◌≡◌, ◌++◌, ℕ, Bool, false, List, [], length, map, Option, Some, None, option_map, slice_get, if◌then◌else◌}
use Rattle.std.specs.List.{filter}
use Rattle.byte_ends.specs.Seen.{next_count}
use Rattle.datagram_links.specs.Receivers.{ReceiverSeen}
use Rattle.relay_out.specs.declared.progress.Progress.{Progress}
use Rattle.relay_out.specs.Routes.{Route, AgentDatagram, by_route}
use Rattle.relay_out.specs.Relays.{at_start, progress_at}

-- ---- what came

-- a datagram that came, and whether a collector found it to be the first with its number in its boot
pub record Arrival : Type 0 where
  pub datagram : AgentDatagram
  pub is_first : Bool

-- those that go on, in order
abbrev pub firsts : List Arrival → List AgentDatagram
firsts arrivals = map (λ a. a.datagram) (filter (λ a. a.is_first) arrivals)

-- ---- what a receiver tells

-- the datagrams that it took, and the place that it is aimed at; None where it tells nothing
abbrev pub took_of : ReceiverSeen → Option (List (List ℕ))
took_of seen = option_map (λ told. told.taken) seen.told

abbrev pub place_of : ReceiverSeen → Option (Option (List ℕ))
place_of seen = option_map (λ told. told.place) seen.told

-- ---- receivers

module _ {X : Type 0} (seen : X → ReceiverSeen) where
  -- y was x before the run, in which all of `due` was to go to this place: it took the first so many and missed the others.
  -- Where its count of faults didn't rise it missed none.
  pub record HasServed (place : List ℕ) (due : List (List ℕ)) (x y : X) (now : Progress) : Type 0 where
    pub took : List (List ℕ)
    pub missed : List (List ℕ)
    pub whole : due ≡ took ++ missed
    pub list : took_of (seen y) ≡ option_map (λ before. before ++ took) (took_of (seen x))
    pub number : now.passed ≡ length took
    pub faults : (seen y).faults ≡ (if now.stopped then next_count (seen x).faults else (seen x).faults)
    pub all : now.stopped ≡ false → missed ≡ []
    pub aimed : now.stopped ≡ false → place_of (seen y) ≡ option_map (λ _. Some place) (place_of (seen x))

  -- so each receiver with a route; one without is as before
  abbrev pub Serves : List AgentDatagram → Option Route → X → X → Progress → Type 0
  Serves datagrams None x y now = (y ≡ x) × (now ≡ at_start)
  Serves datagrams (Some route) x y now = HasServed route.place (by_route route datagrams) x y now

  -- at each place where a receiver stood before the run, one stands that served
  pub record RunServed (datagrams : List AgentDatagram) (routes : List Route) (xs ys : List X) (now : List Progress) : Type 0 where
    pub many : length ys ≡ length xs
    pub each : (place : ℕ) (x : X) → slice_get xs place ≡ Some x
        → (y : X) × (slice_get ys place ≡ Some y) × Serves datagrams (slice_get routes place) x y (progress_at now place)
