-- What relayed datagrams make of receivers, for any kind of receiver of which it is known what it shows.
use Rattle.std.specs.Prelude.{◌≡◌, ◌⊎◌, ◌+◌, ◌<◌, ◌&&◌, ◌-◌, ◌^◌, nat_lt, ℕ, Bool, true, false, not, List, [], ◌∷◌, ◌++◌, length, take, get_or, slice_get, Option, Some, None, if◌then◌else◌}
use Rattle.datagram_links.specs.Receivers.{ReceiverSeen, receiver_as, aimed_at, passed_one, failed_receiver}
use Rattle.relay_out.specs.declared.progress.Progress.{Progress}
use Rattle.relay_out.specs.Routes.{Route, AgentDatagram, takes, by_route}

-- nothing passed, and not stopped
abbrev pub at_start : Progress
at_start = record { passed = 0; stopped = false }

-- how far the receiver at this place is
abbrev pub progress_at : List Progress → ℕ → Progress
progress_at progress place = get_or progress place at_start

-- one more can be counted
abbrev pub may_pass : Progress → Bool
may_pass progress = nat_lt progress.passed (2 ^ 64 - 1)

-- a receiver took these datagrams
abbrev pub passed_all : List (List ℕ) → ReceiverSeen → ReceiverSeen
passed_all datagrams seen = receiver_as (λ told. record told { taken = told.taken ++ datagrams }) seen

module _ {X : Type 0} (seen : X → ReceiverSeen) where
  -- ---- one receiver, which is x and then y

  -- it was aimed at this place, or it failed and is stopped
  abbrev pub AimedBy : List ℕ → X → X → Progress → Type 0
  AimedBy place x y now =
      ((seen y ≡ aimed_at place (seen x)) × (now ≡ at_start))
      ⊎ ((seen y ≡ failed_receiver (seen x)) × (now ≡ record at_start { stopped = true }))

  -- it was aimed where its route goes; one without a route is as before
  abbrev pub Aimed : Option Route → X → Progress → X → Progress → Type 0
  Aimed None x was y now = (y ≡ x) × (now ≡ at_start)
  Aimed (Some route) x was y now = AimedBy route.place x y now

  -- a datagram goes to it or not; if so, it took it and one more passed, or it failed and is stopped
  abbrev pub Goes : Bool → List ℕ → X → Progress → X → Progress → Type 0
  Goes false bytes x was y now = (y ≡ x) × (now ≡ was)
  Goes true bytes x was y now =
      ((seen y ≡ passed_one bytes (seen x)) × (now ≡ record was { passed = was.passed + 1 }))
      ⊎ ((seen y ≡ failed_receiver (seen x)) × (now ≡ record was { stopped = true }))

  -- one datagram goes to it where its route takes it and it isn't stopped
  abbrev pub Passed : AgentDatagram → Option Route → X → Progress → X → Progress → Type 0
  Passed d None x was y now = (y ≡ x) × (now ≡ was)
  Passed d (Some route) x was y now = Goes (not was.stopped && takes route d.agent) d.bytes x was y now

  -- ---- one receiver, and datagrams that are passed one by one

  -- it took all of them
  pub record TookAll (datagrams : List (List ℕ)) (x : X) (was : Progress) (y : X) (now : Progress) : Type 0 where
    pub took : seen y ≡ passed_all datagrams (seen x)
    pub count : now ≡ record was { passed = was.passed + length datagrams }

  -- it took so many of them, failed at the next one and is stopped
  pub record TookSome (datagrams : List (List ℕ)) (x : X) (was : Progress) (y : X) (now : Progress) : Type 0 where
    pub many : ℕ
    pub fewer : many < length datagrams
    pub took : seen y ≡ failed_receiver (passed_all (take many datagrams) (seen x))
    pub count : now ≡ record { passed = was.passed + many; stopped = true }

  -- it is as before where none goes to it
  abbrev pub Took : List (List ℕ) → X → Progress → X → Progress → Type 0
  Took [] x was y now = (y ≡ x) × (now ≡ was)
  Took (d ∷ more) x was y now = TookAll (d ∷ more) x was y now ⊎ TookSome (d ∷ more) x was y now

  -- those that its route takes go to it, and none where it was stopped before
  abbrev pub Relayed : List AgentDatagram → Option Route → X → Progress → X → Progress → Type 0
  Relayed datagrams None x was y now = (y ≡ x) × (now ≡ was)
  Relayed datagrams (Some route) x was y now =
      Took (if was.stopped then [] else by_route route datagrams) x was y now

-- ---- all receivers, each with the route at its place

-- at each place where a receiver stands, one stands there afterwards
pub record AtEach {X : Type 0} (did : Option Route → X → Progress → X → Progress → Type 0) (routes : List Route)
    (xs : List X) (was : List Progress) (ys : List X) (now : List Progress) : Type 0 where
  pub many : length ys ≡ length xs
  pub each : (place : ℕ) (x : X) → slice_get xs place ≡ Some x
      → (y : X) × (slice_get ys place ≡ Some y) × did (slice_get routes place) x (progress_at was place) y (progress_at now place)

module _ {X : Type 0} (seen : X → ReceiverSeen) where
  abbrev pub AimedEach : List Route → List X → List Progress → List X → List Progress → Type 0
  AimedEach = AtEach (Aimed seen)

  abbrev pub PassedEach : AgentDatagram → List Route → List X → List Progress → List X → List Progress → Type 0
  PassedEach d = AtEach (Passed seen d)

  abbrev pub RelayedEach : List AgentDatagram → List Route → List X → List Progress → List X → List Progress → Type 0
  RelayedEach datagrams = AtEach (Relayed seen datagrams)
