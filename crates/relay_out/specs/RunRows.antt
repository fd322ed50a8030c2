-- Worked values: two routes, four datagrams that came, and what a receiver showed then. What a datagram is made of plays no part.
use Rattle.std.specs.Prelude.{ℕ, Bool, true, false, List, [], ◌∷◌, Some, None, codes}
use Rattle.wire_spec.specs.Heads.{AgentAddress, ipv4}
use Rattle.datagram_links.specs.Receivers.{ReceiverSeen}
use Rattle.relay_out.specs.declared.progress.Progress.{Progress}
use Rattle.relay_out.specs.Routes.{Route}
use Rattle.relay_out.specs.Runs.{Arrival, HasServed}

abbrev pub near : AgentAddress
near = ipv4 (10 ∷ 0 ∷ 0 ∷ 1 ∷ [])

abbrev pub far : AgentAddress
far = ipv4 (10 ∷ 0 ∷ 0 ∷ 2 ∷ [])

-- 10.0.0.1=a;any=b
abbrev pub to_a : Route
to_a = record { agent = Some near; place = codes "a" }

abbrev pub to_b : Route
to_b = record { agent = None; place = codes "b" }

abbrev pub arrived : AgentAddress → List ℕ → Bool → Arrival
arrived agent bytes is_first = record { datagram = record { agent = agent; bytes = bytes }; is_first = is_first }

-- the second repeats the first, and the third is of another agent
abbrev pub came : List Arrival
came = arrived near (1 ∷ []) true ∷ arrived near (1 ∷ []) false ∷ arrived far (1 ∷ 2 ∷ []) true ∷ arrived near (2 ∷ []) true ∷ []

abbrev pub so_far : ℕ → Bool → Progress
so_far passed stopped = record { passed = passed; stopped = stopped }

-- one that was aimed at nothing and took nothing
abbrev pub unused : ReceiverSeen
unused = record { told = Some (record { place = None; taken = [] }); faults = 0 }

-- one that is aimed at this place, took these datagrams and failed so often
abbrev pub used : List ℕ → List (List ℕ) → ℕ → ReceiverSeen
used place taken faults = record { told = Some (record { place = Some place; taken = taken }); faults = faults }

-- it went so with a receiver that was unused before the run
abbrev pub WentSo : List ℕ → List (List ℕ) → ReceiverSeen → Progress → Type 0
WentSo place due after now = HasServed (λ (s : ReceiverSeen). s) place due unused after now
