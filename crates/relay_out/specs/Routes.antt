-- What a text of routes says.
use Rattle.std.specs.Prelude.{ℕ, ◌==◌, Bool, true, List, length, map, nat_le, Option, Some, None, if◌then◌else◌, option_map, option_and_then, codes, bytes_eq}
use Rattle.std.specs.List.{list_any, before_first, after_first, filter}
use Rattle.wire_spec.specs.Heads.{AgentAddress}
use Rattle.books_spec.specs.Listing.{same_address}
use Rattle.script_spec.specs.Words.{Text, is_between, where_true}
use Rattle.script_spec.specs.Parts.{split_at}
use Rattle.script_spec.specs.Values.{address, each_in}

-- a route: the agent whose datagrams it takes, or None for those of any; and the place that they go to
pub record Route : Type 0 where
  pub agent : Option AgentAddress
  pub place : Text

-- ---- texts

-- `any`, or an address
abbrev pub agent_in : Text → Option (Option AgentAddress)
agent_in text =
    if bytes_eq text (codes "any") then Some None else option_map (λ agent. Some agent) (address.read text)

-- a place of 1 to 64 bytes
abbrev pub place_in : Text → Option Text
place_in text = where_true (λ place. is_between 1 64 (length place)) (Some text)

abbrev pub route_of : Text → Text → Option Route
route_of agent place =
    option_and_then (λ a. option_map (λ p. record { agent = a; place = p }) (place_in place)) (agent_in agent)

-- the agent stands before the first `=`, 61, and the place is all behind it
abbrev pub route_in : Text → Option Route
route_in text =
    if list_any (λ b. b == 61) text
    then route_of (before_first (λ b. b == 61) text) (after_first (λ b. b == 61) text)
    else None

-- 1 to 8 routes, with a semicolon, 59, between each two
abbrev pub routes_in : Text → Option (List Route)
routes_in text = where_true (λ routes. nat_le (length routes) 8) (each_in route_in (split_at 59 text))

-- ---- datagrams

-- a datagram as it came, with the address of its agent
pub record AgentDatagram : Type 0 where
  pub agent : AgentAddress
  pub bytes : List ℕ

-- whether the route takes the datagrams of this agent
abbrev pub takes_from : Option AgentAddress → AgentAddress → Bool
takes_from None agent = true
takes_from (Some taken) agent = same_address taken agent

abbrev pub takes : Route → AgentAddress → Bool
takes route agent = takes_from route.agent agent

-- those that it takes, in order
abbrev pub by_route : Route → List AgentDatagram → List (List ℕ)
by_route route datagrams = map (λ d. d.bytes) (filter (λ d. takes route d.agent) datagrams)
