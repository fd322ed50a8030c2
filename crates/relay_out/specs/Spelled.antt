-- The texts that say routes.
use Rattle.std.specs.Prelude.{◌≡◌, ◌==◌, ◌++◌, true, false, List, ◌∷◌, length, Some}
use Rattle.std.specs.List.{AllByRecursion, AllZip, list_any, join_with_byte}
use Rattle.script_spec.specs.Words.{Text, is_between}
use Rattle.relay_out.specs.Routes.{Route, agent_in}

-- a text of an agent, an equals sign, 61, and the place, of 1 to 64 bytes
pub record SaysRoute (text : Text) (route : Route) : Type 0 where
  pub agent : Text
  pub whole : text ≡ agent ++ 61 ∷ route.place
  pub says : agent_in agent ≡ Some route.agent
  pub plain : list_any (λ b. b == 61) agent ≡ false
  pub fits : is_between 1 64 (length route.place) ≡ true

-- 1 to 8 texts, none of which has a semicolon, 59, and each of which says a route, with a semicolon between each two
pub record SaysRoutes (text : Text) (routes : List Route) : Type 0 where
  pub parts : List Text
  pub whole : text ≡ join_with_byte 59 parts
  pub apart : AllByRecursion (λ part. list_any (λ b. b == 59) part ≡ false) parts
  pub each : AllZip SaysRoute parts routes
  pub many : is_between 1 8 (length routes) ≡ true
