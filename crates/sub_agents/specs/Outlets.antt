-- The datagrams that a send puts.
use Rattle.std.specs.Prelude.{ℕ, ◌+◌, List, [], ◌∷◌, length, take}
use Rattle.agent_spec.specs.Samples.{Sample}
use Rattle.agent_spec.specs.Spelled.{sent_bytes}
use Rattle.agent_spec.specs.Boots.{packed}
use Rattle.agent_outlets.specs.Outlets.{PutView}
use Rattle.sub_agents.specs.SubAgents.{BootSoFar, so_far}

-- samples cut into datagrams, as they are put behind so many others
abbrev pub puts_behind : BootSoFar → ℕ → ℕ → List (List Sample) → List PutView
puts_behind b now count [] = []
puts_behind b now count (d ∷ more) =
    record {
      boot = b.number;
      number = 1 + count;
      bytes = sent_bytes b.sender (record { number = b.setup.first + count; uptime = now; samples = d });
    }
    ∷ puts_behind b now (1 + count) more

-- the first so many datagrams of what is staged, sent at this uptime
abbrev pub puts_of : BootSoFar → ℕ → ℕ → List PutView
puts_of b now count = puts_behind b now (length (so_far b).sent) (take count (packed b.setup (so_far b)))
