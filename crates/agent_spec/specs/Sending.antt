-- What holds of the datagrams that a sub-agent sends in a boot. Every list of datagrams has the LATEST FIRST.
use Rattle.std.specs.Prelude.{◌≡◌, ℕ, ◌+◌, List, [], ◌∷◌, ◌++◌, length, reverse}
use Rattle.agent_spec.specs.Samples.{Sample, Datagram}

-- the samples of these datagrams, the latest first
abbrev pub samples_sent : List Datagram → List Sample
samples_sent [] = []
samples_sent (d ∷ before) = reverse d.samples ++ samples_sent before

-- each has the number behind that of the one before it, and the first has the first number
abbrev pub AreCountedFrom : ℕ → List Datagram → Type 0
AreCountedFrom first [] = Unit {0}
AreCountedFrom first (d ∷ before) = (d.number ≡ first + length before) × AreCountedFrom first before
