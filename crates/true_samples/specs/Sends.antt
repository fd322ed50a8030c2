-- A send, datagram by datagram.
use Rattle.std.specs.Prelude.{ℕ, ◌≡◌, ◌+◌, ◌<◌, ◌≤◌, ◌^◌, List, [], ◌∷◌, length, reverse, take, drop}
use Rattle.agent_spec.specs.Samples.{Sample, Datagram, Setup}
use Rattle.agent_spec.specs.Boots.{Boot, packed}
use Rattle.agent_spec.specs.Spelled.{Sender, sent_bytes}
use Rattle.agent_outlets.specs.declared.list_outlet.Put.{Put}

-- these samples as datagrams with the numbers from this one on
abbrev pub datagrams_from : ℕ → ℕ → List (List Sample) → List Datagram
datagrams_from number now [] = []
datagrams_from number now (d ∷ more) =
    record { number = number; uptime = now; samples = d } ∷ datagrams_from (1 + number) now more

-- what a send of all that is staged sends
abbrev pub leaving : Setup → ℕ → Boot → List Datagram
leaving s now b = datagrams_from (s.first + length b.sent) now (packed s b)

-- once a datagram has left
abbrev pub after_one : Datagram → Boot → Boot
after_one d b = record b {
  staged = reverse (drop (length d.samples) (reverse b.staged));
  sent = d ∷ b.sent;
}

abbrev pub after_all : List Datagram → Boot → Boot
after_all [] b = b
after_all (d ∷ more) b = after_all more (after_one d b)

-- the next datagram, which takes its samples from the front of what is staged
pub record IsNext (sender : Sender) (s : Setup) (now : ℕ) (b : Boot) (bytes : List ℕ) (d : Datagram) : Type 0 where
  pub number : d.number ≡ s.first + length b.sent
  pub uptime : d.uptime ≡ now
  pub front : take (length d.samples) (reverse b.staged) ≡ d.samples
  pub within : length d.samples ≤ length b.staged
  pub few : length d.samples < 2 ^ 32
  pub bytes_are : bytes ≡ sent_bytes sender d

abbrev pub bytes_of : Put → List ℕ
bytes_of p = p.bytes.items
