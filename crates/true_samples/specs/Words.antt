-- How many samples the bytes of a datagram have (sFlow Version 5, section 5).
use Rattle.std.specs.Prelude.{◌≡◌, ℕ, ◌+◌, ◌==◌, nat_lt, cond, List, length, take, drop}
use Rattle.std.specs.Int.{w32, from_be_bytes}
use Rattle.wire_spec.specs.Heads.{AgentAddress, unknown, ipv4, ipv6}

-- the number of the four bytes at a place
abbrev pub word_in : List ℕ → ℕ → ℕ
word_in bytes place = from_be_bytes w32 (take 4 (drop place bytes))

-- how many bytes an address of this type has
abbrev pub address_size : ℕ → ℕ
address_size kind = cond (kind == 1) 4 (cond (kind == 2) 16 0)

abbrev pub count_at : List ℕ → ℕ → ℕ
count_at bytes place = cond (nat_lt (length bytes) (place + 4)) 0 (word_in bytes place)

-- behind the version and the address stand the sub-agent, the number and the uptime
abbrev pub count_in : List ℕ → ℕ
count_in bytes = cond (nat_lt (length bytes) 8) 0 (count_at bytes (20 + address_size (word_in bytes 4)))

-- an address has as many bytes as its type says
abbrev pub HasAddress : AgentAddress → Type 0
HasAddress unknown = Unit {0}
HasAddress (ipv4 bytes) = length bytes ≡ 4
HasAddress (ipv6 bytes) = length bytes ≡ 16
