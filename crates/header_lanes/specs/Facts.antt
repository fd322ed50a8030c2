-- What a sampled header says.
use Rattle.std.specs.Prelude.{ℕ, List, take, if◌then◌else◌, nat_eq}
use Rattle.header_lanes.specs.declared.header.Kind.TheVariants.{Unscanned, Short}
use Rattle.header_lanes.specs.declared.header.HeaderFacts.{HeaderFacts}
use Rattle.header_lanes.specs.Numbers.{bare}
use Rattle.header_lanes.specs.Internet.{ipv4_at, ipv6_at}
use Rattle.header_lanes.specs.Ethernet.{ethernet}

-- by the header protocol (sFlow Version 5, section 5): 1 Ethernet, 11 IPv4, 12 IPv6; others aren't read
unfoldable pub facts_in : ℕ → List ℕ → HeaderFacts
facts_in protocol h =
    if nat_eq protocol 1 then ethernet h
    else (if nat_eq protocol 11 then ipv4_at (bare Short) 0 h
    else (if nat_eq protocol 12 then ipv6_at (bare Short) 0 h else bare Unscanned))

-- the facts of a header, of which at most 128 bytes are looked at
abbrev pub facts : ℕ → List ℕ → HeaderFacts
facts protocol header = facts_in protocol (take 128 header)
