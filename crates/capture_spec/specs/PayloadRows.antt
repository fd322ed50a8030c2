-- Worked frames, byte by byte.
use Rattle.std.specs.Prelude.{ℕ, List, [], ◌∷◌, ◌++◌, replicate, Ok}
use Rattle.wire_spec.specs.Heads.{ipv4, ipv6}
use Rattle.wire_spec.specs.CaptureRows.{datagram}
use Rattle.capture_spec.specs.Payloads.{PayloadOutcome}

-- two addresses of Ethernet, and a type
abbrev pub ethernet : ℕ → ℕ → List ℕ
ethernet high low = replicate 12 0 ++ high ∷ low ∷ []

-- a header of IPv4 from 10.0.0.9 to 10.0.0.254: its first byte, its total length, its fragment word and its protocol
abbrev pub ipv4_bytes : ℕ → ℕ → ℕ → ℕ → List ℕ
ipv4_bytes first total fragment protocol =
    first ∷ 0 ∷ 0 ∷ total ∷ 0 ∷ 0 ∷ fragment ∷ 0 ∷ 0x40 ∷ protocol ∷ 0 ∷ 0 ∷
    0x0a ∷ 0 ∷ 0 ∷ 9 ∷ 0x0a ∷ 0 ∷ 0 ∷ 0xfe ∷ []

-- a header of IPv6 from fe80::1 to fe80::2: the length behind it, and the next header
abbrev pub ipv6_bytes : ℕ → ℕ → List ℕ
ipv6_bytes behind next =
    0x60 ∷ 0 ∷ 0 ∷ 0 ∷ 0 ∷ behind ∷ next ∷ 64 ∷
    (0xfe ∷ 0x80 ∷ replicate 13 0 ++ 1 ∷ []) ++ (0xfe ∷ 0x80 ∷ replicate 13 0 ++ 2 ∷ [])

-- a header of UDP from port 49152: the low byte of its port 0x18xx, and its length
abbrev pub udp_bytes : ℕ → ℕ → List ℕ
udp_bytes port datagram = 0xc0 ∷ 0 ∷ 0x18 ∷ port ∷ 0 ∷ datagram ∷ 0 ∷ 0 ∷ []

-- a datagram of sFlow in UDP, to port 6343
abbrev pub sent : List ℕ
sent = udp_bytes 0xc7 36 ++ datagram

-- the payload, from that port of 10.0.0.9
abbrev pub taken : PayloadOutcome
taken = Ok (record { sender = record { address = ipv4 (0x0a ∷ 0 ∷ 0 ∷ 9 ∷ []); port = 49152 }; bytes = datagram })

abbrev pub taken6 : PayloadOutcome
taken6 =
    Ok (record {
      sender = record { address = ipv6 (0xfe ∷ 0x80 ∷ replicate 13 0 ++ 1 ∷ []); port = 49152 };
      bytes = datagram;
    })

-- in IPv4
abbrev pub whole : List ℕ
whole = ethernet 8 0 ++ ipv4_bytes 0x45 56 0 17 ++ sent

-- and then bytes of Ethernet's padding
abbrev pub padded : List ℕ
padded = whole ++ 0xee ∷ 0xee ∷ 0xee ∷ []

-- with four bytes of options
abbrev pub with_options : List ℕ
with_options = ethernet 8 0 ++ ipv4_bytes 0x46 60 0 17 ++ (1 ∷ 1 ∷ 1 ∷ 0 ∷ []) ++ sent

-- with so many tags, a service's and then customers'
abbrev pub tagged : List ℕ
tagged = ethernet 0x81 0 ++ (0 ∷ 100 ∷ 8 ∷ 0 ∷ []) ++ ipv4_bytes 0x45 56 0 17 ++ sent

abbrev pub tagged_twice : List ℕ
tagged_twice = ethernet 0x88 0xa8 ++ (0 ∷ 200 ∷ 0x81 ∷ 0 ∷ 0 ∷ 100 ∷ 8 ∷ 0 ∷ []) ++ ipv4_bytes 0x45 56 0 17 ++ sent

abbrev pub tagged_thrice : List ℕ
tagged_thrice =
    ethernet 0x88 0xa8 ++ (0 ∷ 200 ∷ 0x81 ∷ 0 ∷ 0 ∷ 100 ∷ 0x81 ∷ 0 ∷ 0 ∷ 1 ∷ 8 ∷ 0 ∷ []) ++
    ipv4_bytes 0x45 56 0 17 ++ sent

-- in IPv6
abbrev pub whole6 : List ℕ
whole6 = ethernet 0x86 0xdd ++ ipv6_bytes 36 17 ++ sent

-- in IPv4, with one thing that is otherwise
abbrev pub other_version : List ℕ
other_version = ethernet 8 0 ++ ipv4_bytes 0x65 56 0 17 ++ sent

abbrev pub short_header : List ℕ
short_header = ethernet 8 0 ++ ipv4_bytes 0x44 56 0 17 ++ sent

abbrev pub short_total : List ℕ
short_total = ethernet 8 0 ++ ipv4_bytes 0x45 19 0 17 ++ sent

abbrev pub more_fragments : List ℕ
more_fragments = ethernet 8 0 ++ ipv4_bytes 0x45 56 0x20 17 ++ sent

abbrev pub later_fragment : List ℕ
later_fragment = ethernet 8 0 ++ ipv4_bytes 0x45 56 1 17 ++ sent

abbrev pub not_to_be_cut : List ℕ
not_to_be_cut = ethernet 8 0 ++ ipv4_bytes 0x45 56 0x40 17 ++ sent

abbrev pub of_tcp : List ℕ
of_tcp = ethernet 8 0 ++ ipv4_bytes 0x45 56 0 6 ++ sent

abbrev pub no_room : List ℕ
no_room = ethernet 8 0 ++ ipv4_bytes 0x45 27 0 17 ++ sent

abbrev pub other_port : List ℕ
other_port = ethernet 8 0 ++ ipv4_bytes 0x45 56 0 17 ++ udp_bytes 0xc8 36 ++ datagram

abbrev pub short_datagram : List ℕ
short_datagram = ethernet 8 0 ++ ipv4_bytes 0x45 56 0 17 ++ udp_bytes 0xc7 7 ++ datagram

abbrev pub long_datagram : List ℕ
long_datagram = ethernet 8 0 ++ ipv4_bytes 0x45 56 0 17 ++ udp_bytes 0xc7 37 ++ datagram ++ 0xee ∷ []

abbrev pub other_version6 : List ℕ
other_version6 = ethernet 0x86 0xdd ++ ipv4_bytes 0x45 56 0 17 ++ sent
