-- The headers of the Internet's layers: IPv4 (RFC 791, section 3.1), IPv6 (RFC 8200, section 3), and what TCP (RFC 9293,
-- section 3.1) and UDP (RFC 768) begin with.
use Rattle.std.specs.Prelude.{ℕ, ◌+◌, ◌*◌, ◌/◌, ◌%◌, ◌||◌, ◌&&◌, List, Some, None, length, slice_index, slice_range, if◌then◌else◌, nat_eq, nat_le}
use Rattle.data_format.specs.declared.address.Address.TheVariants.{V4, V6}
use Rattle.header_lanes.specs.declared.header.Kind.TheVariants.{Short, Ipv4, Ipv6, BadIp}
use Rattle.header_lanes.specs.declared.header.HeaderFacts.{HeaderFacts}
use Rattle.header_lanes.specs.Numbers.{number_at}

-- the ports at `s` of TCP (6) and UDP (17), and TCP's byte of control bits, as far as the header goes
unfoldable pub with_transport : HeaderFacts → ℕ → ℕ → List ℕ → HeaderFacts
with_transport f proto s h =
    let has_ports = (nat_eq proto 6 || nat_eq proto 17) && nat_le (s + 4) (length h) in
    let has_flags = nat_eq proto 6 && nat_le (s + 14) (length h) in
    record f {
      src_port = if has_ports then Some (number_at h s) else None;
      dst_port = if has_ports then Some (number_at h (s + 2)) else None;
      tcp_flags = if has_flags then Some (slice_index h (s + 13)) else None;
    }

-- the protocol and the addresses of the IPv4 header at `b`
unfoldable pub with_ipv4 : HeaderFacts → ℕ → List ℕ → HeaderFacts
with_ipv4 f b h =
    record f {
      kind = Ipv4;
      proto = Some (slice_index h (b + 9));
      src = V4 (slice_range h (b + 12) (b + 16));
      dst = V4 (slice_range h (b + 16) (b + 20));
    }

-- the length in bytes of the IPv4 header at `b`; its lowest half byte counts words of four bytes
abbrev pub ipv4_length : List ℕ → ℕ → ℕ
ipv4_length h b = 4 * (slice_index h b % 16)

-- where in the packet the fragment at `b` begins, in units of eight bytes
abbrev pub fragment_offset : List ℕ → ℕ → ℕ
fragment_offset h b = number_at h (b + 6) % 8192

-- behind an IPv4 header stands the transport's, in a packet that isn't a later fragment
unfoldable pub behind_ipv4 : HeaderFacts → ℕ → List ℕ → HeaderFacts
behind_ipv4 f b h =
    if nat_eq (fragment_offset h b) 0 then with_transport f (slice_index h (b + 9)) (b + ipv4_length h b) h else f

-- IPv4 at `b`: at least 20 bytes, the version 4 and a header of five words or more
unfoldable pub ipv4_at : HeaderFacts → ℕ → List ℕ → HeaderFacts
ipv4_at f b h =
    if nat_le (b + 20) (length h)
    then (if nat_eq (slice_index h b / 16) 4 && nat_le 5 (slice_index h b % 16) then behind_ipv4 (with_ipv4 f b h) b h
    else record f { kind = BadIp })
    else record f { kind = Short }

-- the next header and the addresses of the IPv6 header at `b`
unfoldable pub with_ipv6 : HeaderFacts → ℕ → List ℕ → HeaderFacts
with_ipv6 f b h =
    record f {
      kind = Ipv6;
      proto = Some (slice_index h (b + 6));
      src = V6 (slice_range h (b + 8) (b + 24));
      dst = V6 (slice_range h (b + 24) (b + 40));
    }

-- IPv6 at `b`: 40 bytes and the version 6; extension headers aren't passed
unfoldable pub ipv6_at : HeaderFacts → ℕ → List ℕ → HeaderFacts
ipv6_at f b h =
    if nat_le (b + 40) (length h)
    then (if nat_eq (slice_index h b / 16) 6 then with_transport (with_ipv6 f b h) (slice_index h (b + 6)) (b + 40) h
    else record f { kind = BadIp })
    else record f { kind = Short }
