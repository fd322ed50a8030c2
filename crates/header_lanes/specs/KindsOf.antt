-- Which headers are of which kind.
use Rattle.std.specs.Prelude.{ℕ, ◌+◌, ◌/◌, ◌%◌, ◌&&◌, List, Option, Some, None, length, slice_index, if◌then◌else◌, nat_eq, nat_le}
use Rattle.header_lanes.specs.declared.header.Kind.{Kind}
use Rattle.header_lanes.specs.declared.header.Kind.TheVariants.{Unscanned, Short, Length, Undefined, Arp, Ipv4, Ipv6, OtherType, BadIp}
use Rattle.header_lanes.specs.Numbers.{number_at}
use Rattle.header_lanes.specs.Ethernet.{type_behind}

-- an IPv4 header that should stand at `b`: 20 bytes, the version 4, and five words or more
unfoldable pub ipv4_kind : ℕ → List ℕ → Kind
ipv4_kind b h =
    if nat_le (b + 20) (length h) then (if nat_eq (slice_index h b / 16) 4 && nat_le 5 (slice_index h b % 16) then Ipv4 else BadIp) else Short

-- an IPv6 header that should stand at `b`: 40 bytes and the version 6
unfoldable pub ipv6_kind : ℕ → List ℕ → Kind
ipv6_kind b h =
    if nat_le (b + 40) (length h) then (if nat_eq (slice_index h b / 16) 6 then Ipv6 else BadIp) else Short

-- a frame of this type, whose payload begins at `b`
unfoldable pub type_kind : ℕ → ℕ → List ℕ → Kind
type_kind type b h =
    if nat_le type 1500 then Length
    else (if nat_le type 1535 then Undefined
    else (if nat_eq type 0x0806 then Arp
    else (if nat_eq type 0x0800 then ipv4_kind b h
    else (if nat_eq type 0x86dd then ipv6_kind b h else OtherType))))

-- a frame whose type stands here, or isn't all there
unfoldable pub frame_kind : Option ℕ → List ℕ → Kind
frame_kind None h = Short
frame_kind (Some t) h = type_kind (number_at h t) (t + 2) h

-- the kind by the header protocol
unfoldable pub kind_in : ℕ → List ℕ → Kind
kind_in protocol h =
    if nat_eq protocol 1 then frame_kind (if nat_le 14 (length h) then type_behind 2 12 h else None) h
    else (if nat_eq protocol 11 then ipv4_kind 0 h else (if nat_eq protocol 12 then ipv6_kind 0 h else Unscanned))
