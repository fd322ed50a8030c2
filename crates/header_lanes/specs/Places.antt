-- Where in a header its facts stand.
use Rattle.std.specs.Prelude.{◌≡◌, ◌≤◌, ℕ, ◌+◌, ◌/◌, ◌%◌, List, Option, Some, None, IfSome, ⊤, length, slice_index, slice_range, if◌then◌else◌, nat_eq, nat_le}
use Rattle.data_format.specs.declared.address.Address.{Address}
use Rattle.data_format.specs.declared.address.Address.TheVariants.{Unknown, V4, V6}
use Rattle.header_lanes.specs.declared.header.HeaderFacts.{HeaderFacts}
use Rattle.header_lanes.specs.Numbers.{number_at}
use Rattle.header_lanes.specs.Internet.{ipv4_length}
use Rattle.header_lanes.specs.Ethernet.{type_behind}

-- behind a type that stands here
abbrev pub after_type : Option ℕ → ℕ
after_type None = 0
after_type (Some t) = t + 2

-- where an IP header stands: behind the frame's type, or at the front
abbrev pub ip_place : ℕ → List ℕ → ℕ
ip_place protocol h = if nat_eq protocol 1 then after_type (if nat_le 14 (length h) then type_behind 2 12 h else None) else 0

-- behind an IP header at `b`, whose version says how long it is
abbrev pub transport_place : ℕ → List ℕ → ℕ
transport_place b h = if nat_eq (slice_index h b / 16) 4 then b + ipv4_length h b else b + 40

-- an address is these bytes, of an IPv4 header or of an IPv6 header
abbrev pub IsAddress : Address → List ℕ → List ℕ → Type 0
IsAddress Unknown four sixteen = ⊤
IsAddress (V4 a) four sixteen = a ≡ four
IsAddress (V6 a) four sixteen = a ≡ sixteen

-- a number, where it is told, is one of 16 bits that stands here within the header
abbrev pub IsNumberAt : Option ℕ → ℕ → List ℕ → Type 0
IsNumberAt told at h = IfSome told (λ n. (at + 2 ≤ length h) × (n ≡ number_at h at))

-- each fact that is told stands at its place, if an IP header stands at `b`
pub record AreThere (b : ℕ) (h : List ℕ) (f : HeaderFacts) : Type 0 where
  pub vlan : IfSome f.vlan (λ v. (16 ≤ length h) × (v ≡ number_at h 14 % 4096))
  pub src : IsAddress f.src (slice_range h (b + 12) (b + 16)) (slice_range h (b + 8) (b + 24))
  pub dst : IsAddress f.dst (slice_range h (b + 16) (b + 20)) (slice_range h (b + 24) (b + 40))
  pub src_port : IsNumberAt f.src_port (transport_place b h) h
  pub dst_port : IsNumberAt f.dst_port (transport_place b h + 2) h
  pub tcp_flags : IfSome f.tcp_flags (λ x. (transport_place b h + 14 ≤ length h) × (x ≡ slice_index h (transport_place b h + 13)))
