-- Ethernet frames (IEEE 802.3, section 3.2) and their tags (IEEE 802.1Q, section 9).
use Rattle.std.specs.Prelude.{ℕ, zero, suc, ◌+◌, ◌%◌, Bool, ◌||◌, ◌&&◌, List, Option, Some, None, length, if◌then◌else◌, nat_eq, nat_le}
use Rattle.header_lanes.specs.declared.header.Kind.TheVariants.{Short, Length, Undefined, Arp, OtherType}
use Rattle.header_lanes.specs.declared.header.HeaderFacts.{HeaderFacts}
use Rattle.header_lanes.specs.Numbers.{number_at, bare}
use Rattle.header_lanes.specs.Internet.{ipv4_at, ipv6_at}

-- a tag's type: of a customer's tag, or of a service's
abbrev pub is_tag : ℕ → Bool
is_tag t = nat_eq t 0x8100 || nat_eq t 0x88a8

-- the VLAN of the first tag: the low 12 bits behind its type
unfoldable pub vlan_of : List ℕ → Option ℕ
vlan_of h = if is_tag (number_at h 12) && nat_le 16 (length h) then Some (number_at h 14 % 4096) else None

-- where the type stands, at `t` or behind at most so many tags from there on; None where the header ends before
unfoldable pub type_behind : ℕ → ℕ → List ℕ → Option ℕ
type_behind zero t h = Some t
type_behind (suc tags) t h =
    if is_tag (number_at h t) then (if nat_le (t + 6) (length h) then type_behind tags (t + 4) h else None) else Some t

-- what stands at `b` behind a type that names a protocol
unfoldable pub by_ethertype : HeaderFacts → ℕ → ℕ → List ℕ → HeaderFacts
by_ethertype f type b h =
    if nat_eq type 0x0806 then record f { kind = Arp }
    else (if nat_eq type 0x0800 then ipv4_at f b h
    else (if nat_eq type 0x86dd then ipv6_at f b h else record f { kind = OtherType }))

-- a type is a length, or undefined, or names a protocol
unfoldable pub by_type : HeaderFacts → ℕ → ℕ → List ℕ → HeaderFacts
by_type f type b h =
    if nat_le type 1500 then record f { kind = Length }
    else (if nat_le type 1535 then record f { kind = Undefined }
    else by_ethertype (record f { ethertype = Some type }) type b h)

-- a frame whose type stands here, or isn't all there
unfoldable pub from_type : HeaderFacts → Option ℕ → List ℕ → HeaderFacts
from_type f None h = record f { kind = Short }
from_type f (Some t) h = by_type f (number_at h t) (t + 2) h

-- a frame: two addresses, at most two tags that are passed, and the type
unfoldable pub ethernet : List ℕ → HeaderFacts
ethernet h =
    from_type (record (bare Short) { vlan = vlan_of h }) (if nat_le 14 (length h) then type_behind 2 12 h else None) h
