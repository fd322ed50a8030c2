-- What the places of a batch hold, and what is asked of each: rules of frames as tests of one slot.
use Rattle.std.specs.Prelude.{◌≡◌, ℕ, zero, suc, ◌+◌, ◌%◌, Bool, not, ◌&&◌, List, Option, Some, None, map, length, min, take, slice_index, nat_eq, nat_le, if◌then◌else◌}
use Rattle.header_lanes.specs.declared.header.Kind.{Kind}
use Rattle.header_lanes.specs.declared.header.Kind.TheVariants.{Unscanned, Short, Length, Undefined, Arp, Ipv4, Ipv6, OtherType}
use Rattle.header_lanes.specs.declared.header.HeaderFacts.{HeaderFacts}
use Rattle.header_lanes.specs.declared.slot.Slot.{Slot}
use Rattle.header_lanes.specs.declared.columns.Columns.{Columns}
use Rattle.header_lanes.specs.Numbers.{number_at, bare}
use Rattle.header_lanes.specs.Ethernet.{is_tag}
use Rattle.header_lanes.specs.Facts.{facts_in}

-- the header that a slot holds
abbrev pub head : Slot → List ℕ
head s = take s.len s.bytes

-- its facts
abbrev pub owed : Slot → HeaderFacts
owed s = facts_in s.protocol (head s)

-- the columns of these slots
pub record AreColumns (c : Columns) (slots : List Slot) : Type 0 where
  pub lengths : c.lengths ≡ map (λ s. length (head s)) slots
  pub protocols : c.protocols ≡ map (λ s. min s.protocol 255) slots
  pub first_high : c.first_high ≡ map (λ s. slice_index (head s) 12) slots
  pub first_low : c.first_low ≡ map (λ s. slice_index (head s) 13) slots
  pub second_high : c.second_high ≡ map (λ s. slice_index (head s) 16) slots
  pub second_low : c.second_low ≡ map (λ s. slice_index (head s) 17) slots
  pub third_high : c.third_high ≡ map (λ s. slice_index (head s) 20) slots
  pub third_low : c.third_low ≡ map (λ s. slice_index (head s) 21) slots

-- a flag of a lane
abbrev pub flag : Bool → ℕ
flag b = if b then 255 else 0

-- the flags of a test of the slots
abbrev pub flags : (Slot → Bool) → List Slot → List ℕ
flags test slots = map (λ s. flag (test s)) slots

abbrev pub is_frame : Slot → Bool
is_frame s = nat_eq s.protocol 1

-- a tag stands behind the addresses, and what it is in is no shorter than such a header
abbrev pub has_tag : Slot → Bool
has_tag s = (is_frame s && is_tag (number_at (head s) 12)) && nat_le 14 (length (head s))

-- a second one stands behind it
abbrev pub has_two_tags : Slot → Bool
has_two_tags s = (has_tag s && is_tag (number_at (head s) 16)) && nat_le 18 (length (head s))

-- where a frame's type stands behind the tags that are passed
abbrev pub type_at : Slot → ℕ
type_at s = if has_two_tags s then 20 else (if has_tag s then 16 else 12)

-- where an IP header would stand: behind a frame's type, or at the front
abbrev pub base : Slot → ℕ
base s = if has_two_tags s then 22 else (if has_tag s then 18 else (if is_frame s then 14 else 0))

-- the frame is there up to its type
abbrev pub holds_type : Slot → Bool
holds_type s = nat_le (type_at s + 2) (length (head s))

abbrev pub type_of : Slot → ℕ
type_of s = number_at (head s) (type_at s)

-- the VLAN is told
abbrev pub has_vlan : Slot → Bool
has_vlan s = (is_frame s && is_tag (number_at (head s) 12)) && nat_le 16 (length (head s))

-- the type is told: it is there, and above 1535
abbrev pub has_type : Slot → Bool
has_type s = (is_frame s && holds_type s) && not (nat_le (type_of s) 1535)

abbrev pub slot_vlan : Slot → Option ℕ
slot_vlan s = if has_vlan s then Some (number_at (head s) 14 % 4096) else None

abbrev pub slot_type : Slot → Option ℕ
slot_type s = if has_type s then Some (type_of s) else None

-- what follows a type: of these numbers 5 is an IPv4 header and 6 an IPv6 header, and the others say the kind
abbrev pub type_path : ℕ → ℕ
type_path t =
    if nat_le t 1500 then 2 else (if nat_le t 1535 then 3 else (if nat_eq t 0x0806 then 4
    else (if nat_eq t 0x0800 then 5 else (if nat_eq t 0x86dd then 6 else 7))))

-- what follows where there is no frame; 0 where nothing is read
abbrev pub bare_path : Slot → ℕ
bare_path s = if nat_eq s.protocol 11 then 5 else (if nat_eq s.protocol 12 then 6 else 0)

-- what follows in a slot; 1 where a frame ends before its type
abbrev pub path : Slot → ℕ
path s = if is_frame s then (if holds_type s then type_path (type_of s) else 1) else bare_path s

-- the kind of such a number
abbrev pub kind_of_path : ℕ → Kind
kind_of_path zero = Unscanned
kind_of_path (suc zero) = Short
kind_of_path (suc (suc zero)) = Length
kind_of_path (suc (suc (suc zero))) = Undefined
kind_of_path (suc (suc (suc (suc zero)))) = Arp
kind_of_path (suc (suc (suc (suc (suc zero))))) = Ipv4
kind_of_path (suc (suc (suc (suc (suc (suc zero)))))) = Ipv6
kind_of_path (suc (suc (suc (suc (suc (suc (suc n))))))) = OtherType

-- a frame of which no more is known than its VLAN and its type
abbrev pub framed : Option ℕ → Option ℕ → HeaderFacts
framed v e = record (bare Short) { vlan = v; ethertype = e }
