-- The kind of a header's facts.
use Rattle.std.proofs.Common.{◌≡◌, ℕ, ◌+◌, ◌/◌, ◌%◌, ◌&&◌, Bool, true, false, List, Option, Some, None, refl, length, slice_index, nat_eq, nat_le, if◌then◌else◌}
use Rattle.header_lanes.specs.declared.header.Kind.{Kind}
use Rattle.header_lanes.specs.declared.header.Kind.TheVariants.{Short, Ipv4}
use Rattle.header_lanes.specs.declared.header.HeaderFacts.{HeaderFacts}
use Rattle.header_lanes.specs.Numbers.{number_at, bare}
use Rattle.header_lanes.specs.Internet.{with_transport, with_ipv4, behind_ipv4, ipv4_at, with_ipv6, ipv6_at, fragment_offset}
use Rattle.header_lanes.specs.Ethernet.{vlan_of, type_behind, by_ethertype, by_type, from_type, ethernet}
use Rattle.header_lanes.specs.Facts.{facts_in}
use Rattle.header_lanes.specs.KindsOf.{ipv4_kind, ipv6_kind, type_kind, frame_kind, kind_in}

-- a choice of facts is a choice of kinds
of_choice : (c : Bool) (f g : HeaderFacts) (k l : Kind) → f.kind ≡ k → g.kind ≡ l → (if c then f else g).kind ≡ (if c then k else l)
of_choice true f g k l first second = first
of_choice false f g k l first second = second

one_kind : (c : Bool) (f g : HeaderFacts) (k : Kind) → f.kind ≡ k → g.kind ≡ k → (if c then f else g).kind ≡ k
one_kind true f g k first second = first
one_kind false f g k first second = second

of_ipv4 : (f : HeaderFacts) (b : ℕ) (h : List ℕ) → (ipv4_at f b h).kind ≡ ipv4_kind b h
unfolding ipv4_at behind_ipv4 with_ipv4 with_transport ipv4_kind
of_ipv4 f b h =
    of_choice (nat_le (b + 20) (length h)) _ _ _ _
    (of_choice (nat_eq (slice_index h b / 16) 4 && nat_le 5 (slice_index h b % 16)) _ _ _ _ (one_kind (nat_eq (fragment_offset h b) 0) _ _ Ipv4 refl refl) refl) refl

of_ipv6 : (f : HeaderFacts) (b : ℕ) (h : List ℕ) → (ipv6_at f b h).kind ≡ ipv6_kind b h
unfolding ipv6_at with_ipv6 with_transport ipv6_kind
of_ipv6 f b h =
    of_choice (nat_le (b + 40) (length h)) _ _ _ _ (of_choice (nat_eq (slice_index h b / 16) 6) _ _ _ _ refl refl) refl

of_type : (f : HeaderFacts) (type b : ℕ) (h : List ℕ) → (by_type f type b h).kind ≡ type_kind type b h
unfolding by_type by_ethertype type_kind
of_type f type b h =
    let g : HeaderFacts = record f { ethertype = Some type } in
    of_choice (nat_le type 1500) _ _ _ _ refl
    (of_choice (nat_le type 1535) _ _ _ _ refl
    (of_choice (nat_eq type 0x0806) _ _ _ _ refl
    (of_choice (nat_eq type 0x0800) (ipv4_at g b h) _ _ _ (of_ipv4 g b h)
    (of_choice (nat_eq type 0x86dd) (ipv6_at g b h) _ _ _ (of_ipv6 g b h) refl))))

of_frame : (f : HeaderFacts) (at : Option ℕ) (h : List ℕ) → (from_type f at h).kind ≡ frame_kind at h
unfolding from_type frame_kind
of_frame f None h = refl
of_frame f (Some t) h = of_type f (number_at h t) (t + 2) h

pub kind_is : (protocol : ℕ) (h : List ℕ) → (facts_in protocol h).kind ≡ kind_in protocol h
unfolding facts_in ethernet kind_in
kind_is protocol h =
    of_choice (nat_eq protocol 1) (ethernet h) _ _ _ (of_frame (record (bare Short) { vlan = vlan_of h }) (if nat_le 14 (length h) then type_behind 2 12 h else None) h)
    (of_choice (nat_eq protocol 11) (ipv4_at (bare Short) 0 h) _ _ _ (of_ipv4 (bare Short) 0 h)
    (of_choice (nat_eq protocol 12) (ipv6_at (bare Short) 0 h) _ _ _ (of_ipv6 (bare Short) 0 h) refl))
