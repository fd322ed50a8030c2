-- What is told of a header stands in it.
use Rattle.std.proofs.Common.{◌≡◌, ℕ, ◌+◌, ◌/◌, ◌%◌, ◌≤◌, ◌||◌, ◌&&◌, Bool, true, false, List, Option, Some, None, IfSome, refl, subst, ap, arith, length, slice_index, nat_eq, nat_le, if◌then◌else◌}
use Rattle.std.proofs.lemmas.Bool.Decides.{nat_tests}
use Rattle.header_lanes.specs.declared.header.Kind.{Kind}
use Rattle.header_lanes.specs.declared.header.Kind.TheVariants.{Unscanned, Short, Length, Undefined, Arp, OtherType, BadIp}
use Rattle.header_lanes.specs.declared.header.HeaderFacts.{HeaderFacts}
use Rattle.header_lanes.specs.Numbers.{number_at, bare}
use Rattle.header_lanes.specs.Internet.{with_transport, with_ipv4, behind_ipv4, ipv4_at, with_ipv6, ipv6_at, ipv4_length, fragment_offset}
use Rattle.header_lanes.specs.Ethernet.{is_tag, vlan_of, type_behind, by_ethertype, by_type, from_type, ethernet}
use Rattle.header_lanes.specs.Facts.{facts_in}
use Rattle.header_lanes.specs.Places.{AreThere, after_type, ip_place, transport_place}

some_if : (c : Bool) (x : ℕ) (P : ℕ → Type 0) → (c ≡ true → P x) → IfSome (if c then Some x else None) P
some_if true x P holds = holds refl
some_if false x P holds = tt

room_for : (c : Bool) (k n : ℕ) → (c && nat_le k n) ≡ true → k ≤ n
room_for true k n is = grind (arith, nat_tests)
room_for false k n is = cc

-- the facts of a frame, before those of what it carries
framed : Option ℕ → Option ℕ → HeaderFacts
framed v e = record (bare Short) { vlan = v; ethertype = e }

VlanStands : Option ℕ → List ℕ → Type 0
VlanStands v h = IfSome v (λ x. (16 ≤ length h) × (x ≡ number_at h 14 % 4096))

no_more : (k : Kind) (v e : Option ℕ) (b : ℕ) (h : List ℕ) → VlanStands v h → AreThere b h (record (framed v e) { kind = k })
unfolding framed VlanStands
no_more k v e b h stands = record { vlan = stands; src = tt; dst = tt; src_port = tt; dst_port = tt; tcp_flags = tt }

ipv4_named : (v e : Option ℕ) (b : ℕ) (h : List ℕ) → VlanStands v h → AreThere b h (with_ipv4 (framed v e) b h)
unfolding framed VlanStands with_ipv4
ipv4_named v e b h stands = record { vlan = stands; src = refl; dst = refl; src_port = tt; dst_port = tt; tcp_flags = tt }

ipv6_named : (v e : Option ℕ) (b : ℕ) (h : List ℕ) → VlanStands v h → AreThere b h (with_ipv6 (framed v e) b h)
unfolding framed VlanStands with_ipv6
ipv6_named v e b h stands = record { vlan = stands; src = refl; dst = refl; src_port = tt; dst_port = tt; tcp_flags = tt }

ports_behind : (f : HeaderFacts) (proto b : ℕ) (h : List ℕ) → AreThere b h f → AreThere b h (with_transport f proto (transport_place b h) h)
unfolding with_transport
ports_behind f proto b h there =
    let s = transport_place b h in
    let ports = nat_eq proto 6 || nat_eq proto 17 in
    record {
      vlan = there.vlan;
      src = there.src;
      dst = there.dst;
      src_port = some_if (ports && nat_le (s + 4) (length h)) (number_at h s) _ (λ is. (omega (arith, room_for ports (s + 4) (length h) is), refl));
      dst_port = some_if (ports && nat_le (s + 4) (length h)) (number_at h (s + 2)) _ (λ is. (omega (arith, room_for ports (s + 4) (length h) is), refl));
      tcp_flags = some_if (nat_eq proto 6 && nat_le (s + 14) (length h)) (slice_index h (s + 13)) _ (λ is. (room_for (nat_eq proto 6) (s + 14) (length h) is, refl));
    }

either : (c : Bool) (P : HeaderFacts → Type 0) (f g : HeaderFacts) → (c ≡ true → P f) → P g → P (if c then f else g)
either true P f g first second = first refl
either false P f g first second = second

left_of : (a b : Bool) → (a && b) ≡ true → a ≡ true
left_of true b is = refl
left_of false b is = cc

four_place : (b : ℕ) (h : List ℕ) → nat_eq (slice_index h b / 16) 4 ≡ true → transport_place b h ≡ b + ipv4_length h b
four_place b h is = ap (λ c. if c then b + ipv4_length h b else b + 40) is

not_four : (x : ℕ) → nat_eq x 6 ≡ true → nat_eq x 4 ≡ false
not_four x is = grind (arith, nat_tests)

six_place : (b : ℕ) (h : List ℕ) → nat_eq (slice_index h b / 16) 6 ≡ true → transport_place b h ≡ b + 40
six_place b h is = ap (λ c. if c then b + ipv4_length h b else b + 40) (not_four (slice_index h b / 16) is)

at_place : (f : HeaderFacts) (proto b s : ℕ) (h : List ℕ) → transport_place b h ≡ s → AreThere b h f → AreThere b h (with_transport f proto s h)
at_place f proto b s h is there = subst (λ x. AreThere b h (with_transport f proto x h)) is (ports_behind f proto b h there)

behind_there : (f : HeaderFacts) (b : ℕ) (h : List ℕ) → nat_eq (slice_index h b / 16) 4 ≡ true → AreThere b h f → AreThere b h (behind_ipv4 f b h)
unfolding behind_ipv4
behind_there f b h four there =
    either (nat_eq (fragment_offset h b) 0) (AreThere b h) (with_transport f (slice_index h (b + 9)) (b + ipv4_length h b) h) f
    (λ is. at_place f (slice_index h (b + 9)) b (b + ipv4_length h b) h (four_place b h four) there) there

ipv4_there : (v e : Option ℕ) (b : ℕ) (h : List ℕ) → VlanStands v h → AreThere b h (ipv4_at (framed v e) b h)
unfolding ipv4_at
ipv4_there v e b h stands =
    let f = framed v e in
    let four = nat_eq (slice_index h b / 16) 4 in
    let words = nat_le 5 (slice_index h b % 16) in
    either (nat_le (b + 20) (length h)) (AreThere b h) (if four && words then behind_ipv4 (with_ipv4 f b h) b h else record f { kind = BadIp }) (record f { kind = Short })
    (λ _. either (four && words) (AreThere b h) (behind_ipv4 (with_ipv4 f b h) b h) (record f { kind = BadIp })
    (λ is. behind_there (with_ipv4 f b h) b h (left_of four words is) (ipv4_named v e b h stands)) (no_more BadIp v e b h stands))
    (no_more Short v e b h stands)

ipv6_there : (v e : Option ℕ) (b : ℕ) (h : List ℕ) → VlanStands v h → AreThere b h (ipv6_at (framed v e) b h)
unfolding ipv6_at
ipv6_there v e b h stands =
    let f = framed v e in
    let six = nat_eq (slice_index h b / 16) 6 in
    let whole = with_transport (with_ipv6 f b h) (slice_index h (b + 6)) (b + 40) h in
    either (nat_le (b + 40) (length h)) (AreThere b h) (if six then whole else record f { kind = BadIp }) (record f { kind = Short })
    (λ _. either six (AreThere b h) whole (record f { kind = BadIp })
    (λ is. at_place (with_ipv6 f b h) (slice_index h (b + 6)) b (b + 40) h (six_place b h is) (ipv6_named v e b h stands)) (no_more BadIp v e b h stands))
    (no_more Short v e b h stands)

type_there : (v : Option ℕ) (type b : ℕ) (h : List ℕ) → VlanStands v h → AreThere b h (by_type (framed v None) type b h)
unfolding by_type by_ethertype framed
type_there v type b h stands =
    let g = framed v (Some type) in
    either (nat_le type 1500) (AreThere b h) _ _ (λ _. no_more Length v None b h stands)
    (either (nat_le type 1535) (AreThere b h) _ _ (λ _. no_more Undefined v None b h stands)
    (either (nat_eq type 0x0806) (AreThere b h) _ _ (λ _. no_more Arp v (Some type) b h stands)
    (either (nat_eq type 0x0800) (AreThere b h) _ _ (λ _. ipv4_there v (Some type) b h stands)
    (either (nat_eq type 0x86dd) (AreThere b h) _ _ (λ _. ipv6_there v (Some type) b h stands) (no_more OtherType v (Some type) b h stands)))))

from_there : (v at : Option ℕ) (h : List ℕ) → VlanStands v h → AreThere (after_type at) h (from_type (framed v None) at h)
unfolding from_type framed
from_there v None h stands = no_more Short v None 0 h stands
from_there v (Some t) h stands = type_there v (number_at h t) (t + 2) h stands

vlan_stands : (h : List ℕ) → VlanStands (vlan_of h) h
unfolding vlan_of VlanStands
vlan_stands h =
    some_if (is_tag (number_at h 12) && nat_le 16 (length h)) (number_at h 14 % 4096) _
    (λ is. (room_for (is_tag (number_at h 12)) 16 (length h) is, refl))

by_protocol : (c d e : Bool) (x : ℕ) (h : List ℕ) (f g k : HeaderFacts)
    → AreThere x h f → AreThere 0 h g → AreThere 0 h k
    → AreThere (if c then x else 0) h (if c then f else (if d then g else (if e then k else bare Unscanned)))
unfolding VlanStands framed
by_protocol true d e x h f g k isf isg isk = isf
by_protocol false true e x h f g k isf isg isk = isg
by_protocol false false true x h f g k isf isg isk = isk
by_protocol false false false x h f g k isf isg isk = no_more Unscanned None None 0 h tt

pub told_is_there : (protocol : ℕ) (h : List ℕ) → AreThere (ip_place protocol h) h (facts_in protocol h)
unfolding facts_in ethernet framed VlanStands
told_is_there protocol h =
    let at = if nat_le 14 (length h) then type_behind 2 12 h else None in
    by_protocol (nat_eq protocol 1) (nat_eq protocol 11) (nat_eq protocol 12) (after_type at) h
    (ethernet h) (ipv4_at (bare Short) 0 h) (ipv6_at (bare Short) 0 h)
    (from_there (vlan_of h) at h (vlan_stands h)) (ipv4_there None None 0 h tt) (ipv6_there None None 0 h tt)
