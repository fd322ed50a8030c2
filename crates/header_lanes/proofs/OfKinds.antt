-- The facts of each kind are there.
use Rattle.std.proofs.Common.{◌≡◌, ℕ, ◌+◌, ◌/◌, ◌%◌, ◌&&◌, Bool, true, false, List, Option, Some, None, refl, ap, arith, length, slice_index, nat_eq, nat_le, if◌then◌else◌}
use Rattle.std.proofs.lemmas.Bool.Decides.{nat_tests}
use Rattle.header_lanes.specs.declared.header.Kind.{Kind}
use Rattle.header_lanes.specs.declared.header.Kind.TheVariants.{Unscanned, Short, Length, Undefined, Arp, OtherType, BadIp}
use Rattle.header_lanes.specs.declared.header.HeaderFacts.{HeaderFacts}
use Rattle.header_lanes.specs.Numbers.{number_at, bare}
use Rattle.header_lanes.specs.Internet.{with_transport, with_ipv4, behind_ipv4, ipv4_at, with_ipv6, ipv6_at, fragment_offset}
use Rattle.header_lanes.specs.Ethernet.{vlan_of, type_behind, by_ethertype, by_type, from_type, ethernet}
use Rattle.header_lanes.specs.Facts.{facts_in}
use Rattle.header_lanes.specs.Kinds.{HasNoIp, HasFactsOf}

abbrev Right : HeaderFacts → Type 0
Right f = HasFactsOf f.kind f

in_both : (c : Bool) (P : HeaderFacts → Type 0) (f g : HeaderFacts) → (c ≡ true → P f) → P g → P (if c then f else g)
in_both true P f g first second = first refl
in_both false P f g first second = second

-- a frame's facts, with a kind
abbrev plain : Kind → Option ℕ → Option ℕ → HeaderFacts
plain k v e = record (bare k) { vlan = v; ethertype = e }

no_ip : (k : Kind) (v e : Option ℕ) → HasNoIp (plain k v e)
no_ip k v e = record { proto = refl; src = refl; dst = refl; src_port = refl; dst_port = refl; tcp_flags = refl }

same_type : (type known : ℕ) → nat_eq type known ≡ true → type ≡ known
same_type type known is = grind (arith, nat_tests)

ipv4_right : (v e : Option ℕ) (b : ℕ) (h : List ℕ) → Right (ipv4_at (plain Short v e) b h)
unfolding ipv4_at behind_ipv4 with_ipv4 with_transport
ipv4_right v e b h =
    in_both (nat_le (b + 20) (length h)) Right _ _
    (λ _. in_both (nat_eq (slice_index h b / 16) 4 && nat_le 5 (slice_index h b % 16)) Right _ _
    (λ _. in_both (nat_eq (fragment_offset h b) 0) Right _ _ (λ _. (refl, (_, refl), (_, refl))) (refl, (_, refl), (_, refl))) (no_ip BadIp v e))
    (no_ip Short v e)

ipv6_right : (v e : Option ℕ) (b : ℕ) (h : List ℕ) → Right (ipv6_at (plain Short v e) b h)
unfolding ipv6_at with_ipv6 with_transport
ipv6_right v e b h =
    in_both (nat_le (b + 40) (length h)) Right _ _
    (λ _. in_both (nat_eq (slice_index h b / 16) 6) Right _ _ (λ _. (refl, (_, refl), (_, refl))) (no_ip BadIp v e))
    (no_ip Short v e)

type_right : (v : Option ℕ) (type b : ℕ) (h : List ℕ) → Right (by_type (plain Short v None) type b h)
unfolding by_type by_ethertype
type_right v type b h =
    in_both (nat_le type 1500) Right _ _ (λ _. (refl, no_ip Length v None))
    (in_both (nat_le type 1535) Right _ _ (λ _. (refl, no_ip Undefined v None))
    (in_both (nat_eq type 0x0806) Right _ _ (λ is. (ap Some (same_type type 0x0806 is), no_ip Arp v (Some type)))
    (in_both (nat_eq type 0x0800) Right _ _ (λ _. ipv4_right v (Some type) b h)
    (in_both (nat_eq type 0x86dd) Right _ _ (λ _. ipv6_right v (Some type) b h) (refl, no_ip OtherType v (Some type))))))

from_right : (v at : Option ℕ) (h : List ℕ) → Right (from_type (plain Short v None) at h)
unfolding from_type
from_right v None h = no_ip Short v None
from_right v (Some t) h = type_right v (number_at h t) (t + 2) h

pub facts_are_right : (protocol : ℕ) (h : List ℕ) → HasFactsOf (facts_in protocol h).kind (facts_in protocol h)
unfolding facts_in ethernet
facts_are_right protocol h =
    in_both (nat_eq protocol 1) Right _ _ (λ _. from_right (vlan_of h) (if nat_le 14 (length h) then type_behind 2 12 h else None) h)
    (in_both (nat_eq protocol 11) Right _ _ (λ _. ipv4_right None None 0 h)
    (in_both (nat_eq protocol 12) Right _ _ (λ _. ipv6_right None None 0 h) (refl, refl, no_ip Unscanned None None)))
