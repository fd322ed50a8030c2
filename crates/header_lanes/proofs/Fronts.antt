-- What is read of a header is the same in each front that has 96 bytes of it.
use Rattle.std.proofs.Common.{◌≡◌, ℕ, zero, suc, ◌+◌, ◌*◌, ◌-◌, ◌/◌, ◌%◌, ◌<◌, ◌≤◌, ◌||◌, ◌&&◌, Bool, true, false, List, Option, Some, None, refl, ap, ap₂, ◌∙◌, arith, length, take, drop, min, slice_index, slice_range, nat_eq, nat_le, if◌then◌else◌}
use Rattle.std.proofs.lemmas.List.{get_or-take, length-take, drop-take, take-take}
use Rattle.std.proofs.lemmas.Bool.Decides.{nat_tests}
use Rattle.header_lanes.specs.declared.header.Kind.TheVariants.{Short, BadIp}
use Rattle.header_lanes.specs.declared.header.HeaderFacts.{HeaderFacts}
use Rattle.header_lanes.specs.Numbers.{number_at, bare}
use Rattle.header_lanes.specs.Internet.{with_transport, with_ipv4, behind_ipv4, ipv4_at, with_ipv6, ipv6_at}
use Rattle.header_lanes.specs.Ethernet.{is_tag, vlan_of, type_behind, by_ethertype, by_type, from_type, ethernet}
use Rattle.header_lanes.specs.Facts.{facts_in}

same_byte : (n : ℕ) (h : List ℕ) (i : ℕ) → i < n → slice_index (take n h) i ≡ slice_index h i
same_byte n h i lt = get_or-take n h i 0 lt

same_number : (n : ℕ) (h : List ℕ) (i : ℕ) → i + 1 < n → number_at (take n h) i ≡ number_at h i
same_number n h i lt = ap₂ (λ x y. x * 256 + y) (same_byte n h i (omega arith)) (same_byte n h (i + 1) lt)

same_range : (n : ℕ) (h : List ℕ) (a b : ℕ) → a ≤ b → b ≤ n → slice_range (take n h) a b ≡ slice_range h a b
same_range n h a b up le =
    let parts : n ≡ a + (n - a) = omega arith in
    ap (λ m. take (b - a) (drop a (take m h))) parts ∙ ap (take (b - a)) (drop-take a (n - a) h)
    ∙ take-take (b - a) (n - a) (drop a h) (omega arith)

reaches_least : (k n m : ℕ) → k ≤ n → nat_le k (min n m) ≡ nat_le k m
reaches_least k n m le = grind (arith, nat_tests)

reaches : (n : ℕ) (h : List ℕ) (k : ℕ) → k ≤ n → nat_le k (length (take n h)) ≡ nat_le k (length h)
reaches n h k le = ap (nat_le k) (length-take n h) ∙ reaches_least k n (length h) le

-- the transport's facts by what they are made of
told : HeaderFacts → ℕ → Bool → Bool → ℕ → ℕ → ℕ → HeaderFacts
told f proto ports flags from to bits =
    let has_ports = (nat_eq proto 6 || nat_eq proto 17) && ports in
    let has_flags = nat_eq proto 6 && flags in
    record f {
      src_port = if has_ports then Some from else None;
      dst_port = if has_ports then Some to else None;
      tcp_flags = if has_flags then Some bits else None;
    }

same_transport : (n : ℕ) (f : HeaderFacts) (proto s : ℕ) (h : List ℕ) → s + 14 ≤ n
    → with_transport f proto s (take n h) ≡ with_transport f proto s h
unfolding with_transport told
same_transport n f proto s h le =
    let ports = nat_le (s + 4) (length h) in
    let flags = nat_le (s + 14) (length h) in
    let cut = take n h in
    ap (λ x. told f proto x (nat_le (s + 14) (length cut)) (number_at cut s) (number_at cut (s + 2)) (slice_index cut (s + 13))) (reaches n h (s + 4) (omega arith))
    ∙ ap (λ x. told f proto ports x (number_at cut s) (number_at cut (s + 2)) (slice_index cut (s + 13))) (reaches n h (s + 14) le)
    ∙ ap (λ x. told f proto ports flags x (number_at cut (s + 2)) (slice_index cut (s + 13))) (same_number n h s (omega arith))
    ∙ ap (λ x. told f proto ports flags (number_at h s) x (slice_index cut (s + 13))) (same_number n h (s + 2) (omega arith))
    ∙ ap (told f proto ports flags (number_at h s) (number_at h (s + 2))) (same_byte n h (s + 13) (omega arith))

same_ipv4 : (n : ℕ) (f : HeaderFacts) (b : ℕ) (h : List ℕ) → b + 20 ≤ n → with_ipv4 f b (take n h) ≡ with_ipv4 f b h
unfolding with_ipv4
same_ipv4 n f b h le =
    rw (same_byte n h (b + 9) (omega arith), same_range n h (b + 12) (b + 16) (omega arith) (omega arith), same_range n h (b + 16) (b + 20) (omega arith) le) refl

same_ipv6 : (n : ℕ) (f : HeaderFacts) (b : ℕ) (h : List ℕ) → b + 40 ≤ n → with_ipv6 f b (take n h) ≡ with_ipv6 f b h
unfolding with_ipv6
same_ipv6 n f b h le =
    rw (same_byte n h (b + 6) (omega arith), same_range n h (b + 8) (b + 24) (omega arith) (omega arith), same_range n h (b + 24) (b + 40) (omega arith) le) refl

same_behind : (n : ℕ) (f : HeaderFacts) (b : ℕ) (h : List ℕ) → b + 74 ≤ n → behind_ipv4 f b (take n h) ≡ behind_ipv4 f b h
unfolding behind_ipv4
same_behind n f b h le =
    let cut = take n h in
    let then_at : ℕ → HeaderFacts → HeaderFacts = λ offset g. if nat_eq (offset % 8192) 0 then g else f in
    let words : slice_index h b % 16 ≤ 15 = omega arith in
    ap (λ x. then_at x (with_transport f (slice_index cut (b + 9)) (b + 4 * (slice_index cut b % 16)) cut)) (same_number n h (b + 6) (omega arith))
    ∙ ap (λ x. then_at (number_at h (b + 6)) (with_transport f x (b + 4 * (slice_index cut b % 16)) cut)) (same_byte n h (b + 9) (omega arith))
    ∙ ap (λ x. then_at (number_at h (b + 6)) (with_transport f (slice_index h (b + 9)) (b + 4 * (x % 16)) cut)) (same_byte n h b (omega arith))
    ∙ ap (then_at (number_at h (b + 6))) (same_transport n f (slice_index h (b + 9)) (b + 4 * (slice_index h b % 16)) h (omega (arith, words)))

same_ipv4_at : (n : ℕ) (f : HeaderFacts) (b : ℕ) (h : List ℕ) → b + 74 ≤ n → ipv4_at f b (take n h) ≡ ipv4_at f b h
unfolding ipv4_at
same_ipv4_at n f b h le =
    let cut = take n h in
    let ways : Bool → ℕ → HeaderFacts → HeaderFacts =
    λ room first g. if room then (if nat_eq (first / 16) 4 && nat_le 5 (first % 16) then g else record f { kind = BadIp }) else record f { kind = Short } in
    ap (λ x. ways x (slice_index cut b) (behind_ipv4 (with_ipv4 f b cut) b cut)) (reaches n h (b + 20) (omega arith))
    ∙ ap (λ x. ways (nat_le (b + 20) (length h)) x (behind_ipv4 (with_ipv4 f b cut) b cut)) (same_byte n h b (omega arith))
    ∙ ap (ways (nat_le (b + 20) (length h)) (slice_index h b))
    (ap (λ g. behind_ipv4 g b cut) (same_ipv4 n f b h (omega arith)) ∙ same_behind n (with_ipv4 f b h) b h le)

same_ipv6_at : (n : ℕ) (f : HeaderFacts) (b : ℕ) (h : List ℕ) → b + 54 ≤ n → ipv6_at f b (take n h) ≡ ipv6_at f b h
unfolding ipv6_at
same_ipv6_at n f b h le =
    let cut = take n h in
    let ways : Bool → ℕ → HeaderFacts → HeaderFacts =
    λ room first g. if room then (if nat_eq (first / 16) 6 then g else record f { kind = BadIp }) else record f { kind = Short } in
    ap (λ x. ways x (slice_index cut b) (with_transport (with_ipv6 f b cut) (slice_index cut (b + 6)) (b + 40) cut)) (reaches n h (b + 40) (omega arith))
    ∙ ap (λ x. ways (nat_le (b + 40) (length h)) x (with_transport (with_ipv6 f b cut) (slice_index cut (b + 6)) (b + 40) cut)) (same_byte n h b (omega arith))
    ∙ ap (ways (nat_le (b + 40) (length h)) (slice_index h b))
    (ap₂ (λ g x. with_transport g x (b + 40) cut) (same_ipv6 n f b h (omega arith)) (same_byte n h (b + 6) (omega arith))
    ∙ same_transport n (with_ipv6 f b h) (slice_index h (b + 6)) (b + 40) h (omega arith))

same_type : (n : ℕ) (f : HeaderFacts) (type b : ℕ) (h : List ℕ) → b + 74 ≤ n → by_type f type b (take n h) ≡ by_type f type b h
unfolding by_type by_ethertype
same_type n f type b h le =
    let g : HeaderFacts = record f { ethertype = Some type } in
    rw (same_ipv4_at n g b h le, same_ipv6_at n g b h (omega arith)) refl

from_ways : (f : HeaderFacts) (h cut : List ℕ) (tag room : Bool) (t : ℕ) (x y : Option ℕ)
    → from_type f x cut ≡ from_type f y h → from_type f (Some t) cut ≡ from_type f (Some t) h
    → from_type f (if tag then (if room then x else None) else Some t) cut ≡ from_type f (if tag then (if room then y else None) else Some t) h
unfolding from_type
from_ways f h cut true true t x y further here = further
from_ways f h cut true false t x y further here = refl
from_ways f h cut false room t x y further here = here

same_here : (n : ℕ) (f : HeaderFacts) (t : ℕ) (h : List ℕ) → t + 76 ≤ n → from_type f (Some t) (take n h) ≡ from_type f (Some t) h
unfolding from_type
same_here n f t h le =
    ap (λ x. by_type f x (t + 2) (take n h)) (same_number n h t (omega arith)) ∙ same_type n f (number_at h t) (t + 2) h (omega arith)

same_behind_tags : (n : ℕ) (f : HeaderFacts) (tags t : ℕ) (h : List ℕ) → t + 4 * tags + 76 ≤ n
    → from_type f (type_behind tags t (take n h)) (take n h) ≡ from_type f (type_behind tags t h) h
unfolding type_behind
same_behind_tags n f zero t h le = same_here n f t h (omega arith)
same_behind_tags n f (suc tags) t h le =
    let cut = take n h in
    let further = type_behind tags (t + 4) cut in
    ap₂ (λ x room. from_type f (if is_tag x then (if room then further else None) else Some t) cut)
    (same_number n h t (omega arith)) (reaches n h (t + 6) (omega arith))
    ∙ from_ways f h cut (is_tag (number_at h t)) (nat_le (t + 6) (length h)) t further (type_behind tags (t + 4) h)
    (same_behind_tags n f tags (t + 4) h (omega arith)) (same_here n f t h (omega arith))

same_vlan : (n : ℕ) (h : List ℕ) → 16 ≤ n → vlan_of (take n h) ≡ vlan_of h
unfolding vlan_of
same_vlan n h le =
    let cut = take n h in
    ap₂ (λ x room. if is_tag x && room then Some (number_at cut 14 % 4096) else None) (same_number n h 12 (omega arith)) (reaches n h 16 le)
    ∙ ap (λ x. if is_tag (number_at h 12) && nat_le 16 (length h) then Some (x % 4096) else None) (same_number n h 14 (omega arith))

short_or : (f : HeaderFacts) (h cut : List ℕ) (room : Bool) (x y : Option ℕ) → from_type f x cut ≡ from_type f y h
    → from_type f (if room then x else None) cut ≡ from_type f (if room then y else None) h
unfolding from_type
short_or f h cut true x y same = same
short_or f h cut false x y same = refl

same_ethernet : (n : ℕ) (h : List ℕ) → 96 ≤ n → ethernet (take n h) ≡ ethernet h
unfolding ethernet
same_ethernet n h le =
    let cut = take n h in
    let f : HeaderFacts = record (bare Short) { vlan = vlan_of h } in
    ap₂ (λ v room. from_type (record (bare Short) { vlan = v }) (if room then type_behind 2 12 cut else None) cut)
    (same_vlan n h (omega arith)) (reaches n h 14 (omega arith))
    ∙ short_or f h cut (nat_le 14 (length h)) (type_behind 2 12 cut) (type_behind 2 12 h) (same_behind_tags n f 2 12 h (omega arith))

pub same_facts : (n protocol : ℕ) (h : List ℕ) → 96 ≤ n → facts_in protocol (take n h) ≡ facts_in protocol h
unfolding facts_in
same_facts n protocol h le =
    rw (same_ethernet n h le, same_ipv4_at n (bare Short) 0 h (omega arith), same_ipv6_at n (bare Short) 0 h (omega arith)) refl
