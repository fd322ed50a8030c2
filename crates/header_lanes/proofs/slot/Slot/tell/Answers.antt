use Rattle.std.proofs.Common.{◌≡◌, ◌∙◌, ap, sym, refl, arith, false, nat_eq, take}
use Rattle.std.proofs.lemmas.Bool.Decides.{nat_tests}
use Rattle.header_lanes.specs.declared.header.Kind.{Kind}
use Rattle.header_lanes.specs.declared.header.HeaderFacts.{HeaderFacts}
use Rattle.header_lanes.specs.Internet.{ipv4_at, ipv6_at}
use Rattle.header_lanes.specs.Slots.{base, slot_vlan, slot_type, framed, kind_of_path}
use Rattle.header_lanes.proofs.Held.{whole_front}
use Rattle.header_lanes.proofs.Outlines.{as_ipv4, as_ipv6, as_frame, rebuilt}
use Rattle.header_lanes.proofs.slot.Slot.tell.Goals as goal

pub returns-in-5 : goal.returns-in-5
returns-in-5 c =
    let s = c.args.self.now in
    c.read_ipv4.ensures
    ∙ rebuilt (λ f b. ipv4_at f b (take c.min.result s.bytes)) c.only.ensures c.vlan-facts.ensures c.ethertype-facts.ensures (c.from.ensures ∙ c.requires.start)
    ∙ ap (λ n. ipv4_at (framed (slot_vlan s) (slot_type s)) (base s) (take n s.bytes)) c.min.ensures
    ∙ ap (ipv4_at (framed (slot_vlan s) (slot_type s)) (base s)) (whole_front s (omega arith))
    ∙ as_ipv4 s (sym c.requires.follows ∙ c.in-5.is)

pub returns-in-6 : goal.returns-in-6
returns-in-6 c =
    let s = c.args.self.now in
    c.read_ipv6.ensures
    ∙ rebuilt (λ f b. ipv6_at f b (take c.min.result s.bytes)) c.only.ensures c.vlan-facts.ensures c.ethertype-facts.ensures (c.from-in-6.ensures ∙ c.requires.start)
    ∙ ap (λ n. ipv6_at (framed (slot_vlan s) (slot_type s)) (base s) (take n s.bytes)) c.min.ensures
    ∙ ap (ipv6_at (framed (slot_vlan s) (slot_type s)) (base s)) (whole_front s (omega arith))
    ∙ as_ipv6 s (sym c.requires.follows ∙ c.in-6.is)

pub returns-in_default : goal.returns-in_default
returns-in_default c =
    let s = c.args.self.now in
    let other = c.in_default in
    let not_ipv4 : nat_eq c.args.follows 5 ≡ false = grind (arith, nat_tests) in
    let not_ipv6 : nat_eq c.args.follows 6 ≡ false = grind (arith, nat_tests) in
    let of_kind : Kind → HeaderFacts = λ k. record c.only.result { kind = k; vlan = c.vlan-facts.result; ethertype = c.ethertype-facts.result } in
    ap of_kind c.kind_by-facts.ensures
    ∙ rebuilt {b = 0} {b' = 0} (λ f b. record f { kind = kind_of_path c.args.follows }) c.only.ensures c.vlan-facts.ensures c.ethertype-facts.ensures refl
    ∙ as_frame s c.args.follows (sym c.requires.follows) not_ipv4 not_ipv6
