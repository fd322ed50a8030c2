-- A datagram has one head and one list of samples.
use Rattle.std.proofs.Common.{◌≡◌, ℕ, List, Result, Ok, refl, sym, ap, ◌∙◌}
use Rattle.wire_spec.specs.declared.pad.Pad.{Pad}
use Rattle.wire_spec.specs.declared.fault.Fault.{Fault}
use Rattle.wire_spec.specs.Shapes.{Trees}
use Rattle.wire_spec.specs.Heads.{AgentAddress, unknown, ipv4, ipv6, Head, address_tree, datagram_tree}
use Rattle.wire_spec.specs.Tables.{datagram}
use Rattle.wire_spec.specs.Whole.{SpellsWhole, whole_reading}
use Rattle.wire_spec.proofs.OneReading.{whole_taken}

pub same_address : (a b : AgentAddress) → address_tree a ≡ address_tree b → a ≡ b
same_address unknown unknown e = refl
same_address unknown (ipv4 y) e = absurd cc
same_address unknown (ipv6 y) e = absurd cc
same_address (ipv4 x) unknown e = absurd cc
same_address (ipv4 x) (ipv4 y) e = let f : x ≡ y = cc in ap ipv4 f
same_address (ipv4 x) (ipv6 y) e = absurd cc
same_address (ipv6 x) unknown e = absurd cc
same_address (ipv6 x) (ipv4 y) e = absurd cc
same_address (ipv6 x) (ipv6 y) e = let f : x ≡ y = cc in ap ipv6 f

-- heads with the same fields
pub same_fields : (g h : Head) → address_tree g.agent ≡ address_tree h.agent → g.sub_agent ≡ h.sub_agent
    → g.sequence ≡ h.sequence → g.uptime ≡ h.uptime → g ≡ h
same_fields g h address sub sequence uptime =
    let make : AgentAddress → ℕ → ℕ → ℕ → Head =
    λ a s q u. record { agent = a; sub_agent = s; sequence = q; uptime = u } in
    ap (λ (a : AgentAddress). make a g.sub_agent g.sequence g.uptime) (same_address g.agent h.agent address)
    ∙ ap (λ (s : ℕ). make h.agent s g.sequence g.uptime) sub
    ∙ ap (λ (q : ℕ). make h.agent h.sub_agent q g.uptime) sequence
    ∙ ap (λ (u : ℕ). make h.agent h.sub_agent h.sequence u) uptime

pub same_parts : (g h : Head) (s t : Trees) → datagram_tree g s ≡ datagram_tree h t → (g ≡ h) × (s ≡ t)
same_parts g h s t e =
    let address : address_tree g.agent ≡ address_tree h.agent = cc in
    let sub : g.sub_agent ≡ h.sub_agent = cc in
    let sequence : g.sequence ≡ h.sequence = cc in
    let uptime : g.uptime ≡ h.uptime = cc in
    let samples : s ≡ t = cc in
    (same_fields g h address sub sequence uptime, samples)

pub ok_value : {A : Type 0} (r : Result A Fault) (x y : A) → r ≡ Ok x → r ≡ Ok y → x ≡ y
ok_value {A} r x y one two =
    let P : Result A Fault = Ok x in
    let Q : Result A Fault = Ok y in
    let both : P ≡ Q = sym one ∙ two in
    cc

pub one_head : (p : Pad) (bytes : List ℕ) (g h : Head) (s t : Trees) → SpellsWhole p datagram bytes (datagram_tree g s)
    → SpellsWhole p datagram bytes (datagram_tree h t) → (g ≡ h) × (s ≡ t)
one_head p bytes g h s t one two =
    same_parts g h s t (ok_value (whole_reading p datagram bytes) (datagram_tree g s) (datagram_tree h t)
    (whole_taken p datagram bytes (datagram_tree g s) one) (whole_taken p datagram bytes (datagram_tree h t) two))
