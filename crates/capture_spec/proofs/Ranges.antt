-- The bytes of a payload are a range of its frame.
use Rattle.std.proofs.Common.{◌≡◌, ℕ, ◌+◌, ◌==◌, Bool, false, if◌then◌else◌, List, [], ◌∷◌, length, Option, Some, None, Ok, Err, refl, subst, arith}
use Rattle.std.proofs.lemmas.Bool.{cond_both, ltb-false}
use Rattle.wire_spec.specs.Heads.{AgentAddress}
use Rattle.capture_spec.specs.declared.passed.Passed.{Passed}
use Rattle.capture_spec.specs.declared.passed.Passed.TheVariants.{NotIp}
use Rattle.capture_spec.specs.Payloads.{Payload, PayloadOutcome, IsWithin, unless, pair, type_place, udp_rules, ipv4_rules, ipv6_rules, udp_payload, ipv4_payload, ipv6_payload, typed_payload, payload_behind, payload_of}

-- where it is taken, it is a range
abbrev InFrame : List ℕ → PayloadOutcome → Type 0
InFrame frame (Ok payload) = IsWithin frame payload.bytes
InFrame frame (Err reason) = Unit {0}

-- none of these rules applies
abbrev DontApply : List (Bool × Passed) → Type 0
DontApply [] = Unit {0}
DontApply (rule ∷ rules) = (rule.0 ≡ false) × DontApply rules

behind_rules : (frame : List ℕ) (rules : List (Bool × Passed)) (answer : PayloadOutcome)
    → (DontApply rules → InFrame frame answer) → InFrame frame (unless rules answer)
behind_rules frame [] answer h = h tt
behind_rules frame (rule ∷ rules) answer h =
    cond_both rule.0 (Err rule.1) (unless rules answer) (InFrame frame) (λ _. tt)
    (λ no. behind_rules frame rules answer (λ others. h (no, others)))

udp_in_frame : (frame : List ℕ) (source : AgentAddress) (at end : ℕ) → InFrame frame (udp_payload frame source at end)
unfolding udp_payload
udp_in_frame frame source at end =
    behind_rules frame (udp_rules frame at end) _ (λ h. record {
      from = at + 8;
      to = at + pair frame (at + 4);
      ordered = omega (arith, ltb-false (pair frame (at + 4)) 8 h.1.1.1.0);
      captured = ltb-false (length frame) (at + pair frame (at + 4)) h.1.1.1.1.1.0;
      range = refl;
    })

ipv4_in_frame : (frame : List ℕ) (at : ℕ) → InFrame frame (ipv4_payload frame at)
unfolding ipv4_payload
ipv4_in_frame frame at = behind_rules frame (ipv4_rules frame at) _ (λ _. udp_in_frame frame _ _ _)

ipv6_in_frame : (frame : List ℕ) (at : ℕ) → InFrame frame (ipv6_payload frame at)
unfolding ipv6_payload
ipv6_in_frame frame at = behind_rules frame (ipv6_rules frame at) _ (λ _. udp_in_frame frame _ _ _)

typed_in_frame : (frame : List ℕ) (type at : ℕ) → InFrame frame (typed_payload frame type at)
unfolding typed_payload
typed_in_frame frame type at =
    let other : PayloadOutcome = if type == 0x86dd then ipv6_payload frame at else Err NotIp in
    cond_both (type == 0x0800) (ipv4_payload frame at) other (InFrame frame) (λ _. ipv4_in_frame frame at)
    (λ _. cond_both (type == 0x86dd) (ipv6_payload frame at) (Err NotIp) (InFrame frame)
    (λ _. ipv6_in_frame frame at) (λ _. tt))

behind_in_frame : (frame : List ℕ) (place : Option ℕ) → InFrame frame (payload_behind frame place)
unfolding payload_behind
behind_in_frame frame None = tt
behind_in_frame frame (Some at) = typed_in_frame frame (pair frame at) (at + 2)

pub payload_in_frame : (frame : List ℕ) (payload : Payload) → payload_of frame ≡ Ok payload
    → IsWithin frame payload.bytes
unfolding payload_of
payload_in_frame frame payload e = subst (InFrame frame) e (behind_in_frame frame (type_place 2 12 frame))
