-- The UDP datagram to the collector's port that an Ethernet frame holds (IEEE 802.3 and 802.1Q; RFC 791, section
-- 3.1; RFC 8200, section 3; RFC 768). Numbers are big-endian, and places count from the frame's first byte.
use Rattle.std.specs.Prelude.{◌≡◌, ℕ, zero, suc, ◌+◌, ◌*◌, ◌/◌, ◌%◌, ◌≤◌, Bool, not, ◌||◌, ◌==◌, nat_lt, if◌then◌else◌, List, [], ◌∷◌, length, slice_index, slice_range, Option, Some, None, Result, Ok, Err}
use Rattle.wire_spec.specs.Heads.{AgentAddress, ipv4, ipv6}
use Rattle.capture_spec.specs.Items.{Sender}
use Rattle.capture_spec.specs.declared.passed.Passed.{Passed}
use Rattle.capture_spec.specs.declared.passed.Passed.TheVariants.{Short, NotIp, BadIp, Fragment, NotUdp, BadLen, Cut, Port}

-- what a datagram carries, and who sent it
pub record Payload : Type 0 where
  pub sender : Sender
  pub bytes : List ℕ

abbrev pub PayloadOutcome : Type 0
PayloadOutcome = Result Payload Passed

-- the number of the two bytes at a place
abbrev pub pair : List ℕ → ℕ → ℕ
pair frame at = slice_index frame at * 256 + slice_index frame (at + 1)

-- ---- rules: each says whether it applies and why the frame is passed over then

-- the first rule that applies decides, and else the answer is this
abbrev pub unless : List (Bool × Passed) → PayloadOutcome → PayloadOutcome
unless [] answer = answer
unless (rule ∷ rules) answer = if rule.0 then Err rule.1 else unless rules answer

-- ---- Ethernet

-- the tag of a customer's VLAN, or of a service's
abbrev pub is_tag : ℕ → Bool
is_tag type = type == 0x8100 || type == 0x88a8

-- the place of the type behind so many tags at most; None where the frame ends before
unfoldable pub type_place : ℕ → ℕ → List ℕ → Option ℕ
type_place zero at frame = if nat_lt (length frame) (at + 2) then None else Some at
type_place (suc tags) at frame =
    if nat_lt (length frame) (at + 2) then None
    else if is_tag (pair frame at) then type_place tags (at + 4) frame
    else Some at

-- ---- UDP

-- the rules of a datagram at this place, in a packet of IP that ends here by its own lengths
abbrev pub udp_rules : List ℕ → ℕ → ℕ → List (Bool × Passed)
udp_rules frame at end =
    let captured = length frame in
    let datagram = pair frame (at + 4) in
    (nat_lt end (at + 8), BadLen) ∷
    (nat_lt captured (at + 8), Cut) ∷
    (not (pair frame (at + 2) == 6343), Port) ∷
    (nat_lt datagram 8, BadLen) ∷
    (nat_lt end (at + datagram), BadLen) ∷
    (nat_lt captured (at + datagram), Cut) ∷ []

-- the payload, behind the eight bytes of the header and to the end of the datagram by its own length
unfoldable pub udp_payload : List ℕ → AgentAddress → ℕ → ℕ → PayloadOutcome
udp_payload frame source at end =
    unless (udp_rules frame at end) (Ok (record {
      sender = record { address = source; port = pair frame at };
      bytes = slice_range frame (at + 8) (at + pair frame (at + 4));
    }))

-- ---- IP

-- the bytes of the header, and those of the whole packet
abbrev pub ipv4_header : List ℕ → ℕ → ℕ
ipv4_header frame at = 4 * (slice_index frame at % 16)

abbrev pub ipv4_total : List ℕ → ℕ → ℕ
ipv4_total frame at = pair frame (at + 2)

-- A fragment has further ones behind it or others before it: the low fourteen bits of its word aren't all zero.
abbrev pub ipv4_rules : List ℕ → ℕ → List (Bool × Passed)
ipv4_rules frame at =
    (nat_lt (length frame) (at + 20), Short) ∷
    (not (slice_index frame at / 16 == 4), BadIp) ∷
    (nat_lt (slice_index frame at % 16) 5, BadIp) ∷
    (nat_lt (ipv4_total frame at) (ipv4_header frame at), BadIp) ∷
    (not (pair frame (at + 6) % 0x4000 == 0), Fragment) ∷
    (not (slice_index frame (at + 9) == 17), NotUdp) ∷ []

unfoldable pub ipv4_payload : List ℕ → ℕ → PayloadOutcome
ipv4_payload frame at =
    unless (ipv4_rules frame at)
    (udp_payload frame (ipv4 (slice_range frame (at + 12) (at + 16))) (at + ipv4_header frame at)
    (at + ipv4_total frame at))

abbrev pub ipv6_rules : List ℕ → ℕ → List (Bool × Passed)
ipv6_rules frame at =
    (nat_lt (length frame) (at + 40), Short) ∷
    (not (slice_index frame at / 16 == 6), BadIp) ∷
    (not (slice_index frame (at + 6) == 17), NotUdp) ∷ []

-- the length of IPv6 counts what follows its header
unfoldable pub ipv6_payload : List ℕ → ℕ → PayloadOutcome
ipv6_payload frame at =
    unless (ipv6_rules frame at)
    (udp_payload frame (ipv6 (slice_range frame (at + 8) (at + 24))) (at + 40) (at + 40 + pair frame (at + 4)))

-- ---- the frame

-- what the packet holds that begins here, behind a type
unfoldable pub typed_payload : List ℕ → ℕ → ℕ → PayloadOutcome
typed_payload frame type at =
    if type == 0x0800 then ipv4_payload frame at
    else if type == 0x86dd then ipv6_payload frame at
    else Err NotIp

unfoldable pub payload_behind : List ℕ → Option ℕ → PayloadOutcome
payload_behind frame None = Err Short
payload_behind frame (Some at) = typed_payload frame (pair frame at) (at + 2)

-- the type stands behind two addresses of six bytes, and behind at most two tags
unfoldable pub payload_of : List ℕ → PayloadOutcome
payload_of frame = payload_behind frame (type_place 2 12 frame)

-- ---- what the laws say

-- the bytes of a payload are those from one place of the frame to another
pub record IsWithin (frame bytes : List ℕ) : Type 0 where
  pub from : ℕ
  pub to : ℕ
  pub ordered : from ≤ to
  pub captured : to ≤ length frame
  pub range : bytes ≡ slice_range frame from to
