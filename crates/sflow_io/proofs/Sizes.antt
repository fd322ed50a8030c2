-- How many bytes an entry has.
use Rattle.std.proofs.Common.{◌≡◌, ℕ, ◌+◌, List, ◌++◌, length, replicate, Some, None, refl, sym, ap, ◌∙◌, arith, length-append}
use Rattle.wire_spec.specs.Captures.{Entry}
use Rattle.wire_spec.specs.Heads.{AgentAddress, unknown, ipv4, ipv6}
use Rattle.wire_spec.specs.Padding.{padding_of}
use Rattle.wire_spec.proofs.CaptureEntries.{length-entry_bytes}
use Rattle.wire_spec.proofs.ZeroBytes.{length_zeros}
use Rattle.capture_spec.specs.declared.capture_version.CaptureVersion.{CaptureVersion}
use Rattle.capture_spec.specs.declared.capture_version.CaptureVersion.TheVariants.{One, Two}
use Rattle.capture_spec.specs.Items.{Sender, Received, IsAddress, address_bytes, address_kind, datagram_bytes, entry_of, hyper, item_by, item_front, item_head, sent_bytes, word}
use Rattle.capture_spec.specs.VersionedCaptures.{IsReceived, received_bytes}
use Rattle.capture_spec.proofs.ItemFronts.{item_front_is, item_head_is, sent_bytes_are}
use Rattle.capture_spec.proofs.Words.{length-hyper, length-word}
use Rattle.sflow_io.specs.CaptureAnswers.{address_size, entry_size}
use Rattle.sflow_io.proofs.Items.{datagram_bytes_are}

address_length : (a : AgentAddress) → IsAddress a → length (address_bytes a) ≡ address_size a
address_length unknown h = refl
address_length (ipv4 bytes) h = h
address_length (ipv6 bytes) h = h

front_length : (arrival port : ℕ) (a : AgentAddress) → IsAddress a
    → length (item_front arrival a port) ≡ 20 + address_size a
front_length arrival port a h =
    omega (
      arith,
      ap length (item_front_is arrival a port),
      length-append (item_head arrival (address_kind a)) (address_bytes a ++ word port),
      ap length (item_head_is arrival (address_kind a)),
      length-append (word 1) (hyper arrival ++ word (address_kind a)),
      length-append (hyper arrival) (word (address_kind a)),
      length-append (address_bytes a) (word port),
      length-word 1,
      length-hyper arrival,
      length-word (address_kind a),
      length-word port,
      address_length a h,
    )

datagram_length : (bytes : List ℕ) → length (datagram_bytes bytes) ≡ 4 + length bytes + padding_of (length bytes)
datagram_length bytes =
    let zeros : List ℕ = replicate (padding_of (length bytes)) 0 in
    omega (
      arith,
      ap length (datagram_bytes_are bytes),
      length-append (word (length bytes)) (bytes ++ zeros),
      length-append bytes zeros,
      length-word (length bytes),
      length_zeros (padding_of (length bytes)),
    )

sent_length : (s : Sender) (e : Entry) → IsAddress s.address
    → length (sent_bytes s e) ≡ entry_size (Some s) (length e.bytes)
sent_length s e h =
    omega (
      arith,
      ap length (sent_bytes_are s e),
      length-append (item_front e.arrival s.address s.port) (datagram_bytes e.bytes),
      front_length e.arrival s.port s.address h,
      datagram_length e.bytes,
    )

pub received_length : (v : CaptureVersion) (e : Received) → IsReceived v e
    → length (received_bytes v e) ≡ entry_size e.sender (length e.bytes)
received_length One e h =
    let none : entry_size e.sender (length e.bytes) ≡ entry_size None (length e.bytes) =
    ap (λ s. entry_size s (length e.bytes)) h.0 in
    length-entry_bytes (entry_of e) ∙ sym none
received_length Two e h =
    let some : entry_size e.sender (length e.bytes) ≡ entry_size (Some h.from) (length e.bytes) =
    ap (λ s. entry_size s (length e.bytes)) h.sender_is in
    ap (λ s. length (item_by s (entry_of e))) h.sender_is ∙ sent_length h.from (entry_of e) h.sender.address ∙ sym some
