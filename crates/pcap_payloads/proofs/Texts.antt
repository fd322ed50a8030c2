-- The counts and the text of packets, one packet after the other.
use Rattle.std.proofs.Common.{◌≡◌, ℕ, ◌+◌, Bool, true, false, cond, List, [], ◌∷◌, ◌++◌, length, Ok, Err, refl, sym, ap, ◌∙◌, append_assoc, append-nil, fold, arith, length-append}
use Rattle.std.specs.List.{count_by}
use Rattle.std.proofs.lemmas.Grind.{flat_map-append}
use Rattle.wire_spec.specs.Captures.{capture_header}
use Rattle.capture_spec.specs.declared.capture_version.CaptureVersion.TheVariants.{Two}
use Rattle.capture_spec.specs.declared.passed.Passed.TheVariants.{Short, NotIp, BadIp, Fragment, NotUdp, BadLen, Cut, Port}
use Rattle.capture_spec.specs.Items.{Received, end_item, item_bytes}
use Rattle.capture_spec.specs.Payloads.{PayloadOutcome, payload_of}
use Rattle.capture_spec.specs.PcapFiles.{Packet}
use Rattle.capture_spec.specs.VersionedCaptures.{all_received, opened_bytes, received_bytes, whole_bytes}
use Rattle.capture_spec.specs.declared.pcap_output.PcapOutput.{PcapOutput}
use Rattle.capture_spec.specs.declared.pcap_output.PcapOutput.TheVariants.{Capture, Counts}
use Rattle.pcap_payloads.specs.declared.packet_counts.PacketCounts.{PacketCounts}
use Rattle.pcap_payloads.specs.Outcomes.{begun_capture, counts_of, header_behind, is_passed, is_taken, last_text, one_more, packet_text, part_text, payloads_in, received_at, taken_in, total_of, whole_text, with_outcome}
use Rattle.std.proofs.lemmas.List.Sums.{fold_push}

-- ---- counts

one_added : (b : Bool) (n : ℕ) → n + cond b 1 0 ≡ one_more b n
one_added true n = refl
one_added false n = omega arith

counted-push : (f : PayloadOutcome → Bool) (packets : List Packet) (p : Packet)
    → count_by (λ (q : Packet). f (payload_of q.bytes)) (packets ++ p ∷ [])
    ≡ one_more (f (payload_of p.bytes)) (count_by (λ (q : Packet). f (payload_of q.bytes)) packets)
counted-push f packets p =
    fold_push (λ n (q : Packet). n + cond (f (payload_of q.bytes)) 1 0) 0 packets p
    ∙ one_added (f (payload_of p.bytes)) (count_by (λ (q : Packet). f (payload_of q.bytes)) packets)

same_counts : {a b c d e f g h k a' b' c' d' e' f' g' h' k' : ℕ} → a ≡ a' → b ≡ b' → c ≡ c' → d ≡ d' → e ≡ e'
    → f ≡ f' → g ≡ g' → h ≡ h' → k ≡ k'
    → ◌≡◌ {A = PacketCounts}
    (record { taken = a; short = b; not_ip = c; bad_ip = d; fragment = e; not_udp = f; port = g; bad_len = h; cut = k })
    (record { taken = a'; short = b'; not_ip = c'; bad_ip = d'; fragment = e'; not_udp = f'; port = g'; bad_len = h'; cut = k' })
same_counts a b c d e f g h k = λ i. record {
  taken = a i;
  short = b i;
  not_ip = c i;
  bad_ip = d i;
  fragment = e i;
  not_udp = f i;
  port = g i;
  bad_len = h i;
  cut = k i;
}

pub counts-push : (packets : List Packet) (p : Packet)
    → counts_of (packets ++ p ∷ []) ≡ with_outcome (payload_of p.bytes) (counts_of packets)
unfolding counts_of
counts-push packets p =
    same_counts
    (counted-push is_taken packets p)
    (counted-push (is_passed Short) packets p)
    (counted-push (is_passed NotIp) packets p)
    (counted-push (is_passed BadIp) packets p)
    (counted-push (is_passed Fragment) packets p)
    (counted-push (is_passed NotUdp) packets p)
    (counted-push (is_passed Port) packets p)
    (counted-push (is_passed BadLen) packets p)
    (counted-push (is_passed Cut) packets p)

-- each outcome is counted once
outcome_once : (o : PayloadOutcome) (c : PacketCounts) → total_of (with_outcome o c) ≡ total_of c + 1
outcome_once (Ok payload) c = omega arith
outcome_once (Err Short) c = omega arith
outcome_once (Err NotIp) c = omega arith
outcome_once (Err BadIp) c = omega arith
outcome_once (Err Fragment) c = omega arith
outcome_once (Err NotUdp) c = omega arith
outcome_once (Err Port) c = omega arith
outcome_once (Err BadLen) c = omega arith
outcome_once (Err Cut) c = omega arith

-- a further packet was counted
pub one_counted : (counts counts' : PacketCounts) (o : PayloadOutcome) (n : ℕ) → counts' ≡ with_outcome o counts
    → total_of counts ≡ n → total_of counts' ≡ n + 1
one_counted counts counts' o n is before =
    ap (λ (c : PacketCounts). total_of c) is ∙ outcome_once o counts ∙ ap (λ m. m + 1) before

pub total-push : (packets : List Packet) (p : Packet)
    → total_of (counts_of (packets ++ p ∷ [])) ≡ total_of (counts_of packets) + 1
total-push packets p =
    ap (λ (c : PacketCounts). total_of c) (counts-push packets p)
    ∙ outcome_once (payload_of p.bytes) (counts_of packets)

-- the payloads are as many as are counted
one_payload : (o : PayloadOutcome) (arrival : ℕ) → cond (is_taken o) 1 0 ≡ length (received_at arrival o)
one_payload (Ok payload) arrival = refl
one_payload (Err reason) arrival = refl

taken_from : (n : ℕ) (packets : List Packet)
    → fold (λ m (p : Packet). m + cond (is_taken (payload_of p.bytes)) 1 0) n packets ≡ n + length (payloads_in packets)
taken_from n [] = omega arith
taken_from n (p ∷ packets) =
    let one = one_payload (payload_of p.bytes) p.arrival in
    let sum = length-append (received_at p.arrival (payload_of p.bytes)) (payloads_in packets) in
    taken_from (n + cond (is_taken (payload_of p.bytes)) 1 0) packets ∙ omega (arith, one, sum)

pub taken_length : (packets : List Packet) → taken_in packets ≡ length (payloads_in packets)
taken_length packets = taken_from 0 packets ∙ omega arith

-- ---- the text

payloads-push : (packets : List Packet) (p : Packet)
    → payloads_in (packets ++ p ∷ []) ≡ payloads_in packets ++ received_at p.arrival (payload_of p.bytes)
payloads-push packets p =
    flat_map-append (λ (q : Packet). received_at q.arrival (payload_of q.bytes)) packets (p ∷ [])
    ∙ ap (λ l. payloads_in packets ++ l) (append-nil (received_at p.arrival (payload_of p.bytes)))

begun-push : (entries : List Received) (e : Received)
    → begun_capture (entries ++ e ∷ []) ≡ begun_capture entries ++ (header_behind (length entries) ++ item_bytes e)
unfolding opened_bytes
begun-push [] e = ap (λ l. capture_header 2 ++ l) (append-nil (item_bytes e))
begun-push (x ∷ entries) e =
    ap (λ l. capture_header 2 ++ l) (flat_map-append (received_bytes Two) (x ∷ entries) (e ∷ []))
    ∙ ap (λ l. capture_header 2 ++ (all_received Two (x ∷ entries) ++ l)) (append-nil (item_bytes e))
    ∙ sym (append_assoc (capture_header 2) (all_received Two (x ∷ entries)) (item_bytes e))

outcome-push : (entries : List Received) (arrival : ℕ) (o : PayloadOutcome)
    → begun_capture (entries ++ received_at arrival o)
    ≡ begun_capture entries ++ packet_text Capture (length entries) arrival o
outcome-push entries arrival (Ok payload) = begun-push entries _
outcome-push entries arrival (Err reason) =
    ap begun_capture (append-nil entries) ∙ sym (append-nil (begun_capture entries))

pub part-push : (output : PcapOutput) (packets : List Packet) (p : Packet)
    → part_text output (packets ++ p ∷ [])
    ≡ part_text output packets ++ packet_text output (counts_of packets).taken p.arrival (payload_of p.bytes)
unfolding counts_of
part-push Counts packets p = refl
part-push Capture packets p =
    ap begun_capture (payloads-push packets p)
    ∙ outcome-push (payloads_in packets) p.arrival (payload_of p.bytes)
    ∙ ap (λ n. begun_capture (payloads_in packets) ++ packet_text Capture n p.arrival (payload_of p.bytes))
    (sym (taken_length packets))

begun_whole : (entries : List Received)
    → begun_capture entries ++ (header_behind (length entries) ++ end_item (length entries)) ≡ whole_bytes Two entries
unfolding opened_bytes
begun_whole [] = ap (λ l. l ++ end_item 0) (sym (append-nil (capture_header 2)))
begun_whole (e ∷ entries) = refl

pub whole-ends : (output : PcapOutput) (packets : List Packet)
    → part_text output packets ++ last_text output (counts_of packets) ≡ whole_text output packets
unfolding counts_of
whole-ends Counts packets = refl
whole-ends Capture packets =
    ap (λ n. begun_capture (payloads_in packets) ++ (header_behind n ++ end_item n)) (taken_length packets)
    ∙ begun_whole (payloads_in packets)
