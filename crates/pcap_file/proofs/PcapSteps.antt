-- A further answer keeps what was given in the words of pcap files.
use Rattle.std.proofs.Common.{◌≡◌, ℕ, ◌+◌, ◌^◌, ◌<◌, ◌≤◌, inl, inr, List, [], ◌∷◌, ◌++◌, length, take, drop, Option, Some, Ok, Err, refl, sym, ap, subst, ◌∙◌, arith, length-append}
use Rattle.std.proofs.lemmas.Bool.{cases_lt}
use Rattle.wire_spec.specs.declared.input_kind.InputKind.{InputKind}
use Rattle.wire_spec.specs.declared.input_kind.InputKind.TheVariants.{Long, Cut}
use Rattle.capture_spec.specs.declared.byte_order.ByteOrder.{ByteOrder}
use Rattle.capture_spec.specs.PcapFiles.{Holds, Packet, PcapFault, PcapFile, Walks, front_of, packets_length}
use Rattle.capture_spec.proofs.PacketWalks.{stops_at_end}
use Rattle.byte_ends.specs.Unread.{StopsWithin}
use Rattle.byte_ends.proofs.Unread.{moved}
use Rattle.sflow_io.specs.declared.capture.ReadRefusal.{ReadRefusal}
use Rattle.sflow_io.specs.declared.capture.ReadRefusal.TheVariants as refusal
use Rattle.pcap_file.specs.declared.reading.PcapNext.TheVariants as next
use Rattle.pcap_file.specs.declared.reading.PcapStage.{PcapStage}
use Rattle.pcap_file.specs.declared.reading.PcapStage.TheVariants as stage
use Rattle.pcap_file.specs.PcapAnswers.{Answer, AnswersFront, AnswersLast, AnswersWithin, FaultsAt, GivesPacket, HasEnded, ReadsHeader, stage_after}
use Rattle.pcap_file.specs.PcapFaults.{FileThen, StopsBehind, StopsInPacket}
use Rattle.pcap_file.specs.PcapSteps.{BeginsWithPackets, EndsAt, HasGivenAt, IsBehind, with_answer}

same_list : (a b : List ℕ) → Some a ≡ Some b → a ≡ b
same_list a b e = cc

-- ---- a further packet

pub walks-push : (order : ByteOrder) (packets : List Packet) (p : Packet) (bytes rest more : List ℕ)
    → Walks order bytes packets rest → front_of order rest ≡ Holds p more
    → Walks order bytes (packets ++ p ∷ []) more
walks-push order [] p bytes rest more walk front = (more, ap (front_of order) walk ∙ front, refl)
walks-push order (q ∷ packets) p bytes rest more (behind, first, walk) front =
    (behind, first, walks-push order packets p behind rest more walk front)

packets_length-push : (packets : List Packet) (p : Packet)
    → packets_length (packets ++ p ∷ []) ≡ packets_length packets + (16 + length p.bytes)
packets_length-push [] p = omega arith
packets_length-push (q ∷ packets) p = omega (arith, packets_length-push packets p)

-- ---- behind a header and some packets

-- `has` is what the source has left then
module _ (bytes : List ℕ) (packets : List Packet) (has : Option (List ℕ)) (order : ByteOrder) (rest : List ℕ)
    (before : FileThen order packets rest bytes) where
  abbrev LosesNone : Answer → Type 0
  LosesNone answer = answer ≡ Err refusal.ReadFault → StopsBehind packets bytes has

  packet_given : (count offset at len : ℕ) (room : List ℕ) (left : Option (List ℕ)) → count ≡ length packets
      → offset ≡ 24 + packets_length packets → count < 2 ^ 48 → GivesPacket (front_of order rest) room left at len
      → HasGivenAt bytes (with_answer packets room (Ok (next.Packet at len)))
      (stage_after (stage.Within order count offset) (Ok (next.Packet at len))) left has
  packet_given count offset at len room left count_is offset_is few g =
      let p : Packet = record { arrival = at; bytes = take len room } in
      record {
        rest = g.rest;
        before = record {
          header = before.header;
          packets_are = walks-push order packets p (drop 24 bytes) rest g.rest before.packets_are g.holds;
        };
        left_is = g.left_is;
        count_is = omega (arith, count_is, length-append packets (p ∷ []));
        offset_is = omega (arith, offset_is, g.length_is, packets_length-push packets p);
        few = omega (arith, few);
      }

  broken_fault : (at : ℕ) (kind : InputKind) → FaultsAt (24 + packets_length packets) (front_of order rest) at kind
      → PcapFault bytes at kind
  broken_fault at Cut h = record {
    order = order;
    header = before.header;
    packets = packets;
    rest = rest;
    before = before.packets_are;
    front_is = h.0;
    place = h.1;
  }
  broken_fault at Long h = (
    24 + packets_length packets,
    h.1,
    record {
      order = order;
      header = before.header;
      packets = packets;
      rest = rest;
      before = before.packets_are;
      front_is = h.0;
      place = refl;
    },
  )
  broken_fault at _ h = absurd h

  all_read : rest ≡ [] → PcapFile bytes packets
  all_read none = record {
    order = order;
    header = before.header;
    packets_are = subst (Walks order (drop 24 bytes) packets) none before.packets_are;
  }

  front_given : (count offset : ℕ) (room : List ℕ) (left : Option (List ℕ)) (answer : Answer)
      → count ≡ length packets → offset ≡ 24 + packets_length packets → count < 2 ^ 48
      → AnswersFront offset (front_of order rest) room left answer → LosesNone answer
      → HasGivenAt bytes (with_answer packets room answer) (stage_after (stage.Within order count offset) answer) left has
  front_given count offset room left (Ok (next.Packet at len)) count_is offset_is few a stops =
      packet_given count offset at len room left count_is offset_is few a
  front_given count offset room left (Ok next.End) count_is offset_is few a stops =
      record { few = omega (arith, few, count_is); file = all_read (stops_at_end order rest a) }
  front_given count offset room left (Err (refusal.BadInput at kind)) count_is offset_is few a stops =
      let broken = subst (λ n. FaultsAt n (front_of order rest) at kind) offset_is a in
      record {
        few = omega (arith, few, count_is);
        fault = broken_fault at kind broken;
        behind = inr (record { order = order; rest = rest; before = before; broken = broken });
      }
  front_given count offset room left (Err refusal.ReadFault) count_is offset_is few a stops = stops refl
  front_given count offset room left (Err refusal.Spent) count_is offset_is few a stops = absurd a

  last_given : (count offset : ℕ) (room : List ℕ) (left : Option (List ℕ)) (answer : Answer)
      → length packets ≡ 2 ^ 48 → AnswersLast rest answer → LosesNone answer
      → HasGivenAt bytes (with_answer packets room answer) (stage_after (stage.Within order count offset) answer) left has
  last_given count offset room left (Ok (next.Packet at len)) number a stops = absurd a
  last_given count offset room left (Ok next.End) number a stops =
      record { few = omega (arith, number); file = all_read a }
  last_given count offset room left (Err (refusal.BadInput at kind)) number a stops = absurd a
  last_given count offset room left (Err refusal.ReadFault) number a stops = stops refl
  last_given count offset room left (Err refusal.Spent) number a stops =
      record { order = order; rest = rest; before = before; number = number; more = a }

  loses_none : (old : Option (List ℕ)) → old ≡ Some rest → StopsInPacket order old has → StopsBehind packets bytes has
  loses_none old told s =
      let m = moved old has rest s.part told s.moved in
      record {
        part = s.part;
        rest = m.rest;
        gone = inr (order, subst (λ l. FileThen order packets l bytes) m.whole before, s.none);
        left_is = m.left_is;
      }

  pub behind_given : (count offset : ℕ) (room : List ℕ) (old left : Option (List ℕ)) (answer : Answer)
      → old ≡ Some rest → count ≡ length packets → offset ≡ 24 + packets_length packets → count ≤ 2 ^ 48
      → AnswersWithin order count offset rest room left answer
      → (answer ≡ Err refusal.ReadFault → StopsInPacket order old has)
      → HasGivenAt bytes (with_answer packets room answer) (stage_after (stage.Within order count offset) answer) left has
  behind_given count offset room old left answer told count_is offset_is few a stops =
      elim (cases_lt count (2 ^ 48)) [
        | inl lt ↦
            front_given count offset room left answer count_is offset_is lt (a.goes_on lt)
            (λ e. loses_none old told (stops e))
        | inr le ↦
            last_given count offset room left answer (omega (arith, le, few, count_is)) (a.at_most le)
            (λ e. loses_none old told (stops e))
      ]

-- ---- a further answer of a reader behind some packets

pub within_given : (order : ByteOrder) (bytes : List ℕ) (packets : List Packet) (count offset : ℕ) (room : List ℕ)
    (old left has : Option (List ℕ)) (answer : Answer) → IsBehind order packets bytes count offset old
    → ((rest : List ℕ) → old ≡ Some rest → AnswersWithin order count offset rest room left answer)
    → (answer ≡ Err refusal.ReadFault → StopsInPacket order old has)
    → HasGivenAt bytes (with_answer packets room answer) (stage_after (stage.Within order count offset) answer) left has
within_given order bytes packets count offset room old left has answer h a stops =
    behind_given bytes packets has order h.rest h.before count offset room old left answer h.left_is h.count_is
    h.offset_is h.few (a h.rest h.left_is) stops

-- ---- at the start

pub begins_behind : (order : ByteOrder) (bytes : List ℕ) (packets : List Packet) (more mid : Option (List ℕ))
    → packets ≡ [] → more ≡ Some bytes
    → ((bytes : List ℕ) → more ≡ Some bytes → ReadsHeader bytes mid (Ok order))
    → IsBehind order packets bytes 0 24 mid
begins_behind order bytes packets more mid none told header =
    let h = header bytes told in
    subst (λ (l : List Packet). IsBehind order l bytes 0 24 mid) (sym none) (record {
      rest = drop 24 bytes;
      before = record { header = h.0; packets_are = refl };
      left_is = h.1;
      count_is = refl;
      offset_is = refl;
      few = omega arith;
    })

pub refused_at_start : (bytes : List ℕ) (packets : List Packet) (more mid has : Option (List ℕ)) (e : ReadRefusal)
    → packets ≡ [] → more ≡ Some bytes
    → ((bytes : List ℕ) → more ≡ Some bytes → ReadsHeader bytes mid (Err e))
    → (e ≡ refusal.ReadFault → StopsWithin more has 24)
    → EndsAt packets bytes has (Err e)
refused_at_start bytes packets more mid has (refusal.BadInput at kind) none told header stops =
    let h = header bytes told in
    record { few = omega (arith, ap (λ (l : List Packet). length l) none); fault = h.1; behind = inl (none, h.0) }
refused_at_start bytes packets more mid has refusal.ReadFault none told header stops =
    let s = stops refl in
    let m = moved more has bytes s.part told s.moved in
    record { part = s.part; rest = m.rest; gone = inl (none, s.few, m.whole); left_is = m.left_is }
refused_at_start bytes packets more mid has refusal.Spent none told header stops = absurd (header bytes told)

-- ---- after the end

pub given_again : (bytes : List ℕ) (packets : List Packet) (room : List ℕ) (has : Option (List ℕ)) (last : Answer)
    → EndsAt packets bytes has last → EndsAt (with_answer packets room last) bytes has last
given_again bytes packets room has (Ok (next.Packet at len)) h = absurd h
given_again bytes packets room has (Ok next.End) h = h
given_again bytes packets room has (Err e) h = h

-- ---- what was given before the end stands at the front of the input

pub given_front : (bytes : List ℕ) (packets : List Packet) (at : PcapStage) (more left : Option (List ℕ))
    → ¬ (HasEnded at) → HasGivenAt bytes packets at more left → BeginsWithPackets packets bytes
given_front bytes packets stage.Start more left going given = inl given.0
given_front bytes packets (stage.Within order count offset) more left going given =
    inr (order, given.rest, given.before)
given_front bytes packets (stage.Ended last) more left going given = absurd (going tt)
