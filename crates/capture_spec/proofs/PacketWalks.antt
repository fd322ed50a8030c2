-- Packets read one after the other: what is read is so, and what is so is read.
use Rattle.std.proofs.Common.{◌≡◌, ℕ, zero, suc, ◌+◌, ◌<◌, ◌≤◌, nat_lt, if◌then◌else◌, List, [], ◌∷◌, length, take, drop, Ok, Err, refl, ap, subst, ◌∙◌, arith, length-drop}
use Rattle.std.proofs.lemmas.Bool.{cond_both, ltb-false}
use Rattle.capture_spec.specs.declared.byte_order.ByteOrder.{ByteOrder}
use Rattle.wire_spec.specs.declared.input_kind.InputKind.{InputKind}
use Rattle.wire_spec.specs.declared.input_kind.InputKind.TheVariants.{Long, Cut}
use Rattle.capture_spec.specs.PcapFiles.{Packet, Front, Stops, Holds, EndsWithin, IsTooLong, Walks, most_captured, captured_at, arrival_at, front_of_bytes, front_of_packet, front_of, packets_length}
use Rattle.capture_spec.specs.PcapReading.{PcapOutcome, with_packet, read_front, packets_reading}

-- ---- fronts

-- where the end isn't, a packet takes some bytes
abbrev Takes : List ℕ → Front → Type 0
Takes rest Stops = ⊥
Takes rest (Holds p more) = length more < length rest
Takes rest EndsWithin = Unit {0}
Takes rest IsTooLong = Unit {0}

bytes_take : (arrival captured : ℕ) (rest : List ℕ) → 16 ≤ length rest
    → Takes rest (front_of_bytes arrival captured (drop 16 rest))
unfolding front_of_bytes
bytes_take arrival captured rest long =
    let p : Packet = record { arrival = arrival; bytes = take captured (drop 16 rest) } in
    cond_both (nat_lt (length (drop 16 rest)) captured) EndsWithin (Holds p (drop captured (drop 16 rest))) (Takes rest)
    (λ _. tt)
    (λ _. omega (arith, long, length-drop 16 rest, length-drop captured (drop 16 rest)))

packet_takes : (order : ByteOrder) (rest : List ℕ) → Takes rest (front_of_packet order rest)
unfolding front_of_packet
packet_takes order rest =
    let whole : Front = front_of_bytes (arrival_at order rest) (captured_at order rest) (drop 16 rest) in
    let third : Front = if nat_lt (length rest) 16 then EndsWithin else whole in
    let second : Front = if nat_lt most_captured (captured_at order rest) then IsTooLong else third in
    cond_both (nat_lt (length rest) 12) EndsWithin second (Takes rest) (λ _. tt)
    (λ _. cond_both (nat_lt most_captured (captured_at order rest)) IsTooLong third (Takes rest) (λ _. tt)
    (λ _. cond_both (nat_lt (length rest) 16) EndsWithin whole (Takes rest) (λ _. tt)
    (λ long. bytes_take (arrival_at order rest) (captured_at order rest) rest (ltb-false (length rest) 16 long))))

pub holds_less : (order : ByteOrder) (rest : List ℕ) (p : Packet) (more : List ℕ) → front_of order rest ≡ Holds p more
    → length more < length rest
unfolding front_of
holds_less order [] p more e = absurd (stops_holds p more e)
  where
    stops_holds : (p : Packet) (more : List ℕ) → Stops ≡ Holds p more → ⊥
    stops_holds p more e = cc
holds_less order (b ∷ bs) p more e = subst (Takes (b ∷ bs)) e (packet_takes order (b ∷ bs))

pub stops_at_end : (order : ByteOrder) (rest : List ℕ) → front_of order rest ≡ Stops → rest ≡ []
unfolding front_of
stops_at_end order [] e = refl
stops_at_end order (b ∷ bs) e = absurd (subst (Takes (b ∷ bs)) e (packet_takes order (b ∷ bs)))

pub end_stops : (order : ByteOrder) (rest : List ℕ) → rest ≡ [] → front_of order rest ≡ Stops
unfolding front_of
end_stops order [] e = refl
end_stops order (b ∷ bs) e = absurd (some_none b bs e)
  where
    some_none : (b : ℕ) (bs : List ℕ) → (b ∷ bs) ≡ [] → ⊥
    some_none b bs e = cc

-- ---- what is read

-- the front where a packet is faulty in this way, and where the fault stands in it
abbrev pub IsFaultOf : InputKind → Front → Type 0
IsFaultOf Cut front = front ≡ EndsWithin
IsFaultOf Long front = front ≡ IsTooLong
IsFaultOf _ front = ⊥

abbrev pub within : InputKind → ℕ
within Long = 8
within _ = 0

-- behind whole packets one is faulty; the first begins at the offset
pub record PacketsBreak (order : ByteOrder) (offset : ℕ) (bytes : List ℕ) (at : ℕ) (kind : InputKind) : Type 0 where
  pub packets : List Packet
  pub rest : List ℕ
  pub before : Walks order bytes packets rest
  pub ends : IsFaultOf kind (front_of order rest)
  pub place : at ≡ offset + packets_length packets + within kind

abbrev pub AreRead : ByteOrder → ℕ → List ℕ → PcapOutcome → Type 0
AreRead order offset bytes (Ok packets) = Walks order bytes packets []
AreRead order offset bytes (Err fault) = PacketsBreak order offset bytes fault.0 fault.1

no_less : (n : ℕ) → n < 0 → ⊥
no_less n h = omega (arith, h)

with_shows : (order : ByteOrder) (offset : ℕ) (bytes : List ℕ) (p : Packet) (more : List ℕ) (r : PcapOutcome)
    → front_of order bytes ≡ Holds p more → AreRead order (offset + (16 + length p.bytes)) more r
    → AreRead order offset bytes (with_packet p r)
with_shows order offset bytes p more (Ok packets) e h = (more, e, h)
with_shows order offset bytes p more (Err fault) e h = record {
  packets = p ∷ h.packets;
  rest = h.rest;
  before = (more, e, h.before);
  ends = h.ends;
  place = omega (arith, h.place);
}

front_shows : (order : ByteOrder) (offset : ℕ) (bytes : List ℕ) (next : ℕ → List ℕ → PcapOutcome) (front : Front)
    → front_of order bytes ≡ front
    → ((at : ℕ) (more : List ℕ) → length more < length bytes → AreRead order at more (next at more))
    → AreRead order offset bytes (read_front offset next front)
front_shows order offset bytes next Stops e h = stops_at_end order bytes e
front_shows order offset bytes next (Holds p more) e h =
    with_shows order offset bytes p more (next (offset + (16 + length p.bytes)) more) e
    (h (offset + (16 + length p.bytes)) more (holds_less order bytes p more e))
front_shows order offset bytes next EndsWithin e h =
    record { packets = []; rest = bytes; before = refl; ends = e; place = omega arith }
front_shows order offset bytes next IsTooLong e h =
    record { packets = []; rest = bytes; before = refl; ends = e; place = omega arith }

pub packets_show : (most : ℕ) (order : ByteOrder) (offset : ℕ) (bytes : List ℕ) → length bytes < most
    → AreRead order offset bytes (packets_reading most order offset bytes)
unfolding packets_reading
packets_show zero order offset bytes fewer = absurd (no_less (length bytes) fewer)
packets_show (suc most) order offset bytes fewer =
    front_shows order offset bytes (packets_reading most order) (front_of order bytes) refl
    (λ at more less. packets_show most order at more (omega (arith, less, fewer)))

-- ---- what is so

packets_back : (packets : List Packet) (most : ℕ) (order : ByteOrder) (offset : ℕ) (bytes : List ℕ)
    → length bytes < most → Walks order bytes packets [] → packets_reading most order offset bytes ≡ Ok packets
unfolding packets_reading
packets_back packets zero order offset bytes fewer w = absurd (no_less (length bytes) fewer)
packets_back [] (suc most) order offset bytes fewer w =
    ap (read_front offset (packets_reading most order)) (end_stops order bytes w)
packets_back (p ∷ packets) (suc most) order offset bytes fewer (more, e, w) =
    ap (read_front offset (packets_reading most order)) e
    ∙ ap (with_packet p) (packets_back packets most order (offset + (16 + length p.bytes)) more
    (omega (arith, fewer, holds_less order bytes p more e)) w)

front_back : (offset at : ℕ) (kind : InputKind) (next : ℕ → List ℕ → PcapOutcome) (front : Front) → IsFaultOf kind front
    → at ≡ offset + within kind → read_front offset next front ≡ Err (at, kind)
front_back offset at Cut next front e place =
    ap (read_front offset next) e ∙ ap (λ k. Err (k, Cut)) (omega (arith, place))
front_back offset at Long next front e place =
    ap (read_front offset next) e ∙ ap (λ k. Err (k, Long)) (omega (arith, place))
front_back offset at _ next front e place = absurd e

break_back : (packets : List Packet) (most : ℕ) (order : ByteOrder) (offset : ℕ) (bytes rest : List ℕ) (at : ℕ)
    (kind : InputKind) → length bytes < most → Walks order bytes packets rest → IsFaultOf kind (front_of order rest)
    → at ≡ offset + packets_length packets + within kind → packets_reading most order offset bytes ≡ Err (at, kind)
unfolding packets_reading
break_back packets zero order offset bytes rest at kind fewer w e place = absurd (no_less (length bytes) fewer)
break_back [] (suc most) order offset bytes rest at kind fewer w e place =
    ap (λ l. read_front offset (packets_reading most order) (front_of order l)) w
    ∙ front_back offset at kind (packets_reading most order) (front_of order rest) e (omega (arith, place))
break_back (p ∷ packets) (suc most) order offset bytes rest at kind fewer (more, e, w) ends place =
    ap (read_front offset (packets_reading most order)) e
    ∙ ap (with_packet p) (break_back packets most order (offset + (16 + length p.bytes)) more rest at kind
    (omega (arith, fewer, holds_less order bytes p more e)) w ends (omega (arith, place)))

pub read_back : (most : ℕ) (order : ByteOrder) (offset : ℕ) (bytes : List ℕ) (r : PcapOutcome) → length bytes < most
    → AreRead order offset bytes r → packets_reading most order offset bytes ≡ r
read_back most order offset bytes (Ok packets) fewer h = packets_back packets most order offset bytes fewer h
read_back most order offset bytes (Err fault) fewer h =
    break_back h.packets most order offset bytes h.rest fault.0 fault.1 fewer h.before h.ends h.place

-- ---- the size of a packet at the front

-- where a packet stands, its words and its captured bytes are there
abbrev Sized : ByteOrder → List ℕ → Front → Type 0
Sized order rest Stops = Unit {0}
Sized order rest (Holds p more) = 16 + captured_at order rest ≤ length rest
Sized order rest EndsWithin = Unit {0}
Sized order rest IsTooLong = Unit {0}

bytes_sized : (order : ByteOrder) (arrival : ℕ) (rest : List ℕ) → 16 ≤ length rest
    → Sized order rest (front_of_bytes arrival (captured_at order rest) (drop 16 rest))
unfolding front_of_bytes
bytes_sized order arrival rest long =
    let captured : ℕ = captured_at order rest in
    let p : Packet = record { arrival = arrival; bytes = take captured (drop 16 rest) } in
    cond_both (nat_lt (length (drop 16 rest)) captured) EndsWithin (Holds p (drop captured (drop 16 rest)))
    (Sized order rest) (λ _. tt)
    (λ there. omega (arith, long, ltb-false (length (drop 16 rest)) captured there, length-drop 16 rest))

packet_sized : (order : ByteOrder) (rest : List ℕ) → Sized order rest (front_of_packet order rest)
unfolding front_of_packet
packet_sized order rest =
    let whole : Front = front_of_bytes (arrival_at order rest) (captured_at order rest) (drop 16 rest) in
    let third : Front = if nat_lt (length rest) 16 then EndsWithin else whole in
    let second : Front = if nat_lt most_captured (captured_at order rest) then IsTooLong else third in
    cond_both (nat_lt (length rest) 12) EndsWithin second (Sized order rest) (λ _. tt)
    (λ _. cond_both (nat_lt most_captured (captured_at order rest)) IsTooLong third (Sized order rest) (λ _. tt)
    (λ _. cond_both (nat_lt (length rest) 16) EndsWithin whole (Sized order rest) (λ _. tt)
    (λ long. bytes_sized order (arrival_at order rest) rest (ltb-false (length rest) 16 long))))

pub holds_size : (order : ByteOrder) (rest : List ℕ) (p : Packet) (more : List ℕ) → front_of order rest ≡ Holds p more
    → 16 + captured_at order rest ≤ length rest
unfolding front_of
holds_size order [] p more e = absurd (stops_holds p more e)
  where
    stops_holds : (p : Packet) (more : List ℕ) → Stops ≡ Holds p more → ⊥
    stops_holds p more e = cc
holds_size order (b ∷ bs) p more e = subst (Sized order (b ∷ bs)) e (packet_sized order (b ∷ bs))
