-- The reading of a pcap file is its outcome, and there is one.
use Rattle.std.proofs.Common.{◌≡◌, ◌≢◌, ℕ, suc, ◌+◌, ◌<◌, true, false, inl, inr, if◌then◌else◌, List, length, drop, Ok, Err, bytes_eq, refl, sym, ap, subst, ◌∙◌, arith, length-drop}
use Rattle.std.proofs.lemmas.Bool.{cond_both, cond-true, cond-false, false_from_ne_true, both_ways}
use Rattle.std.proofs.lemmas.Slice.Eq.{bytes_eq-Decides}
use Rattle.capture_spec.specs.declared.byte_order.ByteOrder.{ByteOrder}
use Rattle.capture_spec.specs.declared.byte_order.ByteOrder.TheVariants.{HighFirst, LowFirst}
use Rattle.wire_spec.specs.declared.input_kind.InputKind.{InputKind}
use Rattle.wire_spec.specs.declared.input_kind.InputKind.TheVariants.{Magic, Version, Link, Long, Cut}
use Rattle.capture_spec.specs.PcapFiles.{Packet, PcapFault, HasHeader, HasOneReading, four_at, magic, version, ethernet, packets_length}
use Rattle.capture_spec.specs.PcapReading.{PcapOutcome, IsPcapOutcome, packets_reading, reading_in, pcap_reading}
use Rattle.capture_spec.proofs.PacketWalks.{AreRead, PacketsBreak, packets_show, read_back}

-- ---- tests of four bytes

same : (xs ys : List ℕ) → bytes_eq xs ys ≡ true → xs ≡ ys
same xs ys e = (bytes_eq-Decides xs ys).0 e

other : (xs ys : List ℕ) → bytes_eq xs ys ≡ false → xs ≢ ys
other xs ys e is = both_ways _ e ((bytes_eq-Decides xs ys).1 is)

is_same : (xs ys : List ℕ) → xs ≡ ys → bytes_eq xs ys ≡ true
is_same xs ys e = (bytes_eq-Decides xs ys).1 e

is_other : (xs ys : List ℕ) → xs ≢ ys → bytes_eq xs ys ≡ false
is_other xs ys e = false_from_ne_true _ (λ t. e (same xs ys t))

-- ---- what is read is so

fault_behind : (order : ByteOrder) (bytes : List ℕ) (at : ℕ) (kind : InputKind) → HasHeader order bytes
    → PacketsBreak order 24 (drop 24 bytes) at kind → PcapFault bytes at kind
fault_behind order bytes at Cut header h = record {
  order = order;
  header = header;
  packets = h.packets;
  rest = h.rest;
  before = h.before;
  front_is = h.ends;
  place = omega (arith, h.place);
}
fault_behind order bytes at Long header h = (
  24 + packets_length h.packets,
  h.place,
  record {
    order = order;
    header = header;
    packets = h.packets;
    rest = h.rest;
    before = h.before;
    front_is = h.ends;
    place = refl;
  },
)
fault_behind order bytes at _ header h = absurd h.ends

outcome_behind : (order : ByteOrder) (bytes : List ℕ) (r : PcapOutcome) → HasHeader order bytes
    → AreRead order 24 (drop 24 bytes) r → IsPcapOutcome bytes r
outcome_behind order bytes (Ok packets) header h = record { order = order; header = header; packets_are = h }
outcome_behind order bytes (Err fault) header h = fault_behind order bytes fault.0 fault.1 header h

-- fewer bytes stand behind the header than in all and one more
fewer : (bytes : List ℕ) → length (drop 24 bytes) < suc (length bytes)
fewer bytes = omega (arith, length-drop 24 bytes)

shows_in : (order : ByteOrder) (bytes : List ℕ) → four_at 0 bytes ≡ magic order
    → IsPcapOutcome bytes (reading_in order bytes)
unfolding reading_in
shows_in order bytes is_magic =
    let read : PcapOutcome = packets_reading (suc (length bytes)) order 24 (drop 24 bytes) in
    let linked : PcapOutcome = if bytes_eq (four_at 20 bytes) (ethernet order) then read else Err (20, Link) in
    cond_both (bytes_eq (four_at 4 bytes) (version order)) linked (Err (4, Version)) (IsPcapOutcome bytes)
    (λ v. cond_both (bytes_eq (four_at 20 bytes) (ethernet order)) read (Err (20, Link)) (IsPcapOutcome bytes)
    (λ l. outcome_behind order bytes read
    (record { magic_is = is_magic; version_is = same _ _ v; link_is = same _ _ l })
    (packets_show (suc (length bytes)) order 24 (drop 24 bytes) (fewer bytes)))
    (λ l. (refl, order, (is_magic, same _ _ v, other _ _ l))))
    (λ v. (refl, order, (is_magic, other _ _ v)))

pub outcome_shows : (bytes : List ℕ) → IsPcapOutcome bytes (pcap_reading bytes)
unfolding pcap_reading
outcome_shows bytes =
    let low : PcapOutcome =
    if bytes_eq (four_at 0 bytes) (magic LowFirst) then reading_in LowFirst bytes else Err (0, Magic) in
    cond_both (bytes_eq (four_at 0 bytes) (magic HighFirst)) (reading_in HighFirst bytes) low (IsPcapOutcome bytes)
    (λ h. shows_in HighFirst bytes (same _ _ h))
    (λ h. cond_both (bytes_eq (four_at 0 bytes) (magic LowFirst)) (reading_in LowFirst bytes) (Err (0, Magic))
    (IsPcapOutcome bytes)
    (λ l. shows_in LowFirst bytes (same _ _ l))
    (λ l. (refl, other _ _ h, other _ _ l)))

-- ---- what is so is read

read_in : (order : ByteOrder) (bytes : List ℕ) → four_at 0 bytes ≡ magic order
    → pcap_reading bytes ≡ reading_in order bytes
unfolding pcap_reading
read_in HighFirst bytes e = cond-true _ _ _ (is_same (four_at 0 bytes) (magic HighFirst) e)
read_in LowFirst bytes e =
    let not_high : bytes_eq (four_at 0 bytes) (magic HighFirst) ≡ false = ap (λ l. bytes_eq l (magic HighFirst)) e in
    cond-false _ _ _ not_high ∙ cond-true _ _ _ (is_same (four_at 0 bytes) (magic LowFirst) e)

read_behind : (order : ByteOrder) (bytes : List ℕ) (r : PcapOutcome) → HasHeader order bytes
    → AreRead order 24 (drop 24 bytes) r → pcap_reading bytes ≡ r
unfolding reading_in
read_behind order bytes r header h =
    read_in order bytes header.magic_is
    ∙ cond-true _ _ _ (is_same (four_at 4 bytes) (version order) header.version_is)
    ∙ cond-true _ _ _ (is_same (four_at 20 bytes) (ethernet order) header.link_is)
    ∙ read_back (suc (length bytes)) order 24 (drop 24 bytes) r (fewer bytes) h

fault_back : (bytes : List ℕ) (at : ℕ) (kind : InputKind) → PcapFault bytes at kind → pcap_reading bytes ≡ Err (at, kind)
unfolding pcap_reading reading_in
fault_back bytes at Magic (is, high, low) =
    cond-false _ _ _ (is_other (four_at 0 bytes) (magic HighFirst) high)
    ∙ cond-false _ _ _ (is_other (four_at 0 bytes) (magic LowFirst) low) ∙ ap (λ k. Err (k, Magic)) (sym is)
fault_back bytes at Version (is, order, (m, none)) =
    read_in order bytes m ∙ cond-false _ _ _ (is_other (four_at 4 bytes) (version order) none)
    ∙ ap (λ k. Err (k, Version)) (sym is)
fault_back bytes at Link (is, order, (m, v, none)) =
    read_in order bytes m ∙ cond-true _ _ _ (is_same (four_at 4 bytes) (version order) v)
    ∙ cond-false _ _ _ (is_other (four_at 20 bytes) (ethernet order) none) ∙ ap (λ k. Err (k, Link)) (sym is)
fault_back bytes at Cut h =
    read_behind h.order bytes (Err (at, Cut)) h.header (record {
      packets = h.packets;
      rest = h.rest;
      before = h.before;
      ends = h.front_is;
      place = omega (arith, h.place);
    })
fault_back bytes at Long (packet, place, h) =
    read_behind h.order bytes (Err (at, Long)) h.header (record {
      packets = h.packets;
      rest = h.rest;
      before = h.before;
      ends = h.front_is;
      place = omega (arith, place, h.place);
    })
fault_back bytes at _ h = absurd h

pub outcome_back : (bytes : List ℕ) (r : PcapOutcome) → IsPcapOutcome bytes r → pcap_reading bytes ≡ r
outcome_back bytes (Ok packets) h = read_behind h.order bytes (Ok packets) h.header h.packets_are
outcome_back bytes (Err fault) h = fault_back bytes fault.0 fault.1 h

-- ---- the laws

apart : (packets : List Packet) (fault : ℕ × InputKind) (r : PcapOutcome) → r ≡ Ok packets → r ≡ Err fault → ⊥
apart packets fault r x y = cc

one_file : (xs ys : List Packet) (r : PcapOutcome) → r ≡ Ok xs → r ≡ Ok ys → ys ≡ xs
one_file xs ys r x y = cc

one_fault : (x y : ℕ × InputKind) (r : PcapOutcome) → r ≡ Err x → r ≡ Err y → y ≡ x
one_fault x y r p q = cc

one_outcome : (bytes : List ℕ) (r : PcapOutcome) → pcap_reading bytes ≡ r → IsPcapOutcome bytes r → HasOneReading bytes
one_outcome bytes (Ok packets) e h =
    inl (
      (packets, h, λ others p. one_file packets others _ e (outcome_back bytes (Ok others) p)),
      λ fault p. apart packets fault _ e (outcome_back bytes (Err fault) p),
    )
one_outcome bytes (Err fault) e h =
    inr (
      (fault, h, λ another p. one_fault fault another _ e (outcome_back bytes (Err another) p)),
      λ packets p. apart packets fault _ (outcome_back bytes (Ok packets) p) e,
    )

pub has_one_reading : (bytes : List ℕ) → HasOneReading bytes
has_one_reading bytes = one_outcome bytes (pcap_reading bytes) refl (outcome_shows bytes)

-- a reading that gave this says so
pub shows_so : (bytes : List ℕ) (r : PcapOutcome) → pcap_reading bytes ≡ r → IsPcapOutcome bytes r
shows_so bytes r e = subst (IsPcapOutcome bytes) e (outcome_shows bytes)
