-- What left a source before a read of it failed.
use Rattle.std.proofs.Common.{◌≡◌, ℕ, ◌<◌, ◌≤◌, List, ◌++◌, length, take, Option, sym, ap, subst, ◌∙◌, arith, length-append, take_all, take_at}
use Rattle.std.proofs.KnownBytes.{Consumes-trans}
use Rattle.std.specs.Io.KnownBytes.{Consumes}
use Rattle.capture_spec.specs.declared.byte_order.ByteOrder.{ByteOrder}
use Rattle.capture_spec.specs.PcapFiles.{word_of, captured_at, four_at}
use Rattle.capture_spec.proofs.PacketWalks.{holds_size}
use Rattle.byte_ends.specs.Seen.{Seen, Fills}
use Rattle.byte_ends.specs.Unread.{StopsWithin}
use Rattle.pcap_file.specs.PcapFaults.{HasNoPacket, StopsInPacket}
use Rattle.pcap_file.proofs.PacketFronts.{four_of_front}

no_packet_short : (order : ByteOrder) (part : List ℕ) → length part < 16 → HasNoPacket order part
no_packet_short order part short p more e = omega (arith, short, holds_size order part p more e)

-- fewer than sixteen bytes were moved
pub stops_at_head : (order : ByteOrder) (old new : Option (List ℕ)) (most : ℕ) → StopsWithin old new most → most ≤ 16
    → StopsInPacket order old new
stops_at_head order old new most s fits =
    record { part = s.part; moved = s.moved; none = no_packet_short order s.part (omega (arith, s.few, fits)) }

no_packet_cut : (order : ByteOrder) (head part : List ℕ) (len : ℕ) → length head ≡ 16 → len ≡ captured_at order head
    → length part < len → HasNoPacket order (head ++ part)
no_packet_cut order head part len long len_is short p more e =
    let front : take 16 (head ++ part) ≡ head = take_at head part 16 long in
    let word : four_at 8 head ≡ four_at 8 (head ++ part) =
    ap (four_at 8) (sym front) ∙ four_of_front 8 16 (head ++ part) (omega arith) in
    let is : len ≡ captured_at order (head ++ part) = len_is ∙ ap (word_of order) word in
    omega (arith, short, is, long, holds_size order (head ++ part) p more e, length-append head part)

-- the four words were moved, and fewer bytes behind them than they say
pub stops_in_packet : (order : ByteOrder) (old mid : Seen) (new : Option (List ℕ)) (count len : ℕ) (head : List ℕ)
    → Fills old mid count head → length head ≡ 16 → 16 ≤ count → len ≡ captured_at order head
    → StopsWithin mid.told new len → StopsInPacket order old.told new
stops_in_packet order old mid new count len head f long full len_is s =
    let whole : take count head ≡ head = take_all count head (omega (arith, long, full)) in
    record {
      part = head ++ s.part;
      moved = Consumes-trans old.told mid.told new head s.part
          (subst (Consumes old.told mid.told) whole f.given.consumed) s.moved;
      none = no_packet_cut order head s.part len long len_is s.few;
    }
