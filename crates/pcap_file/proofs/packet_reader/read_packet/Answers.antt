use Rattle.std.proofs.Common.{◌≡◌, ◌<◌, length, refl, arith}
use Rattle.byte_ends.proofs.Filled.{behind_held}
use Rattle.pcap_file.proofs.PacketFronts.{head_stops, head_cut, head_long, head_cut_behind, head_goes_on}
use Rattle.byte_ends.proofs.Unread.{stops_within}
use Rattle.pcap_file.proofs.PacketFaults.{stops_at_head, stops_in_packet}
use Rattle.pcap_file.proofs.packet_reader.read_packet.Goals as goal

pub returns-then-count-eq0-clause-told : goal.returns-then-count-eq0-clause-told
returns-then-count-eq0-clause-told g c = λ bytes told.
    let room : length c.read_most.new.room ≡ 16 = omega arith in
    head_stops _ _ _ _ _ _ room told c.in-Ok.ensures.reads c.if-count-eq0.true

pub returns-then-count-eq0-clause-at_end : goal.returns-then-count-eq0-clause-at_end
returns-then-count-eq0-clause-at_end g c =
    behind_held _ _ (c.in-Ok.ensures.reads.all (omega arith))

pub returns-then-count-lt12-clause-told : goal.returns-then-count-lt12-clause-told
returns-then-count-lt12-clause-told g c = λ bytes told.
    let room : length c.read_most.new.room ≡ 16 = omega arith in
    let some : 0 < c.in-Ok.count = omega arith in
    (head_cut _ _ _ _ _ _ room told c.in-Ok.ensures.reads some c.if-count-lt12.true, refl)

pub returns-then-captured-gt-MOST-clause-told : goal.returns-then-captured-gt-MOST-clause-told
returns-then-captured-gt-MOST-clause-told g c = λ bytes told.
    let room : length c.read_most.new.room ≡ 16 = omega arith in (
      head_long c.args.order c.in-Ok.count bytes _ _ _ room told c.in-Ok.ensures.reads _ c.if-count-lt12.false
          c.captured_in-captured.ensures c.if-captured-gt-MOST.true,
      refl,
    )

pub returns-then-count-lt16-clause-told : goal.returns-then-count-lt16-clause-told
returns-then-count-lt16-clause-told g c = λ bytes told.
    let room : length c.read_most.new.room ≡ 16 = omega arith in (
      head_cut_behind c.args.order c.in-Ok.count bytes _ _ _ room told c.in-Ok.ensures.reads _ c.if-count-lt12.false
          c.captured_in-captured.ensures c.if-captured-gt-MOST.false c.if-count-lt16.true,
      refl,
    )

pub returns-clause-told : goal.returns-clause-told
returns-clause-told g c = λ bytes told.
    let room : length c.read_most.new.room ≡ 16 = omega arith in
    let h =
    head_goes_on c.args.order c.in-Ok.count bytes _ _ _ room told c.in-Ok.ensures.reads _ _ c.if-count-lt16.false
    c.arrival_in-at.ensures c.captured_in-captured.ensures c.if-captured-gt-MOST.false in
    rw h.0 (c.read_bytes.ensures.told _ h.1)

pub returns-in_default-clause-stops : goal.returns-in_default-clause-stops
returns-in_default-clause-stops g c = λ failed.
    let room : length c.read_most.new.room ≡ 16 = omega arith in
    let stops = stops_within _ _ _ _ 16 c.in_default.ensures.reads c.in_default.ensures.none room in
    stops_at_head c.args.order _ _ 16 stops (omega arith)

pub returns-clause-stops : goal.returns-clause-stops
returns-clause-stops g c = λ failed.
    let room : length c.read_most.new.room ≡ 16 = omega arith in
    stops_in_packet c.args.order _ _ _ _ _ _ c.in-Ok.ensures.reads room c.if-count-lt16.false
    c.captured_in-captured.ensures (c.read_bytes.ensures.stops failed)
