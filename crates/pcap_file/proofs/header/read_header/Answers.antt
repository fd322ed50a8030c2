use Rattle.std.proofs.Common.{◌≡◌, length, arith}
use Rattle.byte_ends.proofs.Unread.{stops_within}
use Rattle.pcap_file.proofs.Headers.{header_told}
use Rattle.pcap_file.proofs.header.read_header.Goals as goal

pub returns-clause-told : goal.returns-clause-told
returns-clause-told g c = λ bytes told.
    let room : length c.read_most.new.room ≡ 24 = omega arith in
    header_told _ _ _ _ _ room told c.in-Ok.ensures.reads _ c.header_of.ensures.says

pub returns-in_default-clause-stops : goal.returns-in_default-clause-stops
returns-in_default-clause-stops g c = λ failed.
    let room : length c.read_most.new.room ≡ 24 = omega arith in
    stops_within _ _ _ _ 24 c.in_default.ensures.reads c.in_default.ensures.none room
