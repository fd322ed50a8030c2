use Rattle.std.proofs.Common.{arith}
use Rattle.byte_ends.proofs.Filled.{behind_held}
use Rattle.byte_ends.proofs.Unread.{stops_within}
use Rattle.pcap_file.proofs.packet_reader.read_end.Goals as goal

pub returns-in-Ok-eq0-clause-at_end : goal.returns-in-Ok-eq0-clause-at_end
returns-in-Ok-eq0-clause-at_end g c =
    let reads = rw c.in-Ok-eq0.field-0-is at c.in-Ok-eq0.ensures.reads in
    behind_held _ _ (reads.all (omega arith))

pub returns-in-Err-clause-stops : goal.returns-in-Err-clause-stops
returns-in-Err-clause-stops g c = λ failed.
    stops_within _ _ _ _ 1 c.in-Err.ensures.reads c.in-Err.ensures.none (omega arith)
