use Rattle.std.proofs.Common.{arith}
use Rattle.pcap_file.proofs.PacketFaults.{stops_at_head}
use Rattle.pcap_file.proofs.pcap_reader.read_within.Goals as goal

pub returns-else-count-lt-MOST_PACKETS-clause-stops : goal.returns-else-count-lt-MOST_PACKETS-clause-stops
returns-else-count-lt-MOST_PACKETS-clause-stops g c = λ failed.
    stops_at_head c.args.order _ _ 1 (c.read_end.ensures.stops failed) (omega arith)
