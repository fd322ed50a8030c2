use Rattle.std.proofs.Common.{Ok, Err}
use Rattle.capture_spec.proofs.PcapOutcomes.{outcome_back, shows_so}
use Rattle.capture_spec.proofs.pcap_laws.pcap_reading_is_the_file.Goals as goal

pub returns-clause-packets : goal.returns-clause-packets
returns-clause-packets c bytes packets = (shows_so bytes (Ok packets), outcome_back bytes (Ok packets))

pub returns-clause-fault : goal.returns-clause-fault
returns-clause-fault c bytes offset kind = (shows_so bytes (Err (offset, kind)), outcome_back bytes (Err (offset, kind)))
