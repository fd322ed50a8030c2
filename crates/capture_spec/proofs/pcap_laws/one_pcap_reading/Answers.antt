use Rattle.capture_spec.proofs.PcapOutcomes.{has_one_reading}
use Rattle.capture_spec.proofs.pcap_laws.one_pcap_reading.Goals as goal

pub returns : goal.returns
returns c = has_one_reading
