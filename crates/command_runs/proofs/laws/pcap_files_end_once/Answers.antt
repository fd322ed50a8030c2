use Rattle.command_runs.proofs.PcapEndings.{pcap_files_once}
use Rattle.command_runs.proofs.laws.pcap_files_end_once.Goals as goal

pub returns : goal.returns
returns c = pcap_files_once
