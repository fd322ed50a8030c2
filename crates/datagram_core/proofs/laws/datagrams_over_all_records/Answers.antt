use Rattle.std.proofs.Common.{refl}
use Rattle.datagram_core.specs.Tables.{flow_records_read, counter_records_read, samples_read}
use Rattle.datagram_core.proofs.laws.datagrams_over_all_records.Goals as goal

pub returns-clause-flows : goal.returns-clause-flows
unfolding flow_records_read
returns-clause-flows c = refl

pub returns-clause-counters : goal.returns-clause-counters
unfolding counter_records_read
returns-clause-counters c = refl

pub returns-clause-samples : goal.returns-clause-samples
unfolding samples_read flow_records_read counter_records_read
returns-clause-samples c = refl

pub returns-clause-datagrams : goal.returns-clause-datagrams
unfolding samples_read flow_records_read counter_records_read
returns-clause-datagrams c = refl
