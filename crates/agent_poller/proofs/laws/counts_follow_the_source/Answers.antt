use Rattle.agent_poller.proofs.Follows.{reset-counts, other-reset-counts, packet-counts, send-counts}
use Rattle.agent_poller.proofs.laws.counts_follow_the_source.Goals as goal

pub returns-clause-reset : goal.returns-clause-reset
returns-clause-reset c = reset-counts

pub returns-clause-other_reset : goal.returns-clause-other_reset
returns-clause-other_reset c = other-reset-counts

pub returns-clause-packet : goal.returns-clause-packet
returns-clause-packet c = packet-counts

pub returns-clause-send : goal.returns-clause-send
returns-clause-send c = send-counts
