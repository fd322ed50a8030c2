use Rattle.agent_sampler.proofs.Follows.{other-packet-counts, poll-counts, send-counts, other-reset-counts}
use Rattle.agent_sampler.proofs.laws.counts_stay_with_others.Goals as goal

pub returns-clause-packet : goal.returns-clause-packet
returns-clause-packet c = other-packet-counts

pub returns-clause-poll : goal.returns-clause-poll
returns-clause-poll c = poll-counts

pub returns-clause-send : goal.returns-clause-send
returns-clause-send c = send-counts

pub returns-clause-reset : goal.returns-clause-reset
returns-clause-reset c = other-reset-counts
