use Rattle.agent_sampler.proofs.Follows.{own-packet-counts, reset-counts}
use Rattle.agent_sampler.proofs.laws.counts_follow_the_source.Goals as goal

pub returns-clause-packet : goal.returns-clause-packet
returns-clause-packet c = own-packet-counts

pub returns-clause-reset : goal.returns-clause-reset
returns-clause-reset c = reset-counts
