use Rattle.relay_out.proofs.Misses.{rose, took_all, number}
use Rattle.relay_out.proofs.laws.receivers_miss_only_by_their_own_faults.Goals as goal

pub returns-clause-all : goal.returns-clause-all
returns-clause-all c = took_all

pub returns-clause-stopped : goal.returns-clause-stopped
returns-clause-stopped c = rose

pub returns-clause-number : goal.returns-clause-number
returns-clause-number c = number
