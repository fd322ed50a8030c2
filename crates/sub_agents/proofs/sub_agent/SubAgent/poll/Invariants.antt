-- The sources before this place were polled, while there were places.
use Rattle.std.proofs.Common.{◌≤◌}
use Rattle.sub_agents.proofs.PollRuns.{IsPolling}
use Rattle.sub_agents.proofs.sub_agent.SubAgent.poll.Given as goal

abbrev pub invariant-loop-place : goal.invariant-loop-place
invariant-loop-place g l = record {
  polling : IsPolling g.M.Meter.gives g.M.Meter.faults l.initial.self l.self l.uptime l.place l.count l.initial.meter l.meter;
  within : l.count ≤ l.place;
  few : l.count ≤ l.places;
}
