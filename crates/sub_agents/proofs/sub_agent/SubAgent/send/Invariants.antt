-- The datagrams of so many turns were put, while samples waited.
use Rattle.std.proofs.Common.{◌≡◌}
use Rattle.sub_agents.proofs.SendRuns.{IsSendRun}
use Rattle.sub_agents.proofs.sub_agent.SubAgent.send.Given as goal

abbrev pub invariant-loop-turn : goal.invariant-loop-turn
invariant-loop-turn g l = record {
  run : IsSendRun l.initial.self l.self (g.O.Outlet.taken l.initial.outlet) (g.O.Outlet.taken l.outlet) l.uptime l.turn l.count;
  kept : g.O.Outlet.faults l.outlet ≡ g.O.Outlet.faults l.initial.outlet;
}
