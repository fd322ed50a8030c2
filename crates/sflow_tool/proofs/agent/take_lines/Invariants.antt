-- Some lines were read and taken, what they send was put, and no call has failed.
use Rattle.std.proofs.Common.{◌≡◌, ◌≤◌, None}
use Rattle.sflow_tool.proofs.AgentLines.{Reached}
use Rattle.sflow_tool.proofs.agent.take_lines.Given as goal

abbrev pub invariant-loop : goal.invariant-loop
invariant-loop g l = record {
  far : Reached (g.S.Source.seen l.initial.source) (g.S.Source.seen l.source)
      (record { sink = g.K.Sink.seen l.initial.sink; sink' = g.K.Sink.seen l.sink; page = l.initial.page; page' = l.page })
      l.reader l.run l.opened;
  going : l.reader.ended ≡ None;
  above : l.counter ≤ l.reader.place.count;
  few : l.reader.place.count ≤ 4294967295;
  kept : (g.S.Source.seen l.source).faults ≡ (g.S.Source.seen l.initial.source).faults;
}
