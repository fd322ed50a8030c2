-- The sources of the sub-agents so far are counted.
use Rattle.std.proofs.Common.{◌≡◌, ◌++◌, List, length, map, take}
use Rattle.account_spec.specs.Histories.{counter_sources, flow_sources}
use Rattle.script_spec.specs.Lines.{Line}
use Rattle.sub_agents.specs.SubAgents.{BootSoFar}
use Rattle.sflow_tool.specs.ScriptBoots.{boots_now}
use Rattle.sflow_tool.specs.Trues.{TrueOf}
use Rattle.sflow_tool.proofs.trues.Trues.source_counts.Given as goal

abbrev pub invariant-loop-sub : goal.invariant-loop-sub
invariant-loop-sub l =
    (lines : List Line) → TrueOf l.self lines
    → l.counts.items ≡ map (λ (b : BootSoFar). length (flow_sources b.setup ++ counter_sources b.setup))
    (take l.sub-index (boots_now lines))
