-- What the sub-agents so far did is counted.
use Rattle.std.proofs.Common.{◌<◌, List, length}
use Rattle.script_spec.specs.Lines.{Line}
use Rattle.script_laws.specs.Lawful.{AreLawful}
use Rattle.sflow_tool.specs.Trues.{TrueOf}
use Rattle.sflow_tool.proofs.TrueTotals.{AreCounted}
use Rattle.sflow_tool.proofs.trues.Trues.totals.Given as goal

abbrev pub invariant-loop-sub : goal.invariant-loop-sub
invariant-loop-sub l =
    (lines : List Line) → AreLawful lines → length lines < 4294967296 → TrueOf l.self lines
    → AreCounted l.totals lines l.sub-index
