use Rattle.std.proofs.Common.{◌≡◌, List}
use Rattle.script_spec.specs.Lines.{Line}
use Rattle.made_runs.specs.declared.script.Phase.TheVariants.{Decide}
use Rattle.made_runs.specs.declared.script.Stage.TheVariants.{Going}
use Rattle.made_runs.specs.Scripts.{Told, nothing_due, sent_now}
use Rattle.made_runs.proofs.script.MadeScript.decided_line.Given as goal

abbrev pub invariant-loop-number : goal.invariant-loop-number
invariant-loop-number l = record {
  stage : l.self.stage ≡ Going Decide;
  none_due : l.self.due ≡ nothing_due;
  decided : l.self.decided ≡ l.number;
  seed : l.self.seed ≡ l.initial.self.seed;
  total : l.self.total ≡ l.initial.self.total;
  told : (lines : List Line) → Told Decide l.initial.self lines → l.fn.sent ≡ sent_now lines → Told Decide l.self lines;
}
