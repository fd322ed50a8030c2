use Rattle.std.proofs.Common.{ap, List, ℕ}
use Rattle.script_spec.specs.Lines.{FlowLine}
use Rattle.trial_spec.specs.Made.{made_flow}
use Rattle.made_runs.proofs.script.flow_line.Goals as goal

pub returns : goal.returns
returns c = ap (λ (skips : List ℕ). FlowLine 1 (record (made_flow c.args.seed) { skips = skips })) c.in_ok-skips.ensures
