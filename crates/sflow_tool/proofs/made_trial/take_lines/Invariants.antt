-- Some lines were made and tried, at least one in each turn.
use Rattle.std.proofs.Common.{◌≡◌, ◌≤◌, ◌+◌, length}
use Rattle.std.specs.Prelude.{vec_len}
use Rattle.sflow_tool.specs.Replays.{Collects}
use Rattle.sflow_tool.specs.Trials.{TrialStands, received_in}
use Rattle.sflow_tool.proofs.MadeWalk.{Making}
use Rattle.sflow_tool.proofs.made_trial.take_lines.Given as goal

abbrev pub invariant-loop : goal.invariant-loop
invariant-loop g l = record {
  far : Making (λ lines. TrialStands l.run lines × Collects
      (λ x b y. (v : _) × (y ≡ record x { value = v }) × (goal.Tap-dyn g (x.vtable, x.value)).step x.value b v)
      (λ x. (goal.Tap-dyn g (x.vtable, x.value)).ended x.value)
      l.initial.collector.books.limits l.collector l.initial.taps.held.items l.taps.held.items
      (l.initial.taps.ended + vec_len l.initial.taps.held) (l.taps.ended + vec_len l.taps.held) (received_in lines)
      × (l.counter ≤ length lines))
      l.initial.script.seed l.initial.script.total l.script;
  limits : l.run.limits ≡ l.initial.run.limits;
  few : l.taps.ended + vec_len l.taps.held ≡ l.initial.taps.ended + vec_len l.initial.taps.held;
}
