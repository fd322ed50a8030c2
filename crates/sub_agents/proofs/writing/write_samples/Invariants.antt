-- The samples so far are written.
use Rattle.sub_agents.specs.Staged.{staged_value}
use Rattle.sub_agents.proofs.Appends.{IsWriting}
use Rattle.sub_agents.proofs.writing.write_samples.Given as goal

abbrev pub invariant-loop-place : goal.invariant-loop-place
invariant-loop-place l = IsWriting (staged_value l.form) l.initial.writer l.writer l.stage.items l.place
