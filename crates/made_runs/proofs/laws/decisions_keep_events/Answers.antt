use Rattle.made_runs.proofs.Kept.{keeps-decided, keeps-released}
use Rattle.made_runs.proofs.laws.decisions_keep_events.Goals as goal

pub returns : goal.returns
returns c = record { decided = keeps-decided; released = keeps-released }
