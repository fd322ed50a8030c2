use Rattle.count_spec.proofs.Restarts.{newest_boot_mark-step}
use Rattle.count_spec.proofs.laws.newest_boot_mark_moves.Goals as goal

pub returns : goal.returns
returns g c = λ stamp width item before. newest_boot_mark-step stamp width item before
