use Rattle.as_paths.proofs.OnePath.{one_path}
use Rattle.as_paths.proofs.laws.one_path_or_one_fault.Goals as goal

pub returns : goal.returns
returns c = one_path
