use Rattle.as_paths.proofs.Paths.{counted_segments}
use Rattle.as_paths.proofs.path.AsPath.read.Goals as goal

pub returns-clause-exact : goal.returns-clause-exact
returns-clause-exact c = counted_segments c.args.cursor.now _ c.take_counted.result c.take_counted.ensures
