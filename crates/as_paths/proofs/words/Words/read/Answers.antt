use Rattle.as_paths.proofs.WordRuns.{counted_numbers}
use Rattle.as_paths.proofs.words.Words.read.Goals as goal

pub returns-clause-exact : goal.returns-clause-exact
returns-clause-exact c = counted_numbers c.args.cursor.now _ c.take_counted.result c.take_counted.ensures
