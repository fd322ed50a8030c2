use Rattle.flow_collector.proofs.Few.{entry-few, briefs-few, classes-exact}
use Rattle.flow_collector.proofs.laws.headers_are_few.Goals as goal

pub returns : goal.returns
returns c = record { entry = entry-few; run = briefs-few; exact = classes-exact }
