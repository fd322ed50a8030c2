use Rattle.flow_collector.proofs.Gathering.{briefs-more, classes-more}
use Rattle.flow_collector.proofs.laws.briefs_come_in_turn.Goals as goal

pub returns : goal.returns
returns c = record { briefs = briefs-more; classes = classes-more }
