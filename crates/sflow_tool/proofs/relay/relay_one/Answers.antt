use Rattle.sflow_tool.proofs.RelayRuns.{none_more}
use Rattle.sflow_tool.proofs.relay.relay_one.Goals as goal

pub returns-in-Ok-Some-clause-turn : goal.returns-in-Ok-Some-clause-turn
returns-in-Ok-Some-clause-turn g c =
    let turn = rw c.in-Ok-Some.field-0-is at c.in-Ok-Some.ensures.turn in
    record { first = _; takes = turn; serves = c.pass.ensures.serves }

pub returns-in-Ok-None-clause-turn : goal.returns-in-Ok-None-clause-turn
returns-in-Ok-None-clause-turn g c =
    let turn = rw c.in-Ok-None.field-0-is at c.in-Ok-None.ensures.turn in
    record { first = _; takes = turn; serves = λ before xs run. none_more _ _ _ _ before xs run }
