use Rattle.std.proofs.Common.{arith}
use Rattle.sflow_tool.proofs.Turns.{got_turn, quiet_turn, told_first, told_none}
use Rattle.sflow_tool.proofs.collect.receive_one.Goals as goal

pub returns-in-Some-clause-turn : goal.returns-in-Some-clause-turn
returns-in-Some-clause-turn g c =
    let gives = rw c.in-Ok-Got.field-0-is at c.in-Ok-Got.ensures.gives in
    got_turn _ _ _ _ _ _ _ _ (g.L.Link.seen c.args.link.now).told (g.L.Link.seen c.args.link.now).faults _ _ _
    (omega (arith, c.requires.room)) gives c.take_entry.ensures.gathers c.take_entry.ensures.ended _ _
    c.take_entry.ensures.first (told_first _ _ _ c.in-Some.is)

pub returns-in-None-clause-turn : goal.returns-in-None-clause-turn
returns-in-None-clause-turn g c =
    let gives = rw c.in-Ok-Got.field-0-is at c.in-Ok-Got.ensures.gives in
    got_turn _ _ _ _ _ _ _ _ (g.L.Link.seen c.args.link.now).told (g.L.Link.seen c.args.link.now).faults _ _ _
    (omega (arith, c.requires.room)) gives c.take_entry.ensures.gathers c.take_entry.ensures.ended _ _
    c.take_entry.ensures.first (told_none _ _ c.in-None.is)

pub returns-in-Ok-Quiet-clause-turn : goal.returns-in-Ok-Quiet-clause-turn
returns-in-Ok-Quiet-clause-turn g c =
    let gives = rw c.in-Ok-Quiet.field-0-is at c.in-Ok-Quiet.ensures.gives in
    quiet_turn _ _ _ _ _ (g.L.Link.seen c.args.link.now).told (g.L.Link.seen c.args.link.now).faults _ gives
