use Rattle.std.proofs.Common.{◌∙◌, sym}
use Rattle.script_tables.proofs.FindSubs.{act_follows, found_acts, found_stands, row_at}
use Rattle.script_tables.proofs.tables.ScriptTables.find_sub.Goals as goal

pub returns-in-Some-clause-acts : goal.returns-in-Some-clause-acts
returns-in-Some-clause-acts c = λ lines line tells act.
    found_acts c.args.self.now lines c.args.id c.in-Some.place c.newest_time.result line
    (row_at c.args.self.now.subs c.in-Some.place c.args.id c.newest_time.result c.in-Some.ensures.within c.in-Some.ensures.here
    c.newest_time.ensures) tells act

pub returns-in-Some-clause-stands : goal.returns-in-Some-clause-stands
returns-in-Some-clause-stands c = λ lines tells.
    found_stands c.args.self.now lines c.args.id c.in-Some.place c.newest_time.result
    (row_at c.args.self.now.subs c.in-Some.place c.args.id c.newest_time.result c.in-Some.ensures.within c.in-Some.ensures.here
    c.newest_time.ensures) tells

pub returns-in-None-clause-acts : goal.returns-in-None-clause-acts
returns-in-None-clause-acts c = λ lines line tells act.
    sym c.in-None.ensures.none ∙ act_follows c.args.self.now lines tells c.args.id line act
