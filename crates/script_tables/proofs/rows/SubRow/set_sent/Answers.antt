use Rattle.std.proofs.Common.{◌≡◌, ℕ, ◌+◌, ◌-◌, List, length, ap, arith}
use Rattle.script_tables.specs.Tables.{BootCount, SubCount}
use Rattle.script_tables.proofs.SetRows.{last_at}
use Rattle.script_tables.proofs.rows.SubRow.set_sent.Goals as goal

abbrev of_boots : ℕ → List BootCount → SubCount
of_boots id boots = record { id = id; boots = boots }

pub returns-then-count-gt0 : goal.returns-then-count-gt0
returns-then-count-gt0 c =
    let long : length c.args.self.now.boots.items ≡ c.len-count.result - 1 + 1 = omega (arith, c.len-count.ensures, c.if-count-gt0.true) in
    let id = c.args.self.now.id in
    ap (of_boots id)
    (last_at c.args.sent c.args.self.now.boots.items (c.len-count.result - 1) c.index_mut.result.now _ long c.index_mut.ensures.value)
