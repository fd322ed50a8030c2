use Rattle.std.proofs.Common.{◌≡◌, ◌+◌, ◌-◌, length, arith}
use Rattle.script_tables.proofs.FindSubs.{last_row, no_rows}
use Rattle.script_tables.proofs.rows.SubRow.newest_time.Goals as goal

pub returns-then-count-gt0 : goal.returns-then-count-gt0
returns-then-count-gt0 c =
    let long : length c.args.self.now.boots.items ≡ c.len-count.result - 1 + 1 = omega (arith, c.len-count.ensures, c.if-count-gt0.true) in
    last_row c.args.self.now.boots.items (c.len-count.result - 1) c.index.result.now c.index.result.now long c.index.ensures

pub returns-else-count-gt0 : goal.returns-else-count-gt0
returns-else-count-gt0 c = no_rows c.args.self.now.boots.items (omega (arith, c.len-count.ensures, c.if-count-gt0.false))
