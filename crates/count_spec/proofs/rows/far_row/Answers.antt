use Rattle.std.proofs.Common.{pos, arith}
use Rattle.std.proofs.lemmas.Int.{ints}
use Rattle.count_spec.proofs.Gaps.{parts-two}
use Rattle.count_spec.proofs.rows.far_row.Goals as goal

pub returns : goal.returns
returns c = parts-two 64 (pos 0) (pos 2147483647) (omega (arith, ints)) (omega arith)
