use Rattle.std.proofs.Common.{arith}
use Rattle.books_spec.proofs.Sums.{closed-pending}
use Rattle.books_spec.proofs.laws.only_the_current_boot_has_pending.Goals as goal

pub returns : goal.returns
returns c = λ width current closed. let none = closed-pending width closed in omega (arith, none)
