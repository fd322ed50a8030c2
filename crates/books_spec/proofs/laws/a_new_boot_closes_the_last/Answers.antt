use Rattle.std.proofs.Common.{◌∙◌}
use Rattle.books_spec.specs.Views.{closed_figures}
use Rattle.books_spec.proofs.Sums.{sum_of-none, closing-over}
use Rattle.books_spec.proofs.laws.a_new_boot_closes_the_last.Goals as goal

pub returns-clause-closes : goal.returns-clause-closes
returns-clause-closes c = λ width boots. sum_of-none (closed_figures width boots) ∙ closing-over width boots
