use Rattle.count_spec.specs.declared.entered.Place.TheVariants.{Only, Newest, Inside, Least}
use Rattle.count_spec.proofs.Counted.{first-new, first-place}
use Rattle.count_spec.proofs.laws.places_are_exact.Goals as goal

pub returns-clause-new : goal.returns-clause-new
returns-clause-new c = λ width set mark p n e. first-new width set mark p n e

pub returns-clause-only : goal.returns-clause-only
returns-clause-only c = λ width set mark n e. first-place width set mark Only n e

pub returns-clause-newest : goal.returns-clause-newest
returns-clause-newest c = λ width set mark n e. first-place width set mark Newest n e

pub returns-clause-inside : goal.returns-clause-inside
returns-clause-inside c = λ width set mark n e. first-place width set mark Inside n e

pub returns-clause-least : goal.returns-clause-least
returns-clause-least c = λ width set mark n e. first-place width set mark Least n e
