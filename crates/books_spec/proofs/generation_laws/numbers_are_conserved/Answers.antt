use Rattle.std.proofs.Common.{arith}
use Rattle.books_spec.specs.SourceViews.{source_stretches, place_in, placed_mark}
use Rattle.books_spec.proofs.GenerationViews.{stretches-issued, stretches-marks, samples-length, none-pending}
use Rattle.books_spec.proofs.generation_laws.numbers_are_conserved.Goals as goal

pub returns-clause-issued : goal.returns-clause-issued
returns-clause-issued c = λ flow width boots. stretches-issued flow width (source_stretches place_in placed_mark width boots)

pub returns-clause-samples : goal.returns-clause-samples
returns-clause-samples c = λ flow width boots.
    let marks = stretches-marks flow width (source_stretches place_in placed_mark width boots) in
    let all = samples-length place_in placed_mark width boots in
    omega (arith, marks, all)

pub returns-clause-closed : goal.returns-clause-closed
returns-clause-closed c = λ flow width closed. none-pending flow width closed
