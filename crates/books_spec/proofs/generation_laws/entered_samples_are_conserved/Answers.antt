use Rattle.std.proofs.Common.{◌∙◌}
use Rattle.books_spec.specs.SourceViews.{place_in, placed_mark}
use Rattle.books_spec.specs.PlacedSamples.{placed_boots}
use Rattle.books_spec.proofs.GenerationViews.{samples-length}
use Rattle.books_spec.proofs.Placed.{entered-are}
use Rattle.books_spec.proofs.generation_laws.entered_samples_are_conserved.Goals as goal

pub returns : goal.returns
returns c = λ l items source there.
    samples-length place_in placed_mark l.sample_width (placed_boots l source items) ∙ entered-are l source items there
