use Rattle.std.proofs.Common.{ap, ◌∙◌}
use Rattle.books_spec.specs.Books.{readings_view}
use Rattle.books_spec.specs.SourceViews.{place_in, placed_mark}
use Rattle.books_spec.specs.PlacedSamples.{placed_boots}
use Rattle.books_spec.proofs.NoResets.{whole-view, generations-count, none-stale}
use Rattle.books_spec.proofs.Placed.{view-of, boots-are}
use Rattle.books_spec.proofs.generation_laws.without_resets_boots_are_shown.Goals as goal

pub returns-clause-view : goal.returns-clause-view
returns-clause-view c = λ l items source h.
    whole-view source.id.flow l.sample_width (placed_boots l source items) h
    ∙ view-of source.id.flow l.sample_width (placed_boots l source items)
    ∙ ap (readings_view source.id.flow l.sample_width) (boots-are l source items)

pub returns-clause-generations : goal.returns-clause-generations
returns-clause-generations c = λ width boots h. generations-count place_in placed_mark width boots h

pub returns-clause-none_stale : goal.returns-clause-none_stale
returns-clause-none_stale c = λ width boots h. none-stale place_in placed_mark width boots h
