use Rattle.std.proofs.Common.{◌<◌, ◌≤◌, List, length, sym, ap, ◌∙◌, arith}
use Rattle.books_spec.specs.Views.{plain_view, marks_in}
use Rattle.books_spec.specs.SourceViews.{PlacedReading, placed_mark}
use Rattle.source_ledger.specs.Generations.{all_generations}
use Rattle.source_ledger.proofs.GenerationCounts.{over-later, over-same}
use Rattle.source_ledger.proofs.generations.GenerationLedger.view.Goals as goal

pub returns-then-boot-self-clause-view : goal.returns-then-boot-self-clause-view
returns-then-boot-self-clause-view c = rw (← c.self.view_is) (λ boots number st.
    let later : c.self.inside.boot < length boots = omega (arith, number, c.if-boot-self.true) in
    c.closed_view.ensures.view (marks_in placed_mark (all_generations c.self.inside.marks.width boots)) st.marks_stand
    ∙ ap (λ (lists : List (List PlacedReading)). plain_view c.self.inside.marks.width (marks_in placed_mark lists))
    (sym (over-later c.self.inside.marks.width c.self.inside.boot boots later st.boot_is)))

pub returns-else-boot-self-clause-view : goal.returns-else-boot-self-clause-view
returns-else-boot-self-clause-view c = rw (← c.self.view_is) (λ boots number st.
    let last : length boots ≤ c.self.inside.boot = omega (arith, number, c.if-boot-self.false) in
    c.view.ensures.view (marks_in placed_mark (all_generations c.self.inside.marks.width boots)) st.marks_stand
    ∙ ap (λ (lists : List (List PlacedReading)). plain_view c.self.inside.marks.width (marks_in placed_mark lists))
    (sym (over-same c.self.inside.marks.width c.self.inside.boot boots last st.boot_is)))
