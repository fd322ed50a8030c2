use Rattle.std.proofs.Common.{◌∷◌, ◌++◌, sym, ap, ◌∙◌}
use Rattle.std.specs.Prelude.{◌&&◌, nat_lt}
use Rattle.books_spec.specs.declared.sample_place.SamplePlace.{SamplePlace}
use Rattle.books_spec.specs.Views.{marks_in}
use Rattle.books_spec.specs.Generations.{is_before, does_not_rise}
use Rattle.books_spec.specs.SourceViews.{place_in, placed_mark}
use Rattle.source_ledger.specs.Numbers.{NumbersState}
use Rattle.source_ledger.proofs.NumberSteps.{place-is}
use Rattle.source_ledger.proofs.generations.GenerationLedger.place.Goals as goal

pub returns : goal.returns
returns c = λ x o more closed earlier is_at is_mark sc st.
    let s : NumbersState = c.args.self.now in
    c.place_by.ensures
    ∙ place-is s.marks.width s x o more closed c.opens.result c.is_past.result sc
    (c.opens.ensures (o ∷ more) (marks_in placed_mark (closed ++ earlier)) st
    ∙ (λ i. is_before s.newest (sym is_at i) && does_not_rise place_in placed_mark s.marks.width (o ∷ more) (sym is_mark i)))
    (c.is_past.ensures ∙ ap (λ (q : SamplePlace). nat_lt 1 s.in_boot && is_before q s.opened) (sym is_at))
