use Rattle.std.proofs.Common.{refl, sym, ◌∙◌}
use Rattle.books_spec.specs.Books.{listed_sources}
use Rattle.books_spec.specs.WholeBooks.{whole_books, source_line}
use Rattle.std.proofs.lemmas.List.{length-map}
use Rattle.collector_views.specs.Views.{source_shown}
use Rattle.sflow_tool.proofs.Reports.{source_put, source_fails, not_there}
use Rattle.sflow_tool.proofs.report.put_sources.Goals as goal
use Rattle.sflow_tool.proofs.report.put_sources.Goals.{in-Some+in_ok-put_source, in_default}

pub loop-place-preserved : goal.loop-place-preserved
loop-place-preserved g c =
    let before = c.loop-place.invariant in
    elim c.match-source.branch [
      | in-Some+in_ok-put_source w ↦ record {
        put = λ l items stands.
            rw (w.page-is, w.sink-is)
            (source_put _ _ _ _ _ _ _ (whole_books l items).sources c.loop-place.place (source_shown w.in-Some.view)
            (w.in-Some.ensures.view l items stands) refl (before.put l items stands) w.in_ok-put_source.ensures);
      }
      | in_default w ↦ record {
        put = λ l items stands.
            absurd (not_there (whole_books l items).sources c.loop-place.place c.source_count-place-end.result c.loop-place-test.true
            (c.source_count-place-end.ensures.sources l items stands ∙ sym (length-map (listed_sources l items) (source_line l items))) (w.in_default.ensures.view l items stands));
      }
    ]

pub returns-in_err-put_source : goal.returns-in_err-put_source
returns-in_err-put_source g c = λ l items stands.
    source_fails _ _ _ _ _ _ _ (whole_books l items).sources c.loop-place.place (source_shown c.in-Some.view)
    (c.in-Some.ensures.view l items stands) refl (c.loop-place.invariant.put l items stands) _ _
    c.from_residual.ensures.1 c.in_err-put_source.ensures
