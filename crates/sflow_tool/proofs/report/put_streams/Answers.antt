use Rattle.std.proofs.Common.{refl, sym, ◌∙◌}
use Rattle.books_spec.specs.Books.{stream_books, listed_streams}
use Rattle.books_spec.specs.WholeBooks.{whole_books}
use Rattle.std.proofs.lemmas.List.{length-map}
use Rattle.collector_views.specs.Views.{stream_shown}
use Rattle.sflow_tool.proofs.Reports.{stream_put, stream_fails, not_there}
use Rattle.sflow_tool.proofs.report.put_streams.Goals as goal
use Rattle.sflow_tool.proofs.report.put_streams.Goals.{in-Some+in_ok-put_stream, in_default}

pub loop-place-preserved : goal.loop-place-preserved
loop-place-preserved g c =
    let before = c.loop-place.invariant in
    elim c.match-stream.branch [
      | in-Some+in_ok-put_stream w ↦ record {
        put = λ l items stands.
            rw (w.page-is, w.sink-is)
            (stream_put _ _ _ _ _ _ _ (whole_books l items).streams c.loop-place.place (stream_shown w.in-Some.view)
            (w.in-Some.ensures.view l items stands) refl (before.put l items stands) w.in_ok-put_stream.ensures);
      }
      | in_default w ↦ record {
        put = λ l items stands.
            absurd (not_there (whole_books l items).streams c.loop-place.place c.stream_count-place-end.result c.loop-place-test.true
            (c.stream_count-place-end.ensures.streams l items stands ∙ sym (length-map (listed_streams l items) (stream_books l items))) (w.in_default.ensures.view l items stands));
      }
    ]

pub returns-in_err-put_stream : goal.returns-in_err-put_stream
returns-in_err-put_stream g c = λ l items stands.
    stream_fails _ _ _ _ _ _ _ (whole_books l items).streams c.loop-place.place (stream_shown c.in-Some.view)
    (c.in-Some.ensures.view l items stands) refl (c.loop-place.invariant.put l items stands) _ _
    c.from_residual.ensures.1 c.in_err-put_stream.ensures
