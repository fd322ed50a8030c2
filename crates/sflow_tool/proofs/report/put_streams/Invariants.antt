-- The lines so far were put, and no call has failed.
use Rattle.std.proofs.Common.{List, take}
use Rattle.books_spec.specs.Items.{Item}
use Rattle.books_spec.specs.declared.limits.Limits.{Limits}
use Rattle.books_spec.specs.WholeBooks.{whole_books}
use Rattle.flow_collector.specs.Collectors.{StandsFor}
use Rattle.text_lines.specs.Pages.{Puts}
use Rattle.report_lines.specs.Reports.{stream_texts}
use Rattle.sflow_tool.proofs.report.put_streams.Given as goal

abbrev pub invariant-loop-place : goal.invariant-loop-place
invariant-loop-place g l = record {
  put : (l' : Limits) (items : List Item) → StandsFor l.collector.books l' items
      → Puts (g.K.Sink.seen l.initial.sink) (g.K.Sink.seen l.sink) l.initial.page l.page
      (stream_texts 1 (take l.place (whole_books l' items).streams));
}
