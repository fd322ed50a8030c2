-- The lines so far were put, and no call has failed.
use Rattle.std.proofs.Common.{List, take, flat_map}
use Rattle.books_spec.specs.Items.{Item}
use Rattle.books_spec.specs.declared.limits.Limits.{Limits}
use Rattle.books_spec.specs.Books.{listed_sources}
use Rattle.books_spec.specs.WholeBooks.{interface_line}
use Rattle.flow_collector.specs.Collectors.{StandsFor}
use Rattle.text_lines.specs.Pages.{Puts}
use Rattle.report_lines.specs.InterfaceLines.{line_text}
use Rattle.sflow_tool.proofs.interfaces.put_interfaces.Given as goal

abbrev pub invariant-loop-place : goal.invariant-loop-place
invariant-loop-place g l = record {
  put : (l' : Limits) (items : List Item) → StandsFor l.collector.books l' items
      → Puts (g.K.Sink.seen l.initial.sink) (g.K.Sink.seen l.sink) l.initial.page l.page
      (flat_map (λ k. line_text (interface_line l' items k)) (take l.place (listed_sources l' items)));
}
