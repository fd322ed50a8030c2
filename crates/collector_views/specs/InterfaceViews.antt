-- What is shown of the interface counters of a source, in the words of the books.
use Rattle.books_spec.specs.declared.source_view.IfView.{IfView}
use Rattle.books_spec.specs.WholeBooks.{InterfaceLine}
use Rattle.collector_views.specs.declared.views.SourceView.{SourceView}

-- beside the view of the source
abbrev pub interface_shown : SourceView → IfView → InterfaceLine
interface_shown source view = record {
  stream = source.stream;
  id = record { flow = source.flow; class = source.source.class; index = source.source.index };
  view = view;
}
