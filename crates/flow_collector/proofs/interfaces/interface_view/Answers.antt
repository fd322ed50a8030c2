use Rattle.std.proofs.Common.{◌∙◌, sym, ap}
use Rattle.books_spec.specs.WholeBooks.{interface_of}
use Rattle.collector_tables.specs.declared.keys.SampleKind.{SampleKind}
use Rattle.collector_tables.specs.Kinds.{is_flow_kind}
use Rattle.flow_collector.proofs.interfaces.interface_view.Goals as goal

pub returns-in-Counters : goal.returns-in-Counters
returns-in-Counters c = λ width boots st.
    c.carried_view.ensures width boots st
    ∙ ap (λ (k : SampleKind). interface_of (is_flow_kind k) width boots) (sym c.in-Counters.is)
