-- The items of some agents alone, as of a collector to which no other agents send; and what is shown of a source by the
-- stream itself, since streams have other numbers there. Items have the LATEST FIRST.
use Rattle.std.specs.Prelude.{◌≡◌, Bool, false, Option, List, map}
use Rattle.std.specs.List.{filter}
use Rattle.wire_spec.specs.Heads.{AgentAddress}
use Rattle.books_spec.specs.declared.limits.Limits.{Limits}
use Rattle.books_spec.specs.declared.source_view.SourceLedgerView.{SourceLedgerView}
use Rattle.books_spec.specs.declared.source_view.IfView.{IfView}
use Rattle.books_spec.specs.Items.{Item, Got, Malformed, Source}
use Rattle.books_spec.specs.Books.{totals, listed_sources}
use Rattle.books_spec.specs.SourceViews.{source_view}
use Rattle.books_spec.specs.PlacedSamples.{placed_boots, interface_boots}
use Rattle.books_spec.specs.WholeBooks.{interface_of}

-- whether the item is a datagram of one of these agents
abbrev pub is_of : (AgentAddress → Bool) → Item → Bool
is_of agents (Got d) = agents d.head.agent
is_of agents (Malformed f) = false

abbrev pub of_agents : (AgentAddress → Bool) → List Item → List Item
of_agents agents items = filter (is_of agents) items

-- each stream that sent a datagram is listed, and each source that has a sample
pub record ListsAll (l : Limits) (items : List Item) : Type 0 where
  pub streams : (totals l items).unlisted ≡ 0
  pub samples : (totals l items).unlisted_samples ≡ 0

-- what is shown of a source
pub record NamedLine : Type 0 where
  pub source : Source
  pub view : SourceLedgerView
  pub interface : Option IfView

abbrev pub named_line : Limits → List Item → Source → NamedLine
named_line l items source = record {
  source = source;
  view = source_view source.id.flow l.sample_width (placed_boots l source items);
  interface = interface_of source.id.flow l.sample_width (interface_boots l source items);
}

-- of each listed source
abbrev pub named_lines : Limits → List Item → List NamedLine
named_lines l items = map (named_line l items) (listed_sources l items)
