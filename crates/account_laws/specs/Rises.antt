-- What a collector is to show of interface counters, by what they truly were. Deliveries have the LATEST FIRST; what is
-- listed stands in order of first arrival.
use Rattle.std.specs.Prelude.{ℕ, ◌+◌, cond, Option, Some, None, List, length}
use Rattle.std.specs.List.{sum_by, filter_map, position_or_len}
use Rattle.books_spec.specs.declared.limits.Limits.{Limits}
use Rattle.books_spec.specs.declared.source_view.IfView.{IfView}
use Rattle.books_spec.specs.Items.{Stream, Source}
use Rattle.books_spec.specs.Listing.{same_stream}
use Rattle.books_spec.specs.WholeBooks.{InterfaceLine}
use Rattle.account_spec.specs.Deliveries.{Delivery, deliveries_of}
use Rattle.account_spec.specs.Arrivals.{Arrived, source_boots}
use Rattle.account_spec.specs.Accounts.{kept, generations_of, delivered_streams, delivered_sources}
use Rattle.account_spec.specs.Truths.{Truth, true_rises}

-- how many samples came in time, and how far each counter truly rose, over the samples of a source in each boot
abbrev pub true_view : Truth → Stream → ℕ → List (List Arrived) → IfView
true_view truth stream width boots = record {
  samples = sum_by (λ (g : List Arrived). length (kept width g)) (generations_of boots);
  rises = true_rises truth stream width boots;
}

-- of a counters source
abbrev pub true_line : Truth → Limits → List Delivery → Source → Option InterfaceLine
true_line truth l deliveries source = cond source.id.flow None (Some (record {
  stream = position_or_len (same_stream source.stream) (delivered_streams deliveries) + 1;
  id = source.id;
  view = true_view truth source.stream l.sample_width
      (source_boots l.datagram_width source.id (deliveries_of source.stream deliveries));
}))

abbrev pub true_interfaces : Truth → Limits → List Delivery → List InterfaceLine
true_interfaces truth l deliveries =
    filter_map (true_line truth l deliveries) (delivered_sources l.datagram_width deliveries)
