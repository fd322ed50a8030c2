-- Short forms in which the worked rows of generations are written.
use Rattle.std.specs.Prelude.{ℕ, true, false, List, [], ◌∷◌, pos}
use Rattle.books_spec.specs.declared.source_view.SourceLedgerView.{SourceLedgerView}
use Rattle.books_spec.specs.Items.{Item, flow_sample}
use Rattle.books_spec.specs.Views.{Figures, view_with}
use Rattle.books_spec.specs.Rows.{reading}
use Rattle.books_spec.specs.BookRows.{datagram_of}
use Rattle.books_spec.specs.InterfaceRise.{InterfaceCounters}
use Rattle.books_spec.specs.SourceViews.{PlacedReading, source_view}
use Rattle.books_spec.specs.WholeBooks.{SourceLine}

-- the sample of this index in the datagram of this number, with its own number and pool
abbrev pub sample_at : ℕ → ℕ → ℕ → ℕ → PlacedReading
sample_at datagram index number pool = record {
  place = record { datagram = pos datagram; index = index };
  reading = reading number pool 0 256;
}

-- the first sample of the datagram of this number
abbrev pub alone_in : ℕ → ℕ → ℕ → PlacedReading
alone_in datagram number pool = sample_at datagram 0 number pool

-- what is shown of these flow samples over boots, under a window of width 64
abbrev pub view_of_boots : List (List PlacedReading) → SourceLedgerView
view_of_boots boots = source_view true 64 boots

-- so many generations, these figures, the rise of the pool, and so many stale samples
abbrev pub shows : ℕ → Figures → ℕ → ℕ → SourceLedgerView
shows generations figures pool stale = record {
  generations = generations;
  ledger = view_with figures pool 0 256;
  stale = stale;
}

-- a datagram with one sample of the flow source 0:5
abbrev pub with_flow : ℕ → ℕ → ℕ → Item
with_flow sequence number pool =
    datagram_of 0 1000 1000 sequence (flow_sample 0 5 (reading number pool 0 256) ∷ [])

-- what is shown of the flow source 0:5 of stream 1
abbrev pub flow_line : SourceLedgerView → SourceLine
flow_line view = record { stream = 1; id = record { flow = true; class = 0; index = 5 }; view = view }

-- what is shown of the counters source 0:5 of stream 1
abbrev pub counters_line : ℕ → Figures → ℕ → SourceLine
counters_line generations figures stale = record {
  stream = 1;
  id = record { flow = false; class = 0; index = 5 };
  view = record { generations = generations; ledger = view_with figures 0 0 0; stale = stale };
}

-- counters of which all but these two are 0
abbrev pub octets_and_ucast : ℕ → ℕ → InterfaceCounters
octets_and_ucast octets ucast = record {
  in_octets = octets;
  in_ucast = ucast;
  in_multicast = 0;
  in_broadcast = 0;
  in_discards = 0;
  in_errors = 0;
  in_unknown = 0;
  out_octets = 0;
  out_ucast = 0;
  out_multicast = 0;
  out_broadcast = 0;
  out_discards = 0;
  out_errors = 0;
}

-- rises of which all but these two are 0
abbrev pub two_rises : ℕ → ℕ → List ℕ
two_rises octets ucast = octets ∷ ucast ∷ 0 ∷ 0 ∷ 0 ∷ 0 ∷ 0 ∷ 0 ∷ 0 ∷ 0 ∷ 0 ∷ 0 ∷ 0 ∷ []
