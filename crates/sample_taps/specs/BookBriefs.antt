-- The briefs of a whole run, and its totals. Items have the LATEST FIRST, and briefs stand in order of arrival.
use Rattle.std.specs.Prelude.{List, map}
use Rattle.books_spec.specs.declared.limits.Limits.{Limits}
use Rattle.books_spec.specs.SampledHeaders.{HeaderedItem, FirstHeader, first_headers}
use Rattle.header_lanes.specs.Facts.{facts}
use Rattle.sample_taps.specs.declared.brief.Brief.{Brief}
use Rattle.sample_taps.specs.declared.class_totals.ClassTotals.{ClassTotals}
use Rattle.sample_taps.specs.Briefs.{facts_in}
use Rattle.sample_taps.specs.Classes.{classes}

-- a header that counts, with what it says
abbrev pub brief_in : FirstHeader → Brief
brief_in h = record {
  stream = h.stream;
  class = h.class;
  index = h.index;
  rate = h.rate;
  frame_length = h.header.frame_length;
  facts = facts h.header.protocol h.header.bytes;
}

-- what the consumers are fed
abbrev pub book_briefs : Limits → List HeaderedItem → List Brief
book_briefs l items = map brief_in (first_headers l items)

-- the totals that are shown
abbrev pub book_classes : Limits → List HeaderedItem → ClassTotals
book_classes l items = classes (map facts_in (book_briefs l items))
