-- Short forms in which the worked rows of whole books are written.
use Rattle.std.specs.Prelude.{ℕ, List, [], ◌∷◌, None}
use Rattle.wire_spec.specs.Heads.{ipv4}
use Rattle.books_spec.specs.Views.{Figures, view_with}
use Rattle.books_spec.specs.Items.{SourceId, Sample, Item, Got, Stream}
use Rattle.books_spec.specs.Books.{StreamBooks, SourceBooks}
use Rattle.books_spec.specs.declared.limits.Limits.{Limits}
use Rattle.books_spec.specs.declared.totals.Totals.{Totals}

-- so many streams, else the limits that are usual
abbrev pub limits_of : ℕ → Limits
limits_of streams = record {
  streams = streams;
  sources = 4096;
  datagram_width = 64;
  sample_width = 1024;
  boot_slack = 5000;
}

-- a sub-agent of the agent 10.0.0.1
abbrev pub sub : ℕ → Stream
sub n = record { agent = ipv4 (10 ∷ 0 ∷ 0 ∷ 1 ∷ []); sub_agent = n }

-- a datagram of a sub-agent with this arrival, uptime and sequence word, and these samples
abbrev pub datagram_of : ℕ → ℕ → ℕ → ℕ → List Sample → Item
datagram_of n arrival uptime sequence samples = Got (record {
  arrival = arrival;
  head = record {
    agent = ipv4 (10 ∷ 0 ∷ 0 ∷ 1 ∷ []);
    sub_agent = n;
    sequence = sequence;
    uptime = uptime;
  };
  samples = samples;
})

-- one of sub-agent 0 without samples
abbrev pub empty_at : ℕ → ℕ → ℕ → Item
empty_at arrival uptime sequence = datagram_of 0 arrival uptime sequence []

-- what is shown of sub-agent 0
abbrev pub stream_line : Figures → ℕ → ℕ → StreamBooks
stream_line figures boots stale = record {
  stream = sub 0;
  boots = boots;
  view = view_with figures 0 0 0;
  stale = stale;
}

-- what is shown of a source of stream 1
abbrev pub source_line : SourceId → Figures → ℕ → ℕ → ℕ → SourceBooks
source_line id figures pool drops rate = record {
  stream = 1;
  id = id;
  view = view_with figures pool drops rate;
}

-- totals without faults
abbrev pub sound_totals : ℕ → ℕ → ℕ → ℕ → Totals
sound_totals entries unlisted unlisted_samples other = record {
  entries = entries;
  malformed = 0;
  unlisted = unlisted;
  unlisted_samples = unlisted_samples;
  other = other;
  first_fault = None;
}
