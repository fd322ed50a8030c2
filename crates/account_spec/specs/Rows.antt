-- Short forms in which the worked rows are written. Every list has the LATEST FIRST.
use Rattle.std.specs.Prelude.{ℕ, nat_le, Bool, true, List, [], ◌∷◌, length}
use Rattle.std.specs.declared.option.Option.TheVariants.{None}
use Rattle.wire_spec.specs.Heads.{ipv4}
use Rattle.books_spec.specs.declared.limits.Limits.{Limits}
use Rattle.books_spec.specs.Items.{Stream}
use Rattle.books_spec.specs.Views.{Figures, view_with}
use Rattle.books_spec.specs.Books.{StreamBooks}
use Rattle.books_spec.specs.BookRows.{sound_totals}
use Rattle.books_spec.specs.WholeBooks.{SourceLine, WholeBooks}
use Rattle.agent_spec.specs.Sources.{Source, FlowSetup}
use Rattle.agent_spec.specs.Samples.{Packet, Sampled, Sample, Datagram}
use Rattle.agent_spec.specs.Events.{Event, Observe, Send, Reset}
use Rattle.agent_spec.specs.Spelled.{Compact}
use Rattle.account_spec.specs.Histories.{SubAgent}
use Rattle.account_spec.specs.Deliveries.{Delivery}

abbrev pub port : Source
port = record { flow = true; class = 0; index = 5 }

-- each packet is sampled, and numbers, pool and drops begin here
abbrev pub each_packet : ℕ → ℕ → ℕ → FlowSetup
each_packet first pool drops =
    record { source = port; rate = 1; skips = 1 ∷ []; first = first; pool = pool; drops = drops }

abbrev pub any_packet : Packet
any_packet = record {
  input = record { form = 0; value = 1 };
  output = record { form = 0; value = 2 };
  frame_length = 64;
  vlan = None;
  header = [];
}

-- a sub-agent of the agent 10.0.0.1, which sends each sample in a datagram of its own
abbrev pub one_fits : List Sample → Bool
one_fits samples = nat_le (length samples) 1

abbrev pub sub_agent : ℕ → ℕ → FlowSetup → List (List Event) → SubAgent
sub_agent n first f boots = record {
  sender = record { agent = ipv4 (10 ∷ 0 ∷ 0 ∷ 1 ∷ []); sub_agent = n; form = Compact; max_datagram = 1400 };
  setup = record { stage = 1; first = first; flows = f ∷ []; counters = []; fits = one_fits };
  boots = boots;
}

-- a packet, and a send at this uptime
abbrev pub sample_sent : FlowSetup → ℕ → List Event → List Event
sample_sent f uptime before = Send uptime 1 ∷ Observe f any_packet ∷ before

-- the same, where a second packet finds no place
abbrev pub with_a_drop : FlowSetup → ℕ → List Event → List Event
with_a_drop f uptime before = Send uptime 1 ∷ Observe f any_packet ∷ Observe f any_packet ∷ before

-- a datagram with one sample
abbrev pub datagram_of : ℕ → ℕ → ℕ → ℕ → ℕ → ℕ → Datagram
datagram_of number uptime generation sample pool drops = record {
  number = number;
  uptime = uptime;
  samples = record {
    turn = record { source = port; generation = generation };
    number = sample;
    pool = pool;
    drops = drops;
    rate = 1;
    content = Sampled any_packet;
  } ∷ [];
}

abbrev pub sub : ℕ → Stream
sub n = record { agent = ipv4 (10 ∷ 0 ∷ 0 ∷ 1 ∷ []); sub_agent = n }

abbrev pub delivery : ℕ → ℕ → ℕ → Datagram → Delivery
delivery n boot arrival datagram = record { stream = sub n; boot = boot; datagram = datagram; arrival = arrival }

abbrev pub usual : Limits
usual = record { streams = 256; sources = 4096; datagram_width = 64; sample_width = 1024; boot_slack = 5000 }

-- what is shown of sub-agent 0
abbrev pub stream_line : Figures → ℕ → ℕ → StreamBooks
stream_line figures boots stale =
    record { stream = sub 0; boots = boots; view = view_with figures 0 0 0; stale = stale }

-- what is shown of the source flow 0:5 of stream 1
abbrev pub port_line : ℕ → Figures → ℕ → ℕ → ℕ → SourceLine
port_line generations figures pool drops stale = record {
  stream = 1;
  id = record { flow = true; class = 0; index = 5 };
  view = record { generations = generations; ledger = view_with figures pool drops 1; stale = stale };
}

-- so many entries of sub-agent 0, and its source
abbrev pub one_source : ℕ → StreamBooks → SourceLine → WholeBooks
one_source entries stream source = record {
  totals = sound_totals entries 0 0 0;
  streams = stream ∷ [];
  sources = source ∷ [];
  interfaces = [];
}

-- ---- a history in which datagrams are lost, come twice and out of order, a source is reset and its sub-agent restarts,
-- while the numbers of datagrams and samples, the pool, the drops and the uptime pass 2^32

abbrev pub wrapping : FlowSetup
wrapping = each_packet 4294967294 4294967294 4294967295

abbrev pub first_boot : List Event
first_boot =
    sample_sent wrapping 95000 (sample_sent wrapping 90000 (sample_sent wrapping 300 (Reset port
    ∷ sample_sent wrapping 200 (with_a_drop wrapping 100 (sample_sent wrapping 4294967000 [])))))

abbrev pub all_happens : List SubAgent
all_happens = sub_agent 0 4294967295 wrapping (first_boot ∷ sample_sent wrapping 700 [] ∷ []) ∷ []

abbrev pub all_delivered : List Delivery
all_delivered =
    delivery 0 1 5000100200 (datagram_of 4294967299 90000 2 4294967295 4294967296 4294967295)
    ∷ delivery 0 2 5000100000 (datagram_of 4294967295 700 1 4294967294 4294967295 4294967295)
    ∷ delivery 0 1 5000095400 (datagram_of 4294967300 95000 2 4294967296 4294967297 4294967295)
    ∷ delivery 0 1 5000000700 (datagram_of 4294967296 100 1 4294967295 4294967296 4294967295)
    ∷ delivery 0 1 5000000650 (datagram_of 4294967296 100 1 4294967295 4294967296 4294967295)
    ∷ delivery 0 1 5000000600 (datagram_of 4294967298 300 2 4294967294 4294967295 4294967295)
    ∷ delivery 0 1 5000000500 (datagram_of 4294967297 200 1 4294967296 4294967298 4294967296)
    ∷ delivery 0 1 5000000000 (datagram_of 4294967295 4294967000 1 4294967294 4294967295 4294967295) ∷ []

-- ---- histories of which one premise fails

abbrev pub plain : FlowSetup
plain = each_packet 1 0 0

-- a restart within the slack
abbrev pub hidden_restart : List SubAgent
hidden_restart = sub_agent 0 1 plain (sample_sent plain 500 [] ∷ sample_sent plain 200 [] ∷ []) ∷ []

abbrev pub after_hidden_restart : List Delivery
after_hidden_restart =
    delivery 0 2 1100 (datagram_of 1 200 1 1 1 0) ∷ delivery 0 1 1000 (datagram_of 1 500 1 1 1 0) ∷ []

-- a reset, of which the first datagram comes before all others
abbrev pub hidden_reset : List SubAgent
hidden_reset = sub_agent 0 1 plain (sample_sent plain 600 (Reset port ∷ sample_sent plain 500 []) ∷ []) ∷ []

abbrev pub after_hidden_reset : List Delivery
after_hidden_reset =
    delivery 0 1 1100 (datagram_of 1 500 1 1 1 0) ∷ delivery 0 1 1000 (datagram_of 2 600 2 1 1 0) ∷ []

-- two sub-agents, and room for one
abbrev pub two_sub_agents : List SubAgent
two_sub_agents =
    sub_agent 0 1 plain (sample_sent plain 500 [] ∷ []) ∷ sub_agent 1 1 plain (sample_sent plain 500 [] ∷ []) ∷ []

abbrev pub of_two_sub_agents : List Delivery
of_two_sub_agents =
    delivery 1 1 1000 (datagram_of 1 500 1 1 1 0) ∷ delivery 0 1 1000 (datagram_of 1 500 1 1 1 0) ∷ []

abbrev pub one_stream : Limits
one_stream = record usual { streams = 1 }
