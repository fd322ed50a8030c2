-- Short forms in which the rows of interface counters are written. Every list has the LATEST FIRST.
use Rattle.std.specs.Prelude.{ℕ, ◌+◌, ◌-◌, ◌*◌, false, List, [], ◌∷◌}
use Rattle.wire_spec.specs.Shapes.{Tree, none, ◌&◌}
use Rattle.wire_spec.specs.Heads.{ipv4}
use Rattle.books_spec.specs.Items as books
use Rattle.books_spec.specs.WholeBooks.{InterfaceLine}
use Rattle.books_spec.specs.GenerationRows.{octets_and_ucast, two_rises}
use Rattle.agent_spec.specs.Sources.{Source}
use Rattle.agent_spec.specs.Samples.{Counted, Datagram}
use Rattle.agent_spec.specs.Events.{Event, Poll, Send}
use Rattle.agent_spec.specs.Spelled.{Compact}
use Rattle.account_spec.specs.Histories.{SubAgent}
use Rattle.account_spec.specs.Deliveries.{Delivery}
use Rattle.account_spec.specs.Rows.{one_fits, sub, delivery}
use Rattle.account_spec.specs.Truths.{Truth}

abbrev pub port : Source
port = record { flow = false; class = 0; index = 5 }

-- a reading of an interface, of which all counters but these two are 0
abbrev pub reading : ℕ → ℕ → Tree
reading octets ucast = Tree.structure (
    Tree.word 5 & Tree.word 6 & Tree.hyper 1000000000 & Tree.word 1 & Tree.word 3 & Tree.hyper octets & Tree.word ucast &
    Tree.word 0 & Tree.word 0 & Tree.word 0 & Tree.word 0 & Tree.word 0 & Tree.hyper 0 & Tree.word 0 & Tree.word 0 &
    Tree.word 0 & Tree.word 0 & Tree.word 0 & Tree.word 0 & none)

-- a poll, and a send
abbrev pub polled : ℕ → Tree → List Event → List Event
polled uptime counters before = Send uptime 1 ∷ Poll uptime (counters ∷ []) ∷ before

-- two readings, between which the sample's number and both counters begin again at 0
abbrev pub two_polls : List SubAgent
two_polls = record {
  sender = record { agent = ipv4 (10 ∷ 0 ∷ 0 ∷ 1 ∷ []); sub_agent = 0; form = Compact; max_datagram = 1400 };
  setup = record {
    stage = 1;
    first = 1;
    flows = [];
    counters = record { source = port; every = 1000; first = 4294967295 } ∷ [];
    fits = one_fits;
  };
  boots = polled 2000 (reading 16 3) (polled 1000 (reading 18446744073709551600 4294967294) []) ∷ [];
} ∷ []

abbrev pub datagram_with : ℕ → ℕ → ℕ → Tree → Datagram
datagram_with number uptime sample counters = record {
  number = number;
  uptime = uptime;
  samples = record {
    turn = record { source = port; generation = 1 };
    number = sample;
    pool = 0;
    drops = 0;
    rate = 0;
    content = Counted counters;
  } ∷ [];
}

abbrev pub both_delivered : List Delivery
both_delivered =
    delivery 0 1 12000 (datagram_with 2 2000 4294967296 (reading 16 3))
    ∷ delivery 0 1 11000 (datagram_with 1 1000 4294967295 (reading 18446744073709551600 4294967294)) ∷ []

-- from reading to reading 32 octets and 5 packets
abbrev pub what_was : Truth
what_was stream boot s = octets_and_ucast (18446744073709551600 + (s.number - 4294967295) * 32)
    (4294967294 + (s.number - 4294967295) * 5)

abbrev pub the_source : books.Source
the_source = record { stream = sub 0; id = record { flow = false; class = 0; index = 5 } }

abbrev pub two_samples : List InterfaceLine
two_samples = record {
  stream = 1;
  id = record { flow = false; class = 0; index = 5 };
  view = record { samples = 2; rises = two_rises 32 5 };
} ∷ []
