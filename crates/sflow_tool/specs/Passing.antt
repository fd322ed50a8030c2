-- Which of the datagrams that come go on: those that a collector finds to be First.
use Rattle.std.specs.Prelude.{ℕ, Bool, true, false, List, [], ◌∷◌, ◌++◌, take, Option, Some, None, if◌then◌else◌}
use Rattle.wire_spec.specs.Heads.{AgentAddress}
use Rattle.capture_spec.specs.Items.{Received}
use Rattle.data_format.specs.Addresses.{address_of}
use Rattle.books_spec.specs.Items.{Item, Got, Malformed}
use Rattle.books_spec.specs.Books.{taken}
use Rattle.books_spec.specs.declared.limits.Limits.{Limits}
use Rattle.account_spec.specs.Accounts.{is_delivered}
use Rattle.account_spec.specs.Deliveries.{Delivery, deliveries_of, entry_of}
use Rattle.account_spec.specs.Histories.{SubAgent}
use Rattle.flow_collector.specs.Steps.{is_first}
use Rattle.relay_out.specs.Routes.{AgentDatagram}
use Rattle.sflow_tool.specs.declared.collect.FirstDatagram.{FirstDatagram}
use Rattle.sflow_tool.specs.Replays.{entry_item}

abbrev pub agent_where : Bool → AgentAddress → Option AgentAddress
agent_where true agent = Some agent
agent_where false agent = None

-- the agent of an entry that comes behind these items, where it is First under these limits; items have the LATEST FIRST
abbrev pub first_agent : Limits → List Item → Item → Option AgentAddress
first_agent l before (Got d) = agent_where (is_first (taken l before (Got d))) d.head.agent
first_agent l before (Malformed f) = None

abbrev pub with_agent : Option AgentAddress → List ℕ → List AgentDatagram
with_agent None bytes = []
with_agent (Some agent) bytes = record { agent = agent; bytes = bytes } ∷ []

-- of entries that come behind these items those that are First, in order
abbrev pub passed_behind : Limits → List Item → List Received → List AgentDatagram
passed_behind l before [] = []
passed_behind l before (e ∷ entries) =
    with_agent (first_agent l before (entry_item e)) e.bytes ++ passed_behind l (entry_item e ∷ before) entries

-- of all that come
abbrev pub passed_on : Limits → List Received → List AgentDatagram
passed_on l entries = passed_behind l [] entries

-- ---- where what comes is what agents sent; deliveries have the LATEST FIRST

-- a datagram of a delivery as it comes
abbrev pub sent_datagram : List SubAgent → Delivery → AgentDatagram
sent_datagram history d = record { agent = d.stream.agent; bytes = (entry_of history d).bytes }

-- the datagrams that are delivered in time, each once, in order of arrival: those of the deliveries that are the first in time
-- of their datagram
abbrev pub first_in_time : Limits → List SubAgent → List Delivery → List AgentDatagram
first_in_time l history [] = []
first_in_time l history (d ∷ before) =
    first_in_time l history before
    ++ (if is_delivered l.datagram_width (deliveries_of d.stream before) d then sent_datagram history d ∷ [] else [])

-- ---- what a receive left in the room

abbrev pub first_in : List ℕ → Option FirstDatagram → List AgentDatagram
first_in room None = []
first_in room (Some first) = record { agent = address_of first.agent; bytes = take first.len room } ∷ []
