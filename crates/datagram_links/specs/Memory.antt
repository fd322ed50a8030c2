-- What the link, the clock and the receiver over memory hold, and what each call makes of it.
use Rattle.std.specs.Prelude.{ℕ, List, Contains, Option, None, Some}
use Rattle.wire_spec.specs.Captures.{Entry}
use Rattle.byte_ends.specs.Seen.{next_count}
use Rattle.datagram_links.specs.declared.link_item.LinkItem.{LinkItem}
use Rattle.datagram_links.specs.declared.link_item.LinkItem.TheVariants as item
use Rattle.datagram_links.specs.Links.{LinkSeen}
use Rattle.datagram_links.specs.Clocks.{ClockSeen}
use Rattle.datagram_links.specs.Receivers.{ReceiverSeen}

-- ---- a link

-- an item: a datagram with its arrival, or None where nothing comes
abbrev pub item_view : LinkItem → Option Entry
item_view (item.Got at bytes) = Some (record { arrival = at; bytes = bytes.items })
item_view item.Quiet = None

-- the items that are left, the places, the datagrams that it took, the numbers of the calls that fail, and the counts
-- of its calls, of its faults and of those among them for want of memory
pub record LinkState : Type 0 where
  pub items : List (Option Entry)
  pub listens : Option (List ℕ)
  pub aims : Option (List ℕ)
  pub sent : List (List ℕ)
  pub fails : List ℕ
  pub calls : ℕ
  pub faults : ℕ
  pub lacked : ℕ

-- it tells all of it
abbrev pub link_seen : LinkState → LinkSeen
link_seen l = record {
  told = Some (record { items = l.items; listens = l.listens; aims = l.aims; sent = l.sent });
  faults = l.faults;
}

-- the next call's number is one of those that fail
abbrev pub LinkRefuses : LinkState → Type 0
LinkRefuses l = Contains l.fails (next_count l.calls)

-- after one call more
abbrev pub link_called : LinkState → LinkState
link_called l = record l { calls = next_count l.calls }

-- after a call that failed by its number
abbrev pub link_failed : LinkState → LinkState
link_failed l = record l { calls = next_count l.calls; faults = next_count l.faults }

-- after a call for which memory was lacking
abbrev pub link_lacked : LinkState → LinkState
link_lacked l =
    record l { calls = next_count l.calls; faults = next_count l.faults; lacked = next_count l.lacked }

-- ---- a receiver

-- the place, the datagrams that it took, the numbers of the calls that fail, and the counts of its calls, of its faults
-- and of those among them for want of memory
pub record ReceiverState : Type 0 where
  pub place : Option (List ℕ)
  pub taken : List (List ℕ)
  pub fails : List ℕ
  pub calls : ℕ
  pub faults : ℕ
  pub lacked : ℕ

-- it tells all of it
abbrev pub receiver_seen : ReceiverState → ReceiverSeen
receiver_seen r = record { told = Some (record { place = r.place; taken = r.taken }); faults = r.faults }

-- the next call's number is one of those that fail
abbrev pub ReceiverRefuses : ReceiverState → Type 0
ReceiverRefuses r = Contains r.fails (next_count r.calls)

-- after one call more
abbrev pub receiver_called : ReceiverState → ReceiverState
receiver_called r = record r { calls = next_count r.calls }

-- after a call that failed by its number
abbrev pub receiver_failed : ReceiverState → ReceiverState
receiver_failed r = record r { calls = next_count r.calls; faults = next_count r.faults }

-- after a call for which memory was lacking
abbrev pub receiver_lacked : ReceiverState → ReceiverState
receiver_lacked r =
    record r { calls = next_count r.calls; faults = next_count r.faults; lacked = next_count r.lacked }

-- ---- a clock

-- it tells its values, and no call of it fails
abbrev pub clock_seen : List ℕ → ClockSeen
clock_seen values = record { told = Some values; faults = 0 }
