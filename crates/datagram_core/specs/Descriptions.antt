-- What a record is (sFlow Version 5, section 5): one table, of which all that is said of records by their variants follows.
use Rattle.std.specs.Prelude.{ℕ, List}
use Rattle.data_format.specs.declared.format.Frame.{Frame}
use Rattle.data_format.specs.Records.{Content, record_bytes}
use Rattle.data_format.specs.Views.{format_word}
use Rattle.rec_headers.specs.Contents as headers
use Rattle.rec_extended.specs.Contents as switches
use Rattle.rec_extended.specs.RouteContents as routes
use Rattle.rec_counters.specs.Contents as counters
use Rattle.rec_more.specs.Contents as more
use Rattle.datagram_core.specs.declared.records.Record.{Record}
use Rattle.datagram_core.specs.declared.records.Record.TheVariants.{
  RawHeader,
  Ethernet,
  Ipv4,
  Ipv6,
  Switch,
  Router,
  Gateway,
  User,
  Url,
  Mpls,
  Nat,
  IfCounters,
  EthernetCounters,
  VlanCounters,
  Processor,
  Other,
}
use Rattle.datagram_core.specs.declared.records.RecordKind.{RecordKind}
use Rattle.datagram_core.specs.declared.records.RecordKind.TheVariants.{Flow, Counters}

pub data Description : Type 0 where
  -- samples of this kind have it, its format of enterprise 0 has this number, and these are its fields and its tail
  Read : RecordKind → ℕ → Content → Description
  -- its format isn't read
  Kept : Frame → Description

abbrev pub described : Record → Description
described (RawHeader r) = Read Flow 1 (headers.raw_content r)
described (Ethernet r) = Read Flow 2 (headers.ethernet_content r)
described (Ipv4 r) = Read Flow 3 (headers.ipv4_content r)
described (Ipv6 r) = Read Flow 4 (headers.ipv6_content r)
described (Switch r) = Read Flow 1001 (switches.switch_content r)
described (Router r) = Read Flow 1002 (routes.router_content r)
described (Gateway r) = Read Flow 1003 (routes.gateway_content r)
described (User r) = Read Flow 1004 (more.user_content r)
described (Url r) = Read Flow 1005 (more.url_content r)
described (Mpls r) = Read Flow 1006 (more.mpls_content r)
described (Nat r) = Read Flow 1007 (more.nat_content r)
described (IfCounters r) = Read Counters 1 (counters.interface_content r)
described (EthernetCounters r) = Read Counters 2 (counters.ethernet_content r)
described (VlanCounters r) = Read Counters 5 (counters.vlan_content r)
described (Processor r) = Read Counters 1001 (more.processor_content r)
described (Other frame) = Kept frame

-- the word of its format
abbrev pub format_in : Description → ℕ
format_in (Read kind k x) = k
format_in (Kept frame) = format_word frame.format

-- the bytes of its body
abbrev pub body_in : Description → List ℕ
body_in (Read kind k x) = record_bytes x
body_in (Kept frame) = frame.body.now

-- the bytes behind the fields, all of them where the format isn't read
abbrev pub tail_in : Description → List ℕ
tail_in (Read kind k x) = x.1
tail_in (Kept frame) = frame.body.now
