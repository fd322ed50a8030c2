-- What contracts see of a record: the value of its fields, and its tail.
use Rattle.wire_spec.specs.Shapes.{Tree, none, ◌&◌}
use Rattle.data_format.specs.Records.{Content}
use Rattle.rec_headers.specs.declared.raw.RawHeader.{RawHeader}
use Rattle.rec_headers.specs.declared.ethernet.EthernetRec.{EthernetRec}
use Rattle.rec_headers.specs.declared.ipv4.Ipv4Rec.{Ipv4Rec}
use Rattle.rec_headers.specs.declared.ipv6.Ipv6Rec.{Ipv6Rec}

abbrev pub raw_content : RawHeader → Content
raw_content r = (
  Tree.structure (
      Tree.word r.protocol & Tree.word r.frame_length & Tree.word r.stripped & Tree.opaque r.header.now &
      none),
  r.tail.now,
)

abbrev pub ethernet_content : EthernetRec → Content
ethernet_content r = (
  Tree.structure (
      Tree.word r.length & Tree.fixed r.src_mac.0 & Tree.fixed r.dst_mac.0 & Tree.word r.ethertype &
      none),
  r.tail.now,
)

abbrev pub ipv4_content : Ipv4Rec → Content
ipv4_content r = (
  Tree.structure (
      Tree.word r.length & Tree.word r.protocol & Tree.fixed r.src & Tree.fixed r.dst &
      Tree.word r.src_port & Tree.word r.dst_port & Tree.word r.tcp_flags & Tree.word r.tos &
      none),
  r.tail.now,
)

abbrev pub ipv6_content : Ipv6Rec → Content
ipv6_content r = (
  Tree.structure (
      Tree.word r.length & Tree.word r.protocol & Tree.fixed r.src & Tree.fixed r.dst &
      Tree.word r.src_port & Tree.word r.dst_port & Tree.word r.tcp_flags & Tree.word r.priority &
      none),
  r.tail.now,
)
