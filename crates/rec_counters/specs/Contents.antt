-- What contracts see of a record: the value of its fields, and its tail.
use Rattle.wire_spec.specs.Shapes.{Tree, none, ◌&◌}
use Rattle.data_format.specs.Records.{Content}
use Rattle.rec_counters.specs.declared.interface.IfCounters.{IfCounters}
use Rattle.rec_counters.specs.declared.ethernet.EthernetCounters.{EthernetCounters}
use Rattle.rec_counters.specs.declared.vlan.VlanCounters.{VlanCounters}

abbrev pub interface_content : IfCounters → Content
interface_content r = (
  Tree.structure (
      Tree.word r.index & Tree.word r.if_type & Tree.hyper r.speed & Tree.word r.direction &
      Tree.word r.status & Tree.hyper r.in_octets & Tree.word r.in_ucast & Tree.word r.in_multicast &
      Tree.word r.in_broadcast & Tree.word r.in_discards & Tree.word r.in_errors &
      Tree.word r.in_unknown & Tree.hyper r.out_octets & Tree.word r.out_ucast &
      Tree.word r.out_multicast & Tree.word r.out_broadcast & Tree.word r.out_discards &
      Tree.word r.out_errors & Tree.word r.promiscuous & none),
  r.tail.now,
)

abbrev pub ethernet_content : EthernetCounters → Content
ethernet_content r = (
  Tree.structure (
      Tree.word r.alignment_errors & Tree.word r.fcs_errors & Tree.word r.single_collisions &
      Tree.word r.multiple_collisions & Tree.word r.sqe_errors & Tree.word r.deferred &
      Tree.word r.late_collisions & Tree.word r.excessive_collisions & Tree.word r.mac_transmit_errors &
      Tree.word r.carrier_errors & Tree.word r.too_long & Tree.word r.mac_receive_errors &
      Tree.word r.symbol_errors & none),
  r.tail.now,
)

abbrev pub vlan_content : VlanCounters → Content
vlan_content r = (
  Tree.structure (
      Tree.word r.vlan & Tree.hyper r.octets & Tree.word r.ucast & Tree.word r.multicast &
      Tree.word r.broadcast & Tree.word r.discards & none),
  r.tail.now,
)
