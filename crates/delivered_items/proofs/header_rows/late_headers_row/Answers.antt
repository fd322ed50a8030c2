use Rattle.std.proofs.Common.{refl}
use Rattle.header_lanes.specs.Facts.{facts_in}
use Rattle.header_lanes.specs.Ethernet.{ethernet, vlan_of, type_behind, from_type, by_type, by_ethertype}
use Rattle.header_lanes.specs.Internet.{ipv4_at, with_ipv4, behind_ipv4, ipv6_at, with_ipv6, with_transport}
use Rattle.delivered_items.proofs.header_rows.late_headers_row.Goals as goal

pub returns-clause-books : goal.returns-clause-books
unfolding facts_in ethernet vlan_of type_behind from_type by_type by_ethertype
returns-clause-books c = refl

pub returns-clause-account : goal.returns-clause-account
unfolding facts_in ethernet vlan_of type_behind from_type by_type by_ethertype
returns-clause-account c = refl

pub returns-clause-classes : goal.returns-clause-classes
unfolding facts_in ethernet vlan_of type_behind from_type by_type by_ethertype ipv4_at with_ipv4 behind_ipv4 ipv6_at with_ipv6 with_transport
returns-clause-classes c = refl
