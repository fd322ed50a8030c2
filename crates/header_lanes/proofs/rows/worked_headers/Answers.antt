use Rattle.std.proofs.Common.{refl}
use Rattle.header_lanes.specs.Facts.{facts_in}
use Rattle.header_lanes.specs.Ethernet.{ethernet, vlan_of, type_behind, from_type, by_type, by_ethertype}
use Rattle.header_lanes.specs.Internet.{ipv4_at, with_ipv4, behind_ipv4, with_transport}
use Rattle.header_lanes.proofs.rows.worked_headers.Goals as goal

pub returns-clause-whole : goal.returns-clause-whole
unfolding facts_in ethernet vlan_of type_behind from_type by_type by_ethertype ipv4_at with_ipv4 behind_ipv4 with_transport
returns-clause-whole c = refl

pub returns-clause-cut : goal.returns-clause-cut
unfolding facts_in ethernet vlan_of type_behind from_type by_type by_ethertype ipv4_at with_ipv4 behind_ipv4 with_transport
returns-clause-cut c = refl

pub returns-clause-later_fragment : goal.returns-clause-later_fragment
unfolding facts_in ethernet vlan_of type_behind from_type by_type by_ethertype ipv4_at with_ipv4 behind_ipv4 with_transport
returns-clause-later_fragment c = refl

pub returns-clause-followed : goal.returns-clause-followed
unfolding facts_in ethernet vlan_of type_behind from_type by_type by_ethertype ipv4_at with_ipv4 behind_ipv4 with_transport
returns-clause-followed c = refl
