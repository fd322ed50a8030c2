use Rattle.std.proofs.Common.{refl}
use Rattle.header_lanes.specs.Facts.{facts_in}
use Rattle.header_lanes.specs.Ethernet.{ethernet, vlan_of, type_behind, from_type, by_type, by_ethertype}
use Rattle.sample_taps.proofs.rows.worked_briefs.Goals as goal

pub returns-clause-three_times : goal.returns-clause-three_times
unfolding facts_in ethernet vlan_of type_behind from_type by_type by_ethertype
returns-clause-three_times c = refl

pub returns-clause-came_before : goal.returns-clause-came_before
unfolding facts_in ethernet vlan_of type_behind from_type by_type by_ethertype
returns-clause-came_before c = refl

pub returns-clause-new_generation : goal.returns-clause-new_generation
unfolding facts_in ethernet vlan_of type_behind from_type by_type by_ethertype
returns-clause-new_generation c = refl

pub returns-clause-counted : goal.returns-clause-counted
unfolding facts_in ethernet vlan_of type_behind from_type by_type by_ethertype
returns-clause-counted c = refl
