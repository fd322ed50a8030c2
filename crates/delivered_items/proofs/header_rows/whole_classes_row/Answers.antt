use Rattle.std.proofs.Common.{refl}
use Rattle.header_lanes.specs.Facts.{facts_in}
use Rattle.header_lanes.specs.Ethernet.{ethernet, vlan_of, type_behind, from_type, by_type, by_ethertype}
use Rattle.delivered_items.proofs.header_rows.whole_classes_row.Goals as goal

pub returns-clause-books : goal.returns-clause-books
unfolding facts_in ethernet vlan_of type_behind from_type by_type by_ethertype
returns-clause-books c = refl

pub returns-clause-account : goal.returns-clause-account
unfolding facts_in ethernet vlan_of type_behind from_type by_type by_ethertype
returns-clause-account c = refl
