-- The lines of flow records, up to the tail, from the members of each (sFlow Version 5, section 5).
use Rattle.std.specs.Prelude.{ℕ, List, [], ◌∷◌, codes, decimal, length}
use Rattle.std.specs.List.{concat}
use Rattle.wire_spec.specs.Shapes.{Trees}
use Rattle.wire_spec.specs.Texts.{address_text, dotted, grouped}
use Rattle.text_lines.specs.Bytes.{hex_or_dash, mac_text}
use Rattle.data_format.specs.Values.{values_of, member, number_in, bytes_in, address_in}
use Rattle.show_lines.specs.Joined.{list_text, path_text}

-- protocol, frame length, stripped, header
unfoldable pub header_front : Trees → List ℕ
header_front m = concat (
    codes "  header protocol " ∷ decimal (number_in 0 m) ∷
    codes " length " ∷ decimal (number_in 1 m) ∷
    codes " stripped " ∷ decimal (number_in 2 m) ∷
    codes " bytes " ∷ decimal (length (bytes_in 3 m)) ∷
    codes " " ∷ hex_or_dash (bytes_in 3 m) ∷ [])

-- length, source MAC, destination MAC, type
unfoldable pub ethernet_front : Trees → List ℕ
ethernet_front m = concat (
    codes "  ethernet length " ∷ decimal (number_in 0 m) ∷
    codes " src " ∷ mac_text (bytes_in 1 m) ∷
    codes " dst " ∷ mac_text (bytes_in 2 m) ∷
    codes " type " ∷ decimal (number_in 3 m) ∷ [])

-- length, protocol, source, destination, source port, destination port, TCP flags, type of service
unfoldable pub ipv4_front : Trees → List ℕ
ipv4_front m = concat (
    codes "  ipv4 length " ∷ decimal (number_in 0 m) ∷
    codes " protocol " ∷ decimal (number_in 1 m) ∷
    codes " src " ∷ dotted (bytes_in 2 m) ∷
    codes " dst " ∷ dotted (bytes_in 3 m) ∷
    codes " sport " ∷ decimal (number_in 4 m) ∷
    codes " dport " ∷ decimal (number_in 5 m) ∷
    codes " flags " ∷ decimal (number_in 6 m) ∷
    codes " tos " ∷ decimal (number_in 7 m) ∷ [])

-- the same of IPv6, with the priority
unfoldable pub ipv6_front : Trees → List ℕ
ipv6_front m = concat (
    codes "  ipv6 length " ∷ decimal (number_in 0 m) ∷
    codes " protocol " ∷ decimal (number_in 1 m) ∷
    codes " src " ∷ grouped (bytes_in 2 m) ∷
    codes " dst " ∷ grouped (bytes_in 3 m) ∷
    codes " sport " ∷ decimal (number_in 4 m) ∷
    codes " dport " ∷ decimal (number_in 5 m) ∷
    codes " flags " ∷ decimal (number_in 6 m) ∷
    codes " priority " ∷ decimal (number_in 7 m) ∷ [])

-- source VLAN and priority, destination VLAN and priority
unfoldable pub switch_front : Trees → List ℕ
switch_front m = concat (
    codes "  switch src " ∷ decimal (number_in 0 m) ∷ codes "/" ∷ decimal (number_in 1 m) ∷
    codes " dst " ∷ decimal (number_in 2 m) ∷ codes "/" ∷ decimal (number_in 3 m) ∷ [])

-- next hop, source mask length, destination mask length
unfoldable pub router_front : Trees → List ℕ
router_front m = concat (
    codes "  router nexthop " ∷ address_text (address_in (member 0 m)) ∷
    codes " src " ∷ decimal (number_in 1 m) ∷
    codes " dst " ∷ decimal (number_in 2 m) ∷ [])

-- next hop, AS, source AS, source peer AS
unfoldable pub route_text : Trees → List ℕ
route_text m = concat (
    codes "  gateway nexthop " ∷ address_text (address_in (member 0 m)) ∷
    codes " as " ∷ decimal (number_in 1 m) ∷
    codes " src " ∷ decimal (number_in 2 m) ∷
    codes " peer " ∷ decimal (number_in 3 m) ∷ [])

-- the same, and then path, communities, local preference
unfoldable pub gateway_front : Trees → List ℕ
gateway_front m = concat (
    route_text m ∷
    codes " path " ∷ path_text (values_of (member 4 m)) ∷
    codes " communities " ∷ list_text (values_of (member 5 m)) ∷
    codes " localpref " ∷ decimal (number_in 6 m) ∷ [])
