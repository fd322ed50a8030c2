-- What contracts see of the records of routes.
use Rattle.std.specs.Prelude.{ℕ, ◌+◌, ◌≤◌, List, length}
use Rattle.wire_spec.specs.Shapes.{Tree, none, ◌&◌}
use Rattle.wire_spec.specs.Heads.{address_tree}
use Rattle.wire_spec.specs.Spelling.{spell, spell_all}
use Rattle.data_format.specs.Addresses.{address_of}
use Rattle.data_format.specs.Ranges.{IsRange}
use Rattle.data_format.specs.Records.{Content}
use Rattle.rec_extended.specs.declared.router.RouterRec.{RouterRec}
use Rattle.rec_extended.specs.declared.gateway.GatewayHead.{GatewayHead}
use Rattle.rec_extended.specs.declared.gateway.GatewayRec.{GatewayRec}
use Rattle.as_paths.specs.declared.segment.Segment.{Segment}
use Rattle.as_paths.specs.WordLists.{word_trees}
use Rattle.as_paths.specs.Paths.{segment_trees}

abbrev pub router_content : RouterRec → Content
router_content r = (
  Tree.structure (
      address_tree (address_of r.nexthop) & Tree.word r.src_mask & Tree.word r.dst_mask & none),
  r.tail.now,
)

-- ---- the gateway

abbrev pub path_of : GatewayRec → List Segment
path_of r = r.path

abbrev pub communities_of : GatewayRec → List ℕ
communities_of r = r.communities

abbrev pub head_of : GatewayRec → GatewayHead
head_of r = record {
  nexthop = r.nexthop;
  as_number = r.as_number;
  src_as = r.src_as;
  src_peer_as = r.src_peer_as;
  localpref = r.localpref;
}

-- what a gateway of these parts is
abbrev pub gateway_parts : GatewayHead → List Segment → List ℕ → List ℕ → Content
gateway_parts h path communities tail = (
  Tree.structure (
      address_tree (address_of h.nexthop) & Tree.word h.as_number & Tree.word h.src_as & Tree.word h.src_peer_as &
      Tree.array (segment_trees path) & Tree.array (word_trees communities) & Tree.word h.localpref & none),
  tail,
)

abbrev pub gateway_content : GatewayRec → Content
gateway_content r = gateway_parts (head_of r) (path_of r) (communities_of r) r.tail.now

-- the bytes of the path, and those of the communities, are at most 65,535
abbrev pub AreShortLists : GatewayRec → Type 0
AreShortLists r = (length (spell_all (segment_trees (path_of r))) ≤ 65535)
    × (length (spell_all (word_trees (communities_of r))) ≤ 65535)

-- the path stands behind the next hop, three AS numbers and its count
abbrev pub place_of_path : GatewayRec → ℕ
place_of_path r = length (spell (address_tree (address_of r.nexthop))) + 16

-- and the communities behind the path and their count
abbrev pub place_of_communities : GatewayRec → ℕ
place_of_communities r = place_of_path r + length (spell_all (segment_trees (path_of r))) + 4

-- the segments and the communities are the ranges of the body at their places
abbrev pub HasLists : List ℕ → GatewayRec → Type 0
HasLists body r = IsRange body (place_of_path r) (spell_all (segment_trees (path_of r)))
    × IsRange body (place_of_communities r) (spell_all (word_trees (communities_of r)))
