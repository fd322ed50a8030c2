use Rattle.std.proofs.Common.{◌^◌, ◌<◌, ◌≤◌, ◌∙◌, length, sym, ap, arith}
use Rattle.wire_spec.specs.Heads.{address_tree}
use Rattle.wire_spec.specs.Shapes.{Tree, count_of}
use Rattle.wire_spec.specs.Spelling.{spell, spell_all, padded}
use Rattle.data_format.specs.Addresses.{address_of}
use Rattle.as_paths.specs.Paths.{segment_tree, segment_trees}
use Rattle.as_paths.specs.WordLists.{word_trees}
use Rattle.as_paths.proofs.WordSpellings.{unpadded}
use Rattle.rec_extended.proofs.Bodies.{gateway_fields}
use Rattle.as_paths.proofs.Arrays.{count-trees}
use Rattle.rec_extended.proofs.gateway.GatewayRec.items.Goals as goal

pub returns : goal.returns
returns c =
    let r = c.args.self.now in
    let address = c.address_parts-nexthop in
    let path = c.bytes-path.result.now in
    let communities = c.bytes-communities.result.now in
    let spelled = gateway_fields address.result.kind (padded address.result.bytes.now) (spell (address_tree (address_of r.nexthop)))
    r.as_number r.src_as r.src_peer_as
    c.len-segments.result (count_of (segment_trees r.path)) (padded path) (spell_all (segment_trees r.path))
    c.len-numbers.result (count_of (word_trees r.communities)) (padded communities) (spell_all (word_trees r.communities))
    r.localpref address.ensures.spelled
    (c.len-segments.ensures ∙ sym (count-trees segment_tree r.path))
    (unpadded path c.bytes-path.ensures.whole ∙ sym c.bytes-path.ensures.spelled)
    (c.len-numbers.ensures ∙ sym (count-trees (λ n. Tree.word n) r.communities))
    (unpadded communities c.bytes-communities.ensures.whole ∙ sym c.bytes-communities.ensures.spelled) in
    let hop_fits : length address.result.bytes.now ≤ 65535 = omega (arith, address.ensures.most) in
    let path_fits : length path ≤ 65535 = omega (arith, c.requires.0, ap length c.bytes-path.ensures.spelled) in
    let communities_fit : length communities ≤ 65535 =
    omega (arith, c.requires.1, ap length c.bytes-communities.ensures.spelled) in
    let segments : count_of (segment_trees r.path) < 2 ^ 32 =
    omega (arith, c.len-segments.ensures, count-trees segment_tree r.path) in
    let numbers : count_of (word_trees r.communities) < 2 ^ 32 =
    omega (arith, c.len-numbers.ensures, count-trees (λ n. Tree.word n) r.communities) in
    let n = c.numbers.ensures in (
      spelled,
      (tt, (hop_fits, (tt, (tt, (tt, (tt, (path_fits, (tt, (communities_fit, (tt, tt)))))))))),
      (
        address.ensures.lawful,
        (
          n.as_number,
          (
            n.src_as,
            (
              n.src_peer_as,
              ((segments, c.bytes-path.ensures.lawful), ((numbers, c.bytes-communities.ensures.lawful), (n.localpref, tt))),
            ),
          ),
        ),
      ),
    )
