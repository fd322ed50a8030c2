use Rattle.std.proofs.Common.{◌^◌, ◌<◌, ◌≤◌, ◌∙◌, length, sym, ap, arith}
use Rattle.wire_spec.specs.Heads.{address_tree}
use Rattle.wire_spec.specs.Shapes.{Tree, count_of}
use Rattle.wire_spec.specs.Spelling.{spell, spell_all, padded}
use Rattle.data_format.specs.Addresses.{address_of}
use Rattle.as_paths.specs.WordLists.{word_trees}
use Rattle.as_paths.proofs.Arrays.{count-trees}
use Rattle.as_paths.proofs.WordSpellings.{unpadded}
use Rattle.rec_more.proofs.Bodies.{mpls_fields}
use Rattle.rec_more.proofs.mpls.MplsRec.items.Goals as goal

pub returns : goal.returns
returns c =
    let r = c.args.self.now in
    let address = c.address_parts-nexthop in
    let in_stack = c.bytes-in_stack.result.now in
    let out_stack = c.bytes-out_stack.result.now in
    let spelled = mpls_fields address.result.kind (padded address.result.bytes.now) (spell (address_tree (address_of r.nexthop)))
    c.len-came_in.result (count_of (word_trees r.in_stack)) (padded in_stack) (spell_all (word_trees r.in_stack))
    c.len-went_out.result (count_of (word_trees r.out_stack)) (padded out_stack) (spell_all (word_trees r.out_stack))
    address.ensures.spelled
    (c.len-came_in.ensures ∙ sym (count-trees (λ n. Tree.word n) r.in_stack))
    (unpadded in_stack c.bytes-in_stack.ensures.whole ∙ sym c.bytes-in_stack.ensures.spelled)
    (c.len-went_out.ensures ∙ sym (count-trees (λ n. Tree.word n) r.out_stack))
    (unpadded out_stack c.bytes-out_stack.ensures.whole ∙ sym c.bytes-out_stack.ensures.spelled) in
    let hop_fits : length address.result.bytes.now ≤ 65535 = omega (arith, address.ensures.most) in
    let in_fits : length in_stack ≤ 65535 = omega (arith, c.requires.0, ap length c.bytes-in_stack.ensures.spelled) in
    let out_fits : length out_stack ≤ 65535 = omega (arith, c.requires.1, ap length c.bytes-out_stack.ensures.spelled) in
    let in_count : count_of (word_trees r.in_stack) < 2 ^ 32 =
    omega (arith, c.len-came_in.ensures, count-trees (λ n. Tree.word n) r.in_stack) in
    let out_count : count_of (word_trees r.out_stack) < 2 ^ 32 =
    omega (arith, c.len-went_out.ensures, count-trees (λ n. Tree.word n) r.out_stack) in (
      spelled,
      (tt, (hop_fits, (tt, (in_fits, (tt, (out_fits, tt)))))),
      (
        address.ensures.lawful,
        ((in_count, c.bytes-in_stack.ensures.lawful), ((out_count, c.bytes-out_stack.ensures.lawful), tt)),
      ),
    )
