use Rattle.std.proofs.Common.{length, ◌≤◌, subst, sym, arith}
use Rattle.wire_spec.specs.Bytes.{AreBytes}
use Rattle.wire_spec.specs.Fails.{Remaining}
use Rattle.xdr_words.specs.Readers.{Reader, remaining}
use Rattle.data_format.specs.Parts.{Parts}
use Rattle.datagram_core.specs.Heads.{head_of, head_trees}
use Rattle.datagram_core.specs.Tables.{samples_read}
use Rattle.datagram_core.proofs.Again.{short_tree}
use Rattle.datagram_core.proofs.Counts.{few_samples}
use Rattle.datagram_core.proofs.datagram.parse_parts.Goals as goal

pub invariant_of-result : goal.invariant_of-result
invariant_of-result c =
    let cursor = c.new-cursor.result in
    let read = c.in_ok-head in
    let Few : Reader → Type 0 = λ r. AreBytes r.bytes × (length r.bytes ≤ 65535) in
    let few : Few cursor = subst Few (sym c.new-cursor.ensures)
    (λ i. omega (arith, c.type_inv.bytes i), omega (arith, c.if-bytes-gt-MAX_DATAGRAM.false)) in
    let parts : Parts × Remaining =
    ((head_trees (head_of read.head), read.samples), remaining c.read_parts.new.cursor) in (
      few_samples c.args.pad samples_read (remaining cursor) parts few.0 few.1 read.ensures.0,
      short_tree c.args.pad samples_read (remaining cursor) parts few.0 few.1 read.ensures.0,
    )
