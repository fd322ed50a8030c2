use Rattle.std.proofs.Common.{length, ap, arith}
use Rattle.wire_spec.specs.Shapes.{Tree}
use Rattle.wire_spec.specs.Spelling.{spell}
use Rattle.datagram_core.specs.declared.records.RecordKind.TheVariants as kinds
use Rattle.datagram_core.proofs.Filling.{is_open_for, one_kind}
use Rattle.sub_agents.proofs.Appends.{header-tree, filled-as}
use Rattle.sub_agents.proofs.writing.add_header.Goals as goal

pub add_record-requires-clause-open : goal.add_record-requires-clause-open
add_record-requires-clause-open c = is_open_for kinds.Flow c.args.writer.now c.requires.kind

pub add_record-requires-clause-kind : goal.add_record-requires-clause-kind
add_record-requires-clause-kind c = λ kind begun. one_kind kinds.Flow kind c.args.writer.now c.requires.kind begun

pub add_record-requires-clause-room : goal.add_record-requires-clause-room
add_record-requires-clause-room c =
    let same = header-tree c.args.flow.now c.as_slice-header.result.now c.as_slice-header.ensures.value in
    omega (arith, c.requires.room, ap (λ (t : Tree). length (spell t)) same)

pub returns : goal.returns
returns c =
    filled-as c.args.writer.now c.add_record.new.writer _ _
    (header-tree c.args.flow.now c.as_slice-header.result.now c.as_slice-header.ensures.value) c.add_record.ensures
