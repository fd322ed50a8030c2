use Rattle.datagram_core.specs.declared.records.RecordKind.TheVariants as kinds
use Rattle.datagram_core.proofs.Filling.{is_open_for, one_kind}
use Rattle.sub_agents.proofs.writing.add_vlan.Goals as goal

pub add_record-requires-clause-open : goal.add_record-requires-clause-open
add_record-requires-clause-open c = is_open_for kinds.Flow c.args.writer.now c.requires.kind

pub add_record-requires-clause-kind : goal.add_record-requires-clause-kind
add_record-requires-clause-kind c = λ kind begun. one_kind kinds.Flow kind c.args.writer.now c.requires.kind begun
