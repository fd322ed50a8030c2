use Rattle.std.proofs.Common.{[], length, ap, subst, arith}
use Rattle.wire_spec.specs.Shapes.{Tree, known}
use Rattle.wire_spec.specs.Spelling.{spell}
use Rattle.rec_counters.specs.Contents.{interface_content}
use Rattle.datagram_core.specs.Written.{and_then, begun_counters, with_record}
use Rattle.datagram_core.specs.Writers.{Has}
use Rattle.datagram_core.specs.declared.records.RecordKind.TheVariants as kinds
use Rattle.datagram_core.proofs.Filling.{same_room, one_kind}
use Rattle.sub_agents.specs.Written.{Filled}
use Rattle.sub_agents.specs.declared.staged.StagedCounters.{StagedCounters}
use Rattle.sub_agents.proofs.Appends.{grown, counters-parts, counters-closed, counters-tree, filled-as}
use Rattle.sub_agents.proofs.writing.write_counters.Goals as goal

pub begin_counters-requires-clause-room : goal.begin_counters-requires-clause-room
begin_counters-requires-clause-room c = omega (arith, c.requires.room, counters-parts c.args.form c.args.sample.now)

pub add_record-requires-clause-kind : goal.add_record-requires-clause-kind
add_record-requires-clause-kind c = λ kind begun.
    one_kind kinds.Counters kind c.begin_counters.new.writer c.begin_counters.ensures.kind begun

pub add_record-requires-clause-slices : goal.add_record-requires-clause-slices
add_record-requires-clause-slices c = omega (arith, ap length c.requires.writable.1)

pub add_record-requires-clause-room : goal.add_record-requires-clause-room
add_record-requires-clause-room c =
    let s : StagedCounters = c.args.sample.now in
    omega (
      arith,
      c.requires.room,
      counters-parts c.args.form s,
      c.begin_counters.ensures.grows.left,
      ap (λ (t : Tree). length (spell t)) (counters-tree s.counters c.requires.writable.1),
    )

pub returns : goal.returns
returns c =
    let form = c.args.form in
    let s : StagedCounters = c.args.sample.now in
    let t : Tree = known 1 (interface_content s.counters).0 [] in
    let w = c.args.writer.now in
    let a = c.begin_counters.new.writer in
    let b = c.add_record.new.writer in
    let e = c.end_sample.new.writer in
    let filled : Filled a b t =
    filled-as a b _ t (counters-tree s.counters c.requires.writable.1) c.add_record.ensures in
    record {
      room = same_room w a e (grown w a _ c.begin_counters.ensures.grows)
          (same_room a b e (grown a b _ filled.grows) c.end_sample.ensures.room);
      closed = c.end_sample.ensures.closed;
      has = λ h samples begun.
          subst (λ (u : Tree). Has e h (and_then samples u)) (counters-closed form s.head t)
          (c.end_sample.ensures.has h samples (with_record (begun_counters form s.head) t)
          (filled.has h samples (begun_counters form s.head) (c.begin_counters.ensures.begun h samples begun)));
      left = omega (
        arith,
        counters-parts form s,
        c.begin_counters.ensures.grows.left,
        filled.grows.left,
        c.end_sample.ensures.left,
      );
    }
