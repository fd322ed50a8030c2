use Rattle.std.proofs.Common.{subst, arith}
use Rattle.wire_spec.specs.Shapes.{Tree}
use Rattle.datagram_core.specs.Written.{and_then, begun_flow, with_record}
use Rattle.datagram_core.specs.Writers.{Has}
use Rattle.datagram_core.specs.declared.records.RecordKind.TheVariants as kinds
use Rattle.datagram_core.proofs.Filling.{same_room}
use Rattle.sub_agents.specs.Staged.{header_value}
use Rattle.sub_agents.specs.Written.{with_vlan}
use Rattle.sub_agents.specs.declared.staged.StagedFlow.{StagedFlow}
use Rattle.sub_agents.proofs.Appends.{grown, flow-parts, flow-closed}
use Rattle.sub_agents.proofs.writing.write_flow.Goals as goal

pub begin_flow-requires-clause-room : goal.begin_flow-requires-clause-room
begin_flow-requires-clause-room c = omega (arith, c.requires.room, flow-parts c.args.form c.args.flow.now)

pub add_header-requires-clause-room : goal.add_header-requires-clause-room
add_header-requires-clause-room c =
    omega (arith, c.requires.room, flow-parts c.args.form c.args.flow.now, c.begin_flow.ensures.grows.left)

pub add_vlan-requires-clause-kind : goal.add_vlan-requires-clause-kind
add_vlan-requires-clause-kind c = c.add_header.ensures.kind kinds.Flow c.begin_flow.ensures.kind

pub add_vlan-requires-clause-room : goal.add_vlan-requires-clause-room
add_vlan-requires-clause-room c = omega (
  arith,
  c.requires.room,
  flow-parts c.args.form c.args.flow.now,
  c.begin_flow.ensures.grows.left,
  c.add_header.ensures.grows.left,
)

pub returns : goal.returns
returns c =
    let form = c.args.form in
    let s : StagedFlow = c.args.flow.now in
    let w = c.args.writer.now in
    let a = c.begin_flow.new.writer in
    let b = c.add_header.new.writer in
    let d = c.add_vlan.new.writer in
    let e = c.end_sample.new.writer in
    record {
      room = same_room w a e (grown w a _ c.begin_flow.ensures.grows)
          (same_room a b e (grown a b _ c.add_header.ensures.grows)
          (same_room b d e c.add_vlan.ensures.room c.end_sample.ensures.room));
      closed = c.end_sample.ensures.closed;
      has = λ h samples begun.
          subst (λ (t : Tree). Has e h (and_then samples t)) (flow-closed form s.head (header_value s) s.vlan)
          (c.end_sample.ensures.has h samples (with_vlan (with_record (begun_flow form s.head) (header_value s)) s.vlan)
          (c.add_vlan.ensures.filled h samples (with_record (begun_flow form s.head) (header_value s))
          (c.add_header.ensures.has h samples (begun_flow form s.head) (c.begin_flow.ensures.begun h samples begun))));
      left = omega (
        arith,
        flow-parts form s,
        c.begin_flow.ensures.grows.left,
        c.add_header.ensures.grows.left,
        c.add_vlan.ensures.left,
        c.end_sample.ensures.left,
      );
    }
