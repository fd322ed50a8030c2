-- What contracts see of a record: the value of its fields, and its tail.
use Rattle.wire_spec.specs.Shapes.{Tree, none, ◌&◌}
use Rattle.data_format.specs.Records.{Content}
use Rattle.rec_extended.specs.declared.switch.SwitchRec.{SwitchRec}

abbrev pub switch_content : SwitchRec → Content
switch_content r = (
  Tree.structure (
      Tree.word r.src_vlan & Tree.word r.src_priority & Tree.word r.dst_vlan & Tree.word r.dst_priority &
      none),
  r.tail.now,
)
