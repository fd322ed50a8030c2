use Rattle.std.proofs.Common.{refl}
use Rattle.wire_spec.specs.Shapes.{Tree}
use Rattle.data_format.specs.Trees.{frame_trees}
use Rattle.data_format.proofs.Values.{format_of-word, address_in-tree, head_in-tree, flow_head_in-trees, counters_head_in-trees, flow_records_in-trees, counter_records_in-trees}
use Rattle.data_format.proofs.value_laws.values_have_their_parts.Goals as goal

pub returns : goal.returns
returns c = record {
  address = address_in-tree;
  format = format_of-word;
  head = head_in-tree;
  samples = λ h samples. refl;
  flow_head = λ form T s fits. flow_head_in-trees form s.head (Tree.array (frame_trees T s.frames)) fits;
  flow_records = λ form T s. flow_records_in-trees form s.head (frame_trees T s.frames);
  counters_head = λ form T s fits. counters_head_in-trees form s.head (Tree.array (frame_trees T s.frames)) fits;
  counter_records = λ form T s. counter_records_in-trees form s.head (frame_trees T s.frames);
}
