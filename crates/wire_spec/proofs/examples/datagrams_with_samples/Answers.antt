use Rattle.std.proofs.Common.{refl}
use Rattle.wire_spec.specs.declared.pad.Pad.TheVariants.{Any, Zero}
use Rattle.wire_spec.specs.Shapes.{none, ◌&◌, segment}
use Rattle.wire_spec.specs.Fails.{short, bad_padding, unknown_word}
use Rattle.wire_spec.specs.Heads.{datagram_tree}
use Rattle.wire_spec.specs.Examples.{
  example_head,
  flow_tree,
  flow_datagram,
  cut_record,
  padded_header,
  padded_header_tree,
  gateway_datagram,
}
use Rattle.wire_spec.specs.RecordExamples.{every_record, every_record_tree}
use Rattle.wire_spec.proofs.Computed.{is_datagram, is_fault}
use Rattle.wire_spec.proofs.examples.datagrams_with_samples.Goals as goal

pub returns-clause-flow : goal.returns-clause-flow
returns-clause-flow c = is_datagram Zero flow_datagram (datagram_tree (example_head 1) (flow_tree none & none)) refl refl

pub returns-clause-cut_in_a_body : goal.returns-clause-cut_in_a_body
returns-clause-cut_in_a_body c = is_fault Any cut_record (short 76 8 0) refl refl

pub returns-clause-padding_is_free : goal.returns-clause-padding_is_free
returns-clause-padding_is_free c = is_datagram Any padded_header padded_header_tree refl refl

pub returns-clause-padding_is_zero : goal.returns-clause-padding_is_zero
returns-clause-padding_is_zero c = is_fault Zero padded_header (bad_padding 157) refl refl

pub returns-clause-segment_kind : goal.returns-clause-segment_kind
returns-clause-segment_kind c = is_fault Any (gateway_datagram 3) (unknown_word segment 100 3) refl refl

pub returns-clause-every_record : goal.returns-clause-every_record
returns-clause-every_record c = is_datagram Zero every_record every_record_tree refl refl
