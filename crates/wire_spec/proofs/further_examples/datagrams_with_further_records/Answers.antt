use Rattle.std.proofs.Common.{[], refl}
use Rattle.wire_spec.specs.declared.pad.Pad.TheVariants.{Any, Zero}
use Rattle.wire_spec.specs.Shapes.{address}
use Rattle.wire_spec.specs.Fails.{short, bad_padding, unknown_word}
use Rattle.wire_spec.specs.FurtherExamples.{tail_bytes, user_record, user_with_tail, user_tree, url_record, url_with_tail, url_tree, mpls_record, mpls_with_tail, mpls_tree, nat_record, nat_with_tail, nat_tree, processor_with_tail, cut_processor, processor_tree}
use Rattle.wire_spec.proofs.Computed.{is_datagram, is_fault}
use Rattle.wire_spec.proofs.further_examples.datagrams_with_further_records.Goals as goal

pub returns-clause-user : goal.returns-clause-user
returns-clause-user c = is_datagram Zero (user_record 0x61626300) (user_tree []) refl refl

pub returns-clause-user_tail : goal.returns-clause-user_tail
returns-clause-user_tail c = is_datagram Zero user_with_tail (user_tree tail_bytes) refl refl

pub returns-clause-user_padding_is_free : goal.returns-clause-user_padding_is_free
returns-clause-user_padding_is_free c = is_datagram Any (user_record 0x61626301) (user_tree []) refl refl

pub returns-clause-user_padding_is_zero : goal.returns-clause-user_padding_is_zero
returns-clause-user_padding_is_zero c = is_fault Zero (user_record 0x61626301) (bad_padding 87) refl refl

pub returns-clause-url : goal.returns-clause-url
returns-clause-url c = is_datagram Zero (url_record 3) (url_tree []) refl refl

pub returns-clause-url_tail : goal.returns-clause-url_tail
returns-clause-url_tail c = is_datagram Zero url_with_tail (url_tree tail_bytes) refl refl

pub returns-clause-url_fault : goal.returns-clause-url_fault
returns-clause-url_fault c = is_fault Any (url_record 8) (short 92 8 4) refl refl

pub returns-clause-mpls : goal.returns-clause-mpls
returns-clause-mpls c = is_datagram Zero (mpls_record 1) (mpls_tree []) refl refl

pub returns-clause-mpls_tail : goal.returns-clause-mpls_tail
returns-clause-mpls_tail c = is_datagram Zero mpls_with_tail (mpls_tree tail_bytes) refl refl

pub returns-clause-mpls_fault : goal.returns-clause-mpls_fault
returns-clause-mpls_fault c = is_fault Any (mpls_record 3) (short 96 4 0) refl refl

pub returns-clause-nat : goal.returns-clause-nat
returns-clause-nat c = is_datagram Zero (nat_record 1) (nat_tree []) refl refl

pub returns-clause-nat_tail : goal.returns-clause-nat_tail
returns-clause-nat_tail c = is_datagram Zero nat_with_tail (nat_tree tail_bytes) refl refl

pub returns-clause-nat_fault : goal.returns-clause-nat_fault
returns-clause-nat_fault c = is_fault Any (nat_record 3) (unknown_word address 76 3) refl refl

pub returns-clause-processor_tail : goal.returns-clause-processor_tail
returns-clause-processor_tail c = is_datagram Zero processor_with_tail (processor_tree tail_bytes) refl refl

pub returns-clause-processor_fault : goal.returns-clause-processor_fault
returns-clause-processor_fault c = is_fault Any cut_processor (short 76 8 4) refl refl
