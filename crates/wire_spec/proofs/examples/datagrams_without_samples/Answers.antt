use Rattle.std.proofs.Common.{[], ◌∷◌, ◌++◌, take, refl}
use Rattle.wire_spec.specs.declared.pad.Pad.TheVariants.{Any, Zero}
use Rattle.wire_spec.specs.Shapes.{none, version, address}
use Rattle.wire_spec.specs.Fails.{short, unknown_word}
use Rattle.wire_spec.specs.Whole.{trailing}
use Rattle.wire_spec.specs.Heads.{datagram_tree}
use Rattle.wire_spec.specs.Examples.{words, example_head, empty_datagram}
use Rattle.wire_spec.proofs.Computed.{is_datagram, is_fault}
use Rattle.wire_spec.proofs.examples.datagrams_without_samples.Goals as goal

pub returns-clause-whole : goal.returns-clause-whole
returns-clause-whole c = is_datagram Zero (empty_datagram 1) (datagram_tree (example_head 1) none) refl refl

pub returns-clause-cut : goal.returns-clause-cut
returns-clause-cut c = is_fault Any (take 27 (empty_datagram 1)) (short 24 4 3) refl refl

pub returns-clause-no_bytes : goal.returns-clause-no_bytes
returns-clause-no_bytes c = is_fault Any [] (short 0 4 0) refl refl

pub returns-clause-other_version : goal.returns-clause-other_version
returns-clause-other_version c =
    is_fault Any (words (4 ∷ 1 ∷ 0x0a000001 ∷ 0 ∷ 1 ∷ 1000 ∷ 0 ∷ [])) (unknown_word version 0 4) refl refl

pub returns-clause-other_address : goal.returns-clause-other_address
returns-clause-other_address c =
    is_fault Any (words (5 ∷ 3 ∷ 0x0a000001 ∷ 0 ∷ 1 ∷ 1000 ∷ 0 ∷ [])) (unknown_word address 4 3) refl refl

pub returns-clause-more_bytes : goal.returns-clause-more_bytes
returns-clause-more_bytes c = is_fault Any (empty_datagram 1 ++ 0 ∷ 0 ∷ 0 ∷ 0 ∷ []) (trailing 28 4) refl refl
