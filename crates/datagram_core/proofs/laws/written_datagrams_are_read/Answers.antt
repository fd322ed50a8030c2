use Rattle.wire_spec.specs.Heads.{datagram_tree}
use Rattle.wire_spec.specs.Spelling.{spell}
use Rattle.wire_spec.proofs.OneReading.{whole_taken}
use Rattle.wire_spec.proofs.Spellings.{lawful_spelled}
use Rattle.datagram_core.specs.Tables.{datagram_read}
use Rattle.datagram_core.proofs.laws.written_datagrams_are_read.Goals as goal

pub returns : goal.returns
returns c = λ p h samples lawful few.
    let t = datagram_tree h samples in
    whole_taken p datagram_read (spell t) t (few, lawful_spelled p datagram_read t lawful)
