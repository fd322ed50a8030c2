use Rattle.wire_spec.specs.Tables.{agent_address}
use Rattle.wire_spec.proofs.Grammar.{agrees}
use Rattle.xdr_words.proofs.Said.{says_value, says_fault}
use Rattle.data_format.proofs.address.Address.read.Goals as goal

pub returns-clause-spelled : goal.returns-clause-spelled
returns-clause-spelled c =
    says_value _ _ _ _ _ (agrees c.args.cursor.now.pad agent_address) _ _
    c.take.result c.at-at.ensures.bytes c.take.ensures

pub returns-clause-fault : goal.returns-clause-fault
returns-clause-fault c =
    says_fault _ _ _ _ _ (agrees c.args.cursor.now.pad agent_address) _ _
    c.take.result c.at-at.ensures.bytes c.take.ensures
