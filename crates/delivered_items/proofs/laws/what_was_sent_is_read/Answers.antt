use Rattle.std.proofs.Common.{◌≡◌, ◌≤◌, length}
use Rattle.std.specs.Prelude.{Ok}
use Rattle.wire_spec.specs.declared.pad.Pad.TheVariants.{Any}
use Rattle.wire_spec.specs.Whole.{whole_reading}
use Rattle.datagram_core.specs.Tables.{datagram_read}
use Rattle.agent_spec.specs.Spelled.{sent_tree}
use Rattle.agent_spec.proofs.Lists.{all-imply}
use Rattle.account_spec.specs.Histories.{agent_of}
use Rattle.account_spec.specs.Deliveries.{Delivery, entry_of}
use Rattle.delivered_items.proofs.Read.{IsGood, all-good, read-again}
use Rattle.delivered_items.proofs.laws.what_was_sent_is_read.Goals as goal

pub returns-clause-few : goal.returns-clause-few
returns-clause-few c = λ history ds h k sent.
    all-imply (IsGood history) (λ (d : Delivery). length (entry_of history d).bytes ≤ 65535)
    (λ d g. g.readable_is.few) ds (all-good history ds h k sent)

pub returns-clause-read : goal.returns-clause-read
returns-clause-read c = λ history ds h k sent.
    all-imply (IsGood history)
    (λ (d : Delivery). whole_reading Any datagram_read (entry_of history d).bytes
    ≡ Ok (sent_tree (agent_of history d.stream).sender d.datagram))
    (λ d g. read-again history d g) ds (all-good history ds h k sent)
