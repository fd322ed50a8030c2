use Rattle.command_words.proofs.CommandReading.{asked_read, one_asked, read_asks, rules_fine}
use Rattle.command_words.proofs.laws.commands_are_spelled.Goals as goal

pub returns-clause-rules : goal.returns-clause-rules
returns-clause-rules c name = rules_fine name

pub returns-clause-asks : goal.returns-clause-asks
returns-clause-asks c words command =
    (λ read. read_asks words command read, λ asks. asked_read words asks.0 command asks.1)

pub returns-clause-one : goal.returns-clause-one
returns-clause-one c words pieces others command other a b = one_asked words pieces others command other a b
