use Rattle.std.proofs.Common.{◌++◌, length, ap, refl}
use Rattle.wire_spec.specs.declared.pad.Pad.TheVariants.{Any}
use Rattle.wire_spec.proofs.OneReading.{whole_taken, whole_refused}
use Rattle.datagram_core.specs.Tables.{datagram_read}
use Rattle.show_lines.specs.Lines.{entry_line}
use Rattle.show_lines.specs.Shown.{entry_text, received_text, outcome_of, outcome_text}
use Rattle.show_lines.proofs.Apart.{no_fault_line}
use Rattle.show_lines.proofs.laws.shown_as_the_grammar_says.Goals as goal

pub returns-clause-fault : goal.returns-clause-fault
unfolding entry_text outcome_of
returns-clause-fault c = λ number e f fails.
    ap (λ o. entry_line number e.arrival (length e.bytes) ++ outcome_text o)
    (whole_refused Any datagram_read e.bytes f fails)

pub returns-clause-datagram : goal.returns-clause-datagram
unfolding entry_text outcome_of
returns-clause-datagram c = λ number e t spells.
    ap (λ o. entry_line number e.arrival (length e.bytes) ++ outcome_text o)
    (whole_taken Any datagram_read e.bytes t spells)

pub returns-clause-apart : goal.returns-clause-apart
returns-clause-apart c = λ t f e. no_fault_line t f e

pub returns-clause-unsent : goal.returns-clause-unsent
unfolding entry_text received_text
returns-clause-unsent c = λ number e. refl

pub returns-clause-sent : goal.returns-clause-sent
unfolding received_text
returns-clause-sent c = λ number e from. refl
