use Rattle.std.specs.Prelude.{reverse}
use Rattle.script_spec.specs.Sent.{all_delivered}
use Rattle.script_histories.specs.Histories.{history_of, deliveries_of}
use Rattle.delivered_items.proofs.laws.scripts_are_read_as_delivered.Goals as goal

pub returns-clause-items : goal.returns-clause-items
returns-clause-items c = λ read reads lines r l.
    c.entries_are_the_deliveries.ensures read reads (history_of lines) (deliveries_of lines) (reverse (all_delivered lines)) r
    (c.scripts_are_histories.ensures.history lines l) (c.scripts_are_accepted.ensures lines l)
    (c.scripts_are_histories.ensures.entries lines l)

pub returns-clause-headers : goal.returns-clause-headers
returns-clause-headers c = λ read reads records headers all_headers lines r h l.
    c.headers_are_those_of_the_packets.ensures read reads records headers all_headers (history_of lines) (deliveries_of lines)
    (reverse (all_delivered lines)) r h
    (c.scripts_are_histories.ensures.history lines l) (c.scripts_are_accepted.ensures lines l)
    (c.scripts_are_histories.ensures.entries lines l)
