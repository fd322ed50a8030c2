-- The counters that a poll reads of an interface (sFlow Version 5, section 5, generic interface counters): index, type,
-- speed, direction and status stand before the counters of what came in and of what went out.
use Rattle.wire_spec.specs.Shapes.{Tree, Trees}
use Rattle.data_format.specs.Values.{members_of, number_in}
use Rattle.books_spec.specs.InterfaceRise.{InterfaceCounters}

abbrev pub counters_among : Trees → InterfaceCounters
counters_among members = record {
  in_octets = number_in 5 members;
  in_ucast = number_in 6 members;
  in_multicast = number_in 7 members;
  in_broadcast = number_in 8 members;
  in_discards = number_in 9 members;
  in_errors = number_in 10 members;
  in_unknown = number_in 11 members;
  out_octets = number_in 12 members;
  out_ucast = number_in 13 members;
  out_multicast = number_in 14 members;
  out_broadcast = number_in 15 members;
  out_discards = number_in 16 members;
  out_errors = number_in 17 members;
}

abbrev pub counters_in : Tree → InterfaceCounters
counters_in reading = counters_among (members_of reading)
