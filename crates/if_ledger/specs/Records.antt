-- The thirteen counters of a record of interface counters, in the words of the books.
use Rattle.std.specs.Prelude.{ℕ}
use Rattle.rec_counters.specs.declared.interface.IfCounters.{IfCounters}
use Rattle.books_spec.specs.InterfaceRise.{InterfaceCounters}

abbrev pub counters_in : IfCounters → InterfaceCounters
counters_in r = record {
  in_octets = r.in_octets;
  in_ucast = r.in_ucast;
  in_multicast = r.in_multicast;
  in_broadcast = r.in_broadcast;
  in_discards = r.in_discards;
  in_errors = r.in_errors;
  in_unknown = r.in_unknown;
  out_octets = r.out_octets;
  out_ucast = r.out_ucast;
  out_multicast = r.out_multicast;
  out_broadcast = r.out_broadcast;
  out_discards = r.out_discards;
  out_errors = r.out_errors;
}

-- a counter of 32 bits goes on from its modulus less 1 to 0, and one of 64 bits from its own
abbrev pub modulus_32 : ℕ
modulus_32 = 4294967296

abbrev pub modulus_64 : ℕ
modulus_64 = 18446744073709551616
