-- Places of samples, as the definitions have them.
use Rattle.std.specs.Prelude.{Option, option_map, pos}
use Rattle.books_spec.specs.declared.sample_place.SamplePlace.{SamplePlace}
use Rattle.trial_premises.specs.declared.places.TruePlace.{TruePlace}

abbrev pub place_shown : TruePlace → SamplePlace
place_shown p = record { datagram = pos p.datagram; index = p.index }

abbrev pub opener_shown : Option TruePlace → Option SamplePlace
opener_shown p = option_map place_shown p
