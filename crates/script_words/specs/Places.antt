-- What a source that was read is in the words of scripts.
use Rattle.data_format.specs.declared.source.SourceId.{SourceId}
use Rattle.script_spec.specs.Values.{Place}

abbrev pub place_of : SourceId → Place
place_of id = record { class = id.class; index = id.index }
