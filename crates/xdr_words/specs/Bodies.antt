-- A body as contracts see it.
use Rattle.wire_spec.specs.Fails.{Remaining}
use Rattle.xdr_words.specs.declared.body.Body.{Body}

-- its place and its bytes
abbrev pub inside_of : Body → Remaining
inside_of b = record { at = b.at; bytes = b.bytes.now }
