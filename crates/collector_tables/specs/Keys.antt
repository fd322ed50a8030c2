-- Streams and sources as the definitions have them.
use Rattle.std.specs.Prelude.{ℕ, ◌<◌, ◌==◌, ◌&&◌, Bool, List, length, get_or}
use Rattle.wire_spec.specs.Heads.{unknown}
use Rattle.data_format.specs.Addresses.{address_of}
use Rattle.books_spec.specs.Items.{SourceId, Stream, Source}
use Rattle.books_spec.specs.Listing.{same_stream, same_id, AreDistinct}
use Rattle.collector_tables.specs.declared.keys.StreamKey.{StreamKey}
use Rattle.collector_tables.specs.declared.keys.SourceKey.{SourceKey}
use Rattle.collector_tables.specs.Kinds.{is_flow_kind}

abbrev pub stream_in : StreamKey → Stream
stream_in k = record { agent = address_of k.agent; sub_agent = k.sub_agent }

-- the stream at a place, from 0 on
abbrev pub stream_at : List Stream → ℕ → Stream
stream_at streams place = get_or streams place (record { agent = unknown; sub_agent = 0 })

abbrev pub id_in : SourceKey → SourceId
id_in k = record { flow = is_flow_kind k.kind; class = k.source.class; index = k.source.index }

-- the source of a key, where these streams stand at their places
abbrev pub source_in : List Stream → SourceKey → Source
source_in streams k = record { stream = stream_at streams k.stream; id = id_in k }

-- the same place, and the same within its stream
abbrev pub same_key : SourceKey → SourceKey → Bool
same_key a b = (a.stream == b.stream) && same_id (id_in a) (id_in b)

-- the streams differ, and that of the key is one of them: so keys of the same source are the same
pub record IsPlaced (streams : List Stream) (k : SourceKey) : Type 0 where
  pub distinct : AreDistinct same_stream streams
  pub place : k.stream < length streams
