-- A table of sources, the samples for which it stands, the LATEST FIRST, and what came of each source in each boot of
-- its stream.
use Rattle.std.specs.Prelude.{◌≡◌, ℕ, ◌<◌, cond, List, [], ◌∷◌, length}
use Rattle.books_spec.specs.Items.{Stream, Source}
use Rattle.books_spec.specs.SourceViews.{PlacedReading}
use Rattle.books_spec.specs.Listing.{same_source, listed}
use Rattle.stream_books.specs.Sources.{StandsFor, is_flow, width_of}
use Rattle.stream_books.specs.declared.source.SourceRecord.{SourceRecord}
use Rattle.collector_tables.specs.declared.keys.SourceKey.{SourceKey}
use Rattle.collector_tables.specs.Keys.{source_in}
use Rattle.collector_tables.specs.Tables.{Each, Holds}

-- no boot has a reading
abbrev pub AreEmpty : {X : Type 0} → List (List X) → Type 0
AreEmpty [] = Unit {0}
AreEmpty (boot ∷ closed) = (boot ≡ []) × AreEmpty closed

-- the boots with one reading more in the current one
abbrev pub with_reading : PlacedReading → List (List PlacedReading) → List (List PlacedReading)
with_reading r [] = []
with_reading r (current ∷ closed) = (r ∷ current) ∷ closed

-- what came of each source, after one reading more of this one
abbrev pub after_reading : Source → PlacedReading → (Source → List (List PlacedReading)) → Source → List (List PlacedReading)
after_reading source r boots_of other = cond (same_source source other) (with_reading r (boots_of other)) (boots_of other)

-- what is kept of a source stands for what came of it
pub record SourceStands (width : ℕ) (boots_of : Source → List (List PlacedReading)) (source : Source) (s : SourceRecord) : Type 0 where
  pub kind : is_flow s ≡ source.id.flow
  pub width_is : width_of s ≡ width
  pub stands : StandsFor s (boots_of source)

-- the stream of each key is one of so many
abbrev pub ArePlaced : ℕ → List (SourceKey × SourceRecord) → Type 0
ArePlaced count entries = Each (λ (k : SourceKey). k) (λ k s. k.stream < count) entries

-- the table lists the first so many of the sources that arrived, and stands for what came of each; its keys are
-- those of the sources where these streams stand at their places
pub record SourcesStand (streams : List Stream) (limit width : ℕ) (entries : List (SourceKey × SourceRecord))
    (arrived : List Source) (boots_of : Source → List (List PlacedReading)) : Type 0 where
  pub placed : ArePlaced (length streams) entries
  pub table : Holds (source_in streams) (SourceStands width boots_of) entries (listed same_source limit arrived)
