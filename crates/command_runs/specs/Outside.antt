-- What the outside of a run shows.
use Rattle.byte_ends.specs.Seen.{Seen}

-- what the source has left, and what the sink took
pub record Outside : Type 0 where
  pub source : Seen
  pub sink : Seen

-- what these two show
abbrev pub outside : Seen → Seen → Outside
outside source sink = record { source = source; sink = sink }
