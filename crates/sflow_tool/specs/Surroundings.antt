-- What all that a run may use shows, and runs that use the source and the sink alone.
use Rattle.std.specs.Prelude.{◌≡◌}
use Rattle.byte_ends.specs.Seen.{Seen}
use Rattle.datagram_links.specs.Links.{LinkSeen}
use Rattle.report_lines.specs.HeaderLines.{ShownTaps}
use Rattle.command_runs.specs.declared.status.Status.{Status}
use Rattle.command_runs.specs.Acts.{Act}
use Rattle.command_runs.specs.Grammars.{Grammar}
use Rattle.command_runs.specs.Outside.{Outside, outside}
use Rattle.command_runs.specs.Runs.{Runs}

-- what the source and the sink show, what the link shows, and what the consumers show
pub record Surroundings : Type 0 where
  pub ends : Outside
  pub link : LinkSeen
  pub taps : ShownTaps

-- what these four show
abbrev pub surroundings : Seen → Seen → LinkSeen → ShownTaps → Surroundings
surroundings source sink link taps = record { ends = outside source sink; link = link; taps = taps }

-- a run from the source to the sink, which leaves the link and the consumers as they were
pub record RunsBetween {X : Type 0} (g : Grammar X) (a : Act X) (before after : Surroundings) (status : Status) : Type 0 where
  pub ran : Runs g a before.ends after.ends status
  pub link_kept : after.link ≡ before.link
  pub taps_kept : after.taps ≡ before.taps

-- a run from the source to the sink that writes what the consumers show behind it, and leaves the link as it was
pub record RunsCollecting {X : Type 0} (g : Grammar X) (a : ShownTaps → Act X) (before after : Surroundings)
    (status : Status) : Type 0 where
  pub ran : Runs g (a after.taps) before.ends after.ends status
  pub link_kept : after.link ≡ before.link
