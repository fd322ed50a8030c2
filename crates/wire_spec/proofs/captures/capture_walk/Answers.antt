use Rattle.wire_spec.proofs.CaptureWalks.{walk_begins, walk_goes_on, walk_stops, walk_breaks}
use Rattle.wire_spec.proofs.captures.capture_walk.Goals as goal

pub returns-clause-begins : goal.returns-clause-begins
returns-clause-begins c = walk_begins

pub returns-clause-goes_on : goal.returns-clause-goes_on
returns-clause-goes_on c = walk_goes_on

pub returns-clause-stops : goal.returns-clause-stops
returns-clause-stops c = walk_stops

pub returns-clause-breaks : goal.returns-clause-breaks
returns-clause-breaks c = walk_breaks
