use Rattle.std.proofs.Common.{[], arith}
use Rattle.flow_collector.proofs.Kept.{within-ranges}
use Rattle.flow_collector.proofs.Moves.{opened-stands}
use Rattle.flow_collector.proofs.books.Books.open_within.Goals as goal

pub invariant_of-result : goal.invariant_of-result
invariant_of-result c = record {
  within = within-ranges c.args.limits c.requires;
  items = [];
  stands = opened-stands c.args.limits c.in_ok-streams.streams c.in_ok-sources.sources c.in_ok-interfaces.interfaces
      c.in_ok-streams.ensures.0 c.in_ok-streams.ensures.1 c.in_ok-sources.ensures.0 c.in_ok-sources.ensures.1
      c.in_ok-interfaces.ensures.0 c.in_ok-interfaces.ensures.1;
  few_samples = tt;
  few_entries = omega arith;
}
