use Rattle.std.proofs.Common.{length, ◌≡◌, ◌≤◌}
use Rattle.script_spec.specs.Parts.{split_at}
use Rattle.relay_out.proofs.RouteLists.{behind, said}
use Rattle.relay_out.proofs.routes.Routes.read.Given as goal

abbrev pub decreases-loop-part : goal.decreases-loop-part
decreases-loop-part l = length l.parts

abbrev pub invariant-loop-part : goal.invariant-loop-part
invariant-loop-part l = record {
  few : length l.routes.items ≤ 8;
  read : said (split_at 59 l.text) ≡ behind l.routes.items (said l.parts);
}
