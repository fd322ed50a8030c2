use Rattle.std.proofs.Common.{◌≡◌, List, subst, ap, length, arith}
use Rattle.wire_spec.specs.Spelling.{spell_all, AllTrees, IsLawful}
use Rattle.wire_spec.specs.Tables.{path_segment}
use Rattle.as_paths.specs.declared.segment.Segment.{Segment}
use Rattle.as_paths.specs.Paths.{segment_trees}
use Rattle.as_paths.proofs.Paths.{segments_in_spelled, segments_in_lawful, whole_segments}
use Rattle.as_paths.proofs.path.AsPath.bytes.Goals as goal

pub returns : goal.returns
returns c =
    let P : List Segment → Type 0 = λ s. spell_all (segment_trees s) ≡ c.self.inside.bytes.now in
    let Q : List Segment → Type 0 = λ s. AllTrees (IsLawful path_segment) (segment_trees s) in
    let spelled : P c.args.self.now = subst P c.self.view_is (segments_in_spelled _ _ c.self.invariant.2) in
    record {
      spelled = spelled;
      whole = omega (arith, ap length spelled, whole_segments c.args.self.now);
      lawful = subst Q c.self.view_is (segments_in_lawful _ _ c.self.invariant.1 c.self.invariant.2);
    }
