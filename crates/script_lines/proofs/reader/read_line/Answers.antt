use Rattle.std.proofs.Common.{◌∙◌, ◌+◌, None, ap, sym, arith, rules}
use Rattle.script_spec.specs.Texts.{texts_in, Skipped, Heading}
use Rattle.script_spec.specs.Steps.{next_in}
use Rattle.script_lines.specs.declared.place.Place.{Place}
use Rattle.script_lines.proofs.Passed.{goes_on, goes_to_line, goes_to_part, goes_to_shapeless, goes_to_end, goes_to_no_heading, tells_broken}
use Rattle.script_lines.proofs.reader.read_line.Goals as goal
use Rattle.script_lines.proofs.reader.read_line.Goals.{in-Skipped, in-Heading}

pub returns-in_default-clause-told : goal.returns-in_default-clause-told
returns-in_default-clause-told g c = λ bytes told.
    let went = c.lines.invariant.goes bytes told in
    goes_to_part _ _ bytes _ went _ (c.in_default.ensures.told went.rest went.left_is)

pub returns-in-Says-clause-told : goal.returns-in-Says-clause-told
returns-in-Says-clause-told g c = λ bytes told.
    let went = c.lines.invariant.goes bytes told in
    let read = rw c.in-Says.is at (c.in-Ok.ensures.told went.rest went.left_is) in
    goes_to_line _ _ bytes _ went _ _ read

pub returns-in-Shapeless-clause-told : goal.returns-in-Shapeless-clause-told
returns-in-Shapeless-clause-told g c = λ bytes told.
    let went = c.lines.invariant.goes bytes told in
    let read = rw c.in-Shapeless.is at (c.in-Ok.ensures.told went.rest went.left_is) in
    tells_broken _ _ bytes None _ _ _ c.broken.ensures (goes_to_shapeless _ _ bytes _ went read)

pub returns-in-End-clause-told : goal.returns-in-End-clause-told
returns-in-End-clause-told g c = λ bytes told.
    let went = c.lines.invariant.goes bytes told in
    let read = rw c.in-End.is at (c.in-Ok.ensures.told went.rest went.left_is) in
    goes_to_end _ _ bytes _ went read c.if-place.true

pub returns-in-End-2-clause-told : goal.returns-in-End-2-clause-told
returns-in-End-2-clause-told g c = λ bytes told.
    let went = c.lines.invariant.goes bytes told in
    let read = rw c.in-End-2.is at (c.in-Ok.ensures.told went.rest went.left_is) in
    tells_broken _ _ bytes None _ _ _ c.broken-in-End-2.ensures (goes_to_no_heading _ _ bytes _ went read c.if-place.false)

pub lines-preserved : goal.lines-preserved
lines-preserved g c =
    let size = c.lines.invariant.size in
    elim c.match-step.branch [
      | in-Skipped w ↦
          let begun = ap (λ (p : Place). p.begun) w.place-is in
          let counted = ap (λ (p : Place). p.count) w.place-is in
          record {
            size = search rules;
            above = omega (arith, counted, c.lines.invariant.above);
            count = rw w.in-Skipped.is at c.in-Ok.ensures.leads_on;
            kept = c.in-Ok.ensures.faults ∙ c.lines.invariant.kept;
            goes = λ bytes told.
                let went = c.lines.invariant.goes bytes told in
                let read = rw w.in-Skipped.is at (c.in-Ok.ensures.told went.rest went.left_is) in
                goes_on _ _ bytes _ went _ Skipped _ read
                (λ rest. ap (λ b. next_in b (c.lines.place.count + 1) (texts_in rest)) (sym begun));
          }
      | in-Heading w ↦
          let begun = ap (λ (p : Place). p.begun) w.place-is in
          let counted = ap (λ (p : Place). p.count) w.place-is in
          record {
            size = search rules;
            above = omega (arith, counted, c.lines.invariant.above);
            count = rw w.in-Heading.is at c.in-Ok.ensures.leads_on;
            kept = c.in-Ok.ensures.faults ∙ c.lines.invariant.kept;
            goes = λ bytes told.
                let went = c.lines.invariant.goes bytes told in
                let read = rw w.in-Heading.is at (c.in-Ok.ensures.told went.rest went.left_is) in
                goes_on _ _ bytes _ went _ Heading _ read
                (λ rest. ap (λ b. next_in b (c.lines.place.count + 1) (texts_in rest)) (sym begun));
          }
    ]
