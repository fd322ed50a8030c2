use Rattle.std.proofs.Common.{◌+◌, ap, ◌∙◌, arith}
use Rattle.command_runs.proofs.Walked.{all_given, counted_none, counted_one, ended_by_refusal, marked_by, not_written, one_more, part_by, puts_by, waits_by}
use Rattle.command_runs.proofs.walk.visit_entries.Goals as goal
use Rattle.command_runs.proofs.walk.visit_entries.Goals.{then-is_marked, else-is_marked}

pub loop-count-preserved : goal.loop-count-preserved
loop-count-preserved g c =
    let before = c.loop-count.invariant in
    let given = rw c.in-Ok-Entry.field-0-is at c.in-Ok-Entry.ensures.given in
    let leads = rw c.in-Ok-Entry.field-0-is at c.in-Ok-Entry.ensures.leads_on in
    let visit = c.in-Ok.ensures.visited before.far.entries
    (omega (arith, leads.1, leads.2, before.given, before.far.number)) before.far.were in
    record {
      far = one_more _ _ _ _ _ _ _ _ _ _ _ _ _ _ _ _ _ _ before.far given _ _ _ visit.0
          (puts_by _ _ _ _ _ _ _ _ before.same c.in-Ok.ensures.prints)
          (elim c.if-is_marked.branch [
            | then-is_marked w ↦ counted_one _ _ _ _ (marked_by _ _ _ _ before.same c.in-Ok.ensures.marked) w.if-is_marked.true w.marked-is
            | else-is_marked w ↦ counted_none _ _ _ _ (marked_by _ _ _ _ before.same c.in-Ok.ensures.marked) w.if-is_marked.false w.marked-is
          ]);
      same = visit.1 ∙ before.same;
      waits = λ w.
          let kept = c.in-Ok.ensures.waits (waits_by _ _ before.same w) in
          (kept.1 ∙ (before.waits w).0, kept.2 ∙ (before.waits w).1);
      going = leads.0;
      given = leads.1 ∙ ap (λ n. n + 1) before.given;
      few = omega (arith, leads.1, leads.2, before.given);
      fewer = elim c.if-is_marked.branch [
        | then-is_marked w ↦ omega (arith, w.marked-is, before.fewer)
        | else-is_marked w ↦ omega (arith, w.marked-is, before.fewer)
      ];
      room = omega arith;
      kept = (c.in-Ok-Entry.ensures.cause before.going).kept (λ e. cc) ∙ before.kept;
    }

pub returns-in_default-clause-visits : goal.returns-in_default-clause-visits
returns-in_default-clause-visits g c =
    let before = c.loop-count.invariant in
    let given = rw c.in-Ok-Entry.field-0-is at c.in-Ok-Entry.ensures.given in
    let leads = rw c.in-Ok-Entry.field-0-is at c.in-Ok-Entry.ensures.leads_on in
    not_written _ _ (λ _. Unit {0}) _ _ (g.S.Source.seen c.next.new.source) _ _ _ _ _ _ _ _ _ _ _ _ before.far given _ _ leads.0
    (part_by _ _ _ _ _ _ _ before.same c.in_default.ensures.prints)

pub returns-in-Ok-End-clause-visits : goal.returns-in-Ok-End-clause-visits
returns-in-Ok-End-clause-visits g c =
    let far = c.loop-count.invariant.far in
    let given = rw c.in-Ok-End.field-0-is at c.in-Ok-End.ensures.given in
    let stage = rw c.in-Ok-End.field-0-is at c.in-Ok-End.ensures.stage in
    let going = c.loop-count.invariant.going in
    record {
      entries = far.entries;
      all = λ input are is.
          all_given input far.entries _ _ _ _ _ _ going stage (given input far.entries are (far.given input are is))
          c.version.ensures c.version_of.ensures;
      counted = record { entries_are = far.number; marked_are = far.marked_are };
      were = far.were;
      put = far.put;
    }

pub returns-in-Err-clause-visits : goal.returns-in-Err-clause-visits
returns-in-Err-clause-visits g c =
    let far = c.loop-count.invariant.far in
    let ended = ended_by_refusal _ _ _ c.loop-count.invariant.going c.in-Err.ensures.stage in
    record {
      entries = far.entries;
      version = ended.0;
      ends = λ input are is. rw ended.1 at (c.in-Err.ensures.given input far.entries are (far.given input are is));
      put = far.put;
    }
