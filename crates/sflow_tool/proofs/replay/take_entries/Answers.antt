use Rattle.std.proofs.Common.{◌+◌, refl, ap, ◌∙◌, arith}
use Rattle.text_lines.proofs.PageLaws.{puts_none}
use Rattle.command_runs.proofs.Walked.{ended_by_refusal, nothing_yet, one_more}
use Rattle.sflow_tool.proofs.Items.{none_taken, one_taken}
use Rattle.sflow_tool.proofs.Silent.{fresh_given, fresh_going, took_all}
use Rattle.sflow_tool.proofs.replay.take_entries.Goals as goal

pub loop-count-init : goal.loop-count-init
loop-count-init g c = record {
  far = nothing_yet _ _ _ _ _ _ c.requires.fresh (none_taken _ _ _ _ _ _ c.requires.stands c.requires.classes);
  few = refl;
  going = fresh_going _ c.requires.fresh;
  given = fresh_given _ c.requires.fresh;
  fewer = omega arith;
  room = c.requires.room;
  kept = refl;
}

pub loop-count-preserved : goal.loop-count-preserved
loop-count-preserved g c =
    let before = c.loop-count.invariant in
    let given = rw c.in-Ok-Entry.field-0-is at c.in-Ok-Entry.ensures.given in
    let leads = rw c.in-Ok-Entry.field-0-is at c.in-Ok-Entry.ensures.leads_on in
    record {
      far = one_more _ _ _ _ _ _ _ _ _ _ _ _ _ _ _ _ _ _ before.far given _ _ _
          (one_taken _ _ _ _ _ _ _ _ _ _ _ before.far.entries _
          (omega (arith, leads.1, leads.2, before.given, before.far.number)) before.far.were c.take_entry.ensures.gathers
          c.take_entry.ensures.ended)
          (puts_none _ _) refl;
      few = c.take_entry.ensures.ended ∙ before.few;
      going = leads.0;
      given = leads.1 ∙ ap (λ n. n + 1) before.given;
      fewer = omega (arith, leads.1, leads.2, before.given);
      room = omega arith;
      kept = (c.in-Ok-Entry.ensures.cause before.going).kept (λ e. cc) ∙ before.kept;
    }

pub returns-in-Ok-End-clause-took : goal.returns-in-Ok-End-clause-took
returns-in-Ok-End-clause-took g c =
    let given = rw c.in-Ok-End.field-0-is at c.in-Ok-End.ensures.given in
    let stage = rw c.in-Ok-End.field-0-is at c.in-Ok-End.ensures.stage in
    took_all _ _ _ (g.S.Source.seen c.next.new.source) _ _ _ _ _ c.loop-count.invariant.far given c.loop-count.invariant.going stage

pub returns-in-Err-clause-took : goal.returns-in-Err-clause-took
returns-in-Err-clause-took g c =
    let far = c.loop-count.invariant.far in
    let ended = ended_by_refusal _ _ _ c.loop-count.invariant.going c.in-Err.ensures.stage in
    record {
      entries = far.entries;
      version = ended.0;
      ends = λ input are is. rw ended.1 at (c.in-Err.ensures.given input far.entries are (far.given input are is));
      were = far.were;
    }
