use Rattle.std.proofs.Common.{◌+◌, refl, ap, ◌∙◌, arith}
use Rattle.text_lines.proofs.PageLaws.{puts_none}
use Rattle.command_runs.proofs.Walked.{ended_by_refusal, nothing_yet, one_more}
use Rattle.sflow_tool.proofs.SendRuns.{counted, none_sent, one_sent, unsent}
use Rattle.sflow_tool.proofs.Silent.{fresh_given, fresh_going, took_all}
use Rattle.sflow_tool.proofs.send.send_entries.Goals as goal

pub loop-count-init : goal.loop-count-init
loop-count-init g c = record {
  far = nothing_yet _ _ _ _ _ _ c.requires.fresh (none_sent _);
  going = fresh_going _ c.requires.fresh;
  given = fresh_given _ c.requires.fresh;
  fewer = omega arith;
  room = c.requires.room;
  kept = refl;
}

pub loop-count-preserved : goal.loop-count-preserved
loop-count-preserved g c =
    let before = c.loop-count.invariant in
    let given = rw c.in-Ok-Entry.field-0-is at c.in-Ok-Entry.ensures.given in
    let leads = rw c.in-Ok-Entry.field-0-is at c.in-Ok-Entry.ensures.leads_on in
    record {
      far = one_more _ _ _ _ _ _ _ _ _ _ _ _ _ _ _ _ _ _ before.far given _ _ _
          (one_sent _ _ _ _ _ before.far.were c.in-Ok.ensures)
          (puts_none _ _) refl;
      going = leads.0;
      given = leads.1 ∙ ap (λ n. n + 1) before.given;
      fewer = omega (arith, leads.1, leads.2, before.given);
      room = omega arith;
      kept = (c.in-Ok-Entry.ensures.cause before.going).kept (λ e. cc) ∙ before.kept;
    }

pub returns-in_default-clause-sends : goal.returns-in_default-clause-sends
returns-in_default-clause-sends g c =
    let before = c.loop-count.invariant in
    let given = rw c.in-Ok-Entry.field-0-is at c.in-Ok-Entry.ensures.given in
    let leads = rw c.in-Ok-Entry.field-0-is at c.in-Ok-Entry.ensures.leads_on in
    unsent _ _ (g.S.Source.seen c.next.new.source) _ _ _ _ _ _ _ _ _ _ _ before.far given leads.0 c.in_default.ensures

pub returns-in-Ok-End-clause-sends : goal.returns-in-Ok-End-clause-sends
returns-in-Ok-End-clause-sends g c =
    let before = c.loop-count.invariant in
    let given = rw c.in-Ok-End.field-0-is at c.in-Ok-End.ensures.given in
    let stage = rw c.in-Ok-End.field-0-is at c.in-Ok-End.ensures.stage in
    took_all _ _ _ (g.S.Source.seen c.next.new.source) _ _ _ _ _ (counted _ _ _ _ _ _ _ before.far) given before.going stage

pub returns-in-Err-clause-sends : goal.returns-in-Err-clause-sends
returns-in-Err-clause-sends g c =
    let far = c.loop-count.invariant.far in
    let ended = ended_by_refusal _ _ _ c.loop-count.invariant.going c.in-Err.ensures.stage in
    record {
      entries = far.entries;
      version = ended.0;
      ends = λ input are is. rw ended.1 at (c.in-Err.ensures.given input far.entries are (far.given input are is));
      were = far.were;
    }
