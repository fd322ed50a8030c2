use Rattle.std.proofs.Common.{◌+◌, refl, ap, ◌∙◌, arith}
use Rattle.pcap_payloads.proofs.Texts.{one_counted}
use Rattle.pcap_payloads.proofs.Walked.{ended_by_end, ended_by_refusal, none_counted, none_given, not_ended, not_written, nothing_yet, one_more}
use Rattle.pcap_payloads.proofs.packets.take_packets.Goals as goal

pub loop-init : goal.loop-init
loop-init g c = record {
  far = nothing_yet c.args.output (g.S.Source.seen c.args.source.now) (g.K.Sink.seen c.args.sink.now) c.args.page.now
      c.args.reader.now c.none-counts.result c.requires.fresh c.none-counts.ensures;
  waits = λ w. (refl, refl);
  going = not_ended c.args.reader.now c.requires.fresh;
  given = none_given c.args.reader.now c.requires.fresh;
  total = none_counted c.none-counts.result c.none-counts.ensures;
  few = omega arith;
  room = c.requires.room;
  kept = refl;
}

pub loop-preserved : goal.loop-preserved
loop-preserved g c =
    let before = c.loop.invariant in
    let given = rw c.in-Ok-Packet.field-0-is at c.in-Ok-Packet.ensures.given in
    let leads = rw c.in-Ok-Packet.field-0-is at c.in-Ok-Packet.ensures.leads_on in
    record {
      far = one_more _ _ _ _ _ _ _ _ _ _ _ _ _ _ before.far given _ _ _ c.in-Ok.ensures.prints c.in-Ok.ensures.counted;
      waits = λ w.
          let kept = c.in-Ok.ensures.waits w in
          (kept.1 ∙ (before.waits w).0, kept.2 ∙ (before.waits w).1);
      going = leads.0;
      given = leads.1 ∙ ap (λ n. n + 1) before.given;
      total = one_counted _ _ _ _ c.in-Ok.ensures.counted before.total;
      few = omega (arith, leads.1, leads.2, before.given);
      room = omega arith;
      kept = (c.in-Ok-Packet.ensures.cause before.going).kept (λ e. cc) ∙ before.kept;
    }

pub returns-in_default-clause-walks : goal.returns-in_default-clause-walks
returns-in_default-clause-walks g c =
    let before = c.loop.invariant in
    let given = rw c.in-Ok-Packet.field-0-is at c.in-Ok-Packet.ensures.given in
    let leads = rw c.in-Ok-Packet.field-0-is at c.in-Ok-Packet.ensures.leads_on in
    not_written _ _ _ (g.S.Source.seen c.next.new.source) _ _ _ _ _ _ _ _ _ _ before.far given _ _ leads.0 c.in_default.ensures.prints

pub returns-in-Ok-End-clause-walks : goal.returns-in-Ok-End-clause-walks
returns-in-Ok-End-clause-walks g c =
    let far = c.loop.invariant.far in
    let given = rw c.in-Ok-End.field-0-is at c.in-Ok-End.ensures.given in
    let stage = rw c.in-Ok-End.field-0-is at c.in-Ok-End.ensures.stage in
    let ended = ended_by_end _ _ c.loop.invariant.going stage in
    record {
      packets = far.packets;
      all = λ input is. rw ended at (given input far.packets (far.given input is));
      counted = far.counted;
      put = far.put;
    }

pub returns-in-Err-clause-walks : goal.returns-in-Err-clause-walks
returns-in-Err-clause-walks g c =
    let far = c.loop.invariant.far in
    let ended = ended_by_refusal _ _ _ c.loop.invariant.going c.in-Err.ensures.stage in
    record {
      packets = far.packets;
      ends = λ input is. rw ended at (c.in-Err.ensures.given input far.packets (far.given input is));
      put = far.put;
    }
