use Rattle.std.proofs.Common.{◌≡◌, ◌++◌, length, take, map, ap, ap₂, sym, ◌∙◌, arith}
use Rattle.sample_taps.specs.Briefs.{briefs_with, facts_in}
use Rattle.sample_taps.specs.Classes.{with_headers}
use Rattle.sample_taps.proofs.Waiting.{as_many}
use Rattle.sample_taps.proofs.briefing.Briefing.send.Goals as goal

pub returns-clause-passes : goal.returns-clause-passes
returns-clause-passes g c =
    let b = c.self.inside in
    let many = as_many b.rows b.batch (omega (arith, c.self.invariant.0, c.self.invariant.1)) in
    let all : c.len.result ≡ length c.args.self.now.pending =
    c.len.ensures.length ∙ sym many ∙ ap (λ s. length s.pending) c.self.view_is in
    let same : take c.len.result c.briefs-briefs.result ≡ c.args.self.now.pending =
    ap (λ n. take n c.briefs-briefs.result) all ∙ c.briefs-briefs.ensures.pending in
    record {
      gone = c.args.self.now.pending;
      in_order = ap (λ l. c.args.self.now.pending ++ briefs_with b.rows l) c.clear.ensures;
      held = rw same at c.feed_all.ensures.held;
      totals = c.count_all.ensures ∙ ap₂ (λ s l. with_headers s.totals (map facts_in l)) c.self.view_is same;
    }
