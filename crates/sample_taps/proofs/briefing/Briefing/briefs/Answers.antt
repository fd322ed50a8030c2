use Rattle.std.proofs.Common.{◌≡◌, length, take, subst, arith}
use Rattle.sample_taps.proofs.Waiting.{front}
use Rattle.sample_taps.proofs.briefing.Briefing.briefs.Goals as goal

pub returns-clause-pending : goal.returns-clause-pending
returns-clause-pending c =
    let b = c.self.inside in
    subst (λ s. take (length s.pending) c.briefs_of.result ≡ s.pending) c.self.view_is
    (front b.rows b.batch _ c.scan.new.facts c.briefs_of.result (omega (arith, c.self.invariant.0, c.self.invariant.1))
    c.scan.ensures c.briefs_of.ensures)
