use Rattle.std.proofs.Common.{rules, ◌≡◌, ◌++◌, ◌∷◌, [], length, ap, ◌∙◌, arith}
use Rattle.header_lanes.specs.Facts.{facts}
use Rattle.sample_taps.specs.Briefs.{brief_of}
use Rattle.sample_taps.proofs.Waiting.{waits, as_many}
use Rattle.sample_taps.proofs.briefing.Briefing.hold.Goals as goal

pub returns-then-is_ok-clause-pending : goal.returns-then-is_ok-clause-pending
returns-then-is_ok-clause-pending c =
    let b = c.self.inside in
    let many = as_many b.rows b.batch (omega (arith, c.self.invariant.0, c.self.invariant.1)) in
    let few = ap (λ s. length s.pending) c.self.view_is in
    let taken : c.push.new.self ≡ b.batch ++ facts c.args.protocol c.args.header.now ∷ [] = search rules in
    waits b.rows b.batch c.push.new.self c.args.sampled.now _ c.len-place.result c.len-place.ensures.length
    (omega (arith, c.requires, c.self.invariant.0, many, few)) taken
    ∙ ap (λ s. s.pending ++ brief_of c.args.sampled.now (facts c.args.protocol c.args.header.now) ∷ []) c.self.view_is

pub returns-else-is_ok-clause-pending : goal.returns-else-is_ok-clause-pending
returns-else-is_ok-clause-pending c =
    let b = c.self.inside in
    let many = as_many b.rows b.batch (omega (arith, c.self.invariant.0, c.self.invariant.1)) in
    let few = ap (λ s. length s.pending) c.self.view_is in
    let full : length b.batch ≡ 16 = search rules in
    absurd (omega (arith, c.requires, many, few, full))
