use Rattle.std.proofs.Common.{length, ap, arith}
use Rattle.sample_taps.proofs.Waiting.{as_many}
use Rattle.sample_taps.proofs.briefing.Briefing.make_room.Goals as goal

pub returns-else-len-eq16-clause-room : goal.returns-else-len-eq16-clause-room
returns-else-len-eq16-clause-room g c =
    let b = c.self.inside in
    let many = as_many b.rows b.batch (omega (arith, c.self.invariant.0, c.self.invariant.1)) in
    let few = ap (λ s. length s.pending) c.self.view_is in
    omega (arith, c.len.ensures.length, c.len.ensures.most, c.if-len-eq16.false, many, few)
