use Rattle.std.proofs.Common.{rules, ◌≡◌, take, drop, ◌++◌, length, ap, ◌∙◌, arith}
use Rattle.std.proofs.Math.Seq.{take-append_seam}
use Rattle.sample_taps.proofs.Feedings.{held_all}
use Rattle.sample_taps.proofs.taps.Taps.feed_all.Goals as goal

pub returns-clause-held : goal.returns-clause-held
returns-clause-held g c =
    let given = c.give_all.new.taps in
    let before = c.args.self.now.held in
    let all : before.len ≡ length given = omega arith in
    let whole = ap (λ k. take k (given ++ drop (length given) before.items)) all ∙ take-append_seam given _ in
    held_all _ _ c.args.briefs.now before.items given _ (search rules) (search rules) (rw (← whole) c.close_up.ensures.kept)
