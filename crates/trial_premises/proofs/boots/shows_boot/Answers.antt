use Rattle.std.proofs.Common.{◌∙◌, ℤ, ◌-ℤ◌, ap, rules}
use Rattle.std.specs.Int.{w128}
use Rattle.std.proofs.lemmas.Int.{to_z-of_z}
use mir.Val.{SFits, to_z, of_z}
use Rattle.trial_spec.specs.VisibleTests.{tells}
use Rattle.trial_premises.proofs.boots.shows_boot.Goals as goal

pub returns : goal.returns
returns c =
    let mine : SFits w128 c.mark.result = search rules in
    let other : SFits w128 c.mark-2.result = search rules in
    let fits : SFits w128 (c.mark.result -ℤ c.mark-2.result) = search rules in
    c.tells_at.ensures
    ∙ (λ j. tells c.args.slack
    (to_z w128 (of_z w128 (to_z-of_z w128 c.mark.result mine j -ℤ to_z-of_z w128 c.mark-2.result other j)))
    c.args.datagram.now.boot c.args.newest.now.boot)
    ∙ ap (λ (z : ℤ). tells c.args.slack z c.args.datagram.now.boot c.args.newest.now.boot)
    (to_z-of_z w128 (c.mark.result -ℤ c.mark-2.result) fits)
    ∙ (λ j. tells c.args.slack (c.mark.ensures.value j -ℤ c.mark-2.ensures.value j) c.args.datagram.now.boot c.args.newest.now.boot)
