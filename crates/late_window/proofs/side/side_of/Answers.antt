use Rattle.std.proofs.Common.{pos, ◌+ℤ◌, ◌-ℤ◌, ◌≤ℤ◌, ◌<ℤ◌, subst, ap, to_z, of_z, ◌≡◌, ◌∙◌, arith}
use Rattle.std.specs.Prelude.{unsigned_abs}
use Rattle.std.specs.Int.{w128}
use Rattle.std.proofs.lemmas.Int.{ints}
use Rattle.count_spec.specs.Windows.{near}
use Rattle.count_spec.proofs.Near.{near-from, near-below}
use Rattle.late_window.specs.Steps.{IsBeside}
use Rattle.late_window.specs.declared.side.Side.TheVariants.{Above, Below}
use Rattle.late_window.proofs.Sides.{less, is-above, is-below}
use Rattle.late_window.proofs.side.side_of.Goals as goal

pub returns-then-number-newest : goal.returns-then-number-newest
returns-then-number-newest c =
    let same : to_z w128 (of_z w128 c.args.newest) ≡ c.args.newest = omega (arith, ints) in
    let is : c.nearest-number.result ≡ near c.args.mark c.args.newest =
    c.nearest-number.ensures ∙ ap (near c.args.mark) same in
    let above : c.args.newest <ℤ c.nearest-number.result = grind (arith, ints) in
    let from : (c.args.newest -ℤ pos 2147483648) ≤ℤ c.nearest-number.result =
    rw is (near-from c.args.mark c.args.newest) in
    let below : c.nearest-number.result <ℤ (c.args.newest +ℤ pos 2147483648) =
    rw is (near-below c.args.mark c.args.newest) in
    subst (IsBeside (Above (unsigned_abs (less c.nearest-number.result c.args.newest))) c.args.newest)
    is
    (is-above c.nearest-number.result c.args.newest c.requires.from c.requires.to from below above)

pub returns-else-number-newest : goal.returns-else-number-newest
returns-else-number-newest c =
    let same : to_z w128 (of_z w128 c.args.newest) ≡ c.args.newest = omega (arith, ints) in
    let is : c.nearest-number.result ≡ near c.args.mark c.args.newest =
    c.nearest-number.ensures ∙ ap (near c.args.mark) same in
    let under : c.nearest-number.result ≤ℤ c.args.newest = grind (arith, ints) in
    let from : (c.args.newest -ℤ pos 2147483648) ≤ℤ c.nearest-number.result =
    rw is (near-from c.args.mark c.args.newest) in
    let below : c.nearest-number.result <ℤ (c.args.newest +ℤ pos 2147483648) =
    rw is (near-below c.args.mark c.args.newest) in
    subst (IsBeside (Below (unsigned_abs (less c.args.newest c.nearest-number.result))) c.args.newest)
    is
    (is-below c.nearest-number.result c.args.newest c.requires.from c.requires.to from below under)
