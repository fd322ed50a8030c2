use Rattle.std.proofs.Common.{◌≡◌, ℤ, pos, ◌+ℤ◌, ◌-ℤ◌, ◌≤ℤ◌, ◌<ℤ◌, to_z, of_z, ◌∙◌, ap, arith}
use Rattle.std.specs.Prelude.{int_le}
use Rattle.std.specs.Int.{w128}
use Rattle.std.proofs.lemmas.Int.{ints}
use Rattle.count_spec.specs.Windows.{near}
use Rattle.count_spec.proofs.Near.{near-from, near-below}
use Rattle.late_window.proofs.window.Window.is_behind.Goals as goal

pub returns : goal.returns
returns c =
    let same : to_z w128 (of_z w128 c.self.inside.newest) ≡ c.self.inside.newest = omega (arith, ints) in
    let is : c.nearest.result ≡ near c.args.mark c.self.inside.newest = c.nearest.ensures ∙ ap (near c.args.mark) same in
    let from : (c.self.inside.newest -ℤ pos 2147483648) ≤ℤ c.nearest.result =
    rw is (near-from c.args.mark c.self.inside.newest) in
    let below : c.nearest.result <ℤ (c.self.inside.newest +ℤ pos 2147483648) =
    rw is (near-below c.args.mark c.self.inside.newest) in
    let kept : to_z w128 (of_z w128 c.nearest.result) ≡ c.nearest.result = omega (arith, ints, from, below) in
    rw (← c.self.view_is) (λ marks st.
    (λ j. int_le (kept j) (same j)) ∙ ap (λ (n : ℤ). int_le n c.self.inside.newest) is
    ∙ ap (λ (top : ℤ). int_le (near c.args.mark top) top) st.shows.newest_is)
