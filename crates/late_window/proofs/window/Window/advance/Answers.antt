use Rattle.std.proofs.Common.{refl, ◌+◌, ◌<◌, ◌^◌, ◌≡◌, arith, ℕ, ℤ, to_z, of_z, pos, ◌+ℤ◌, ◌≤ℤ◌, ◌*◌}
use Rattle.std.specs.Int.{w128}
use Rattle.std.proofs.lemmas.Int.{ints}
use Rattle.late_window.specs.declared.window.Window.TheInside.{Inside}
use Rattle.late_window.proofs.Kept.{advanced}
use Rattle.late_window.proofs.window.Window.advance.Goals as goal

sum-fits : (newest : ℤ) (entered step : ℕ) → pos 0 ≤ℤ newest → newest ≤ℤ pos (2 ^ 32 * entered) → entered < 2 ^ 62
    → step < 2 ^ 31
    → to_z w128 (of_z w128 (to_z w128 (of_z w128 newest) +ℤ to_z w128 step)) ≡ (newest +ℤ pos step)
sum-fits newest entered step from to few near = omega (arith, ints)

pub invariant_of-self : goal.invariant_of-self
invariant_of-self c =
    let few : c.self.inside.entered < 2 ^ 62 = rw (← c.self.view_is) at c.requires.few in
    let some : 0 < c.self.inside.received = rw (← c.self.view_is) at c.requires.some in
    (advanced c.self.inside _ c.args.step c.self.invariant few some c.requires.ahead c.requires.near refl refl refl
    (sum-fits c.self.inside.newest c.self.inside.entered c.args.step c.self.invariant.newest_from
    c.self.invariant.newest_to few c.requires.near)
    refl c.move_on-self-inside.ensures.slots c.move_on-self-inside.ensures.bits c.move_on-self-inside.ensures.pending
    c.move_on-self-inside.ensures.few).keeps

pub returns-clause-advances : goal.returns-clause-advances
returns-clause-advances c =
    let few : c.self.inside.entered < 2 ^ 62 = rw (← c.self.view_is) at c.requires.few in
    let some : 0 < c.self.inside.received = rw (← c.self.view_is) at c.requires.some in
    let new : Inside = record c.self.inside {
      entered = c.self.inside.entered + 1;
      received = c.self.inside.received + 1;
      pending = c.move_on-self-inside.result;
      newest = to_z w128 (of_z w128 (to_z w128 (of_z w128 c.self.inside.newest) +ℤ to_z w128 c.args.step));
      span = c.self.inside.span + c.args.step;
      recent = c.move_on-self-inside.new.recent;
    } in
    rw (← c.self.view_is) (advanced c.self.inside new c.args.step c.self.invariant few some c.requires.ahead
    c.requires.near refl refl refl
    (sum-fits c.self.inside.newest c.self.inside.entered c.args.step c.self.invariant.newest_from
    c.self.invariant.newest_to few c.requires.near)
    refl c.move_on-self-inside.ensures.slots c.move_on-self-inside.ensures.bits c.move_on-self-inside.ensures.pending
    c.move_on-self-inside.ensures.few).advances
