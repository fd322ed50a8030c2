use Rattle.std.proofs.Common.{refl, arith, to_z, ◌+◌, ◌<◌, ◌^◌, ◌≡◌}
use Rattle.std.specs.Int.{w128}
use Rattle.std.proofs.lemmas.Int.{ints}
use Rattle.late_window.specs.declared.window.Window.TheInside.{Inside}
use Rattle.late_window.proofs.Kept.{begun}
use Rattle.late_window.proofs.window.Window.begin.Goals as goal

pub invariant_of-self : goal.invariant_of-self
invariant_of-self c =
    let few : c.self.inside.entered < 2 ^ 62 = rw (← c.self.view_is) at c.requires.few in
    let none : c.self.inside.received ≡ 0 = rw (← c.self.view_is) at c.requires.none in
    (begun c.self.inside _ c.args.mark c.self.invariant (omega arith) few none refl refl refl refl
    (omega (arith, ints)) refl c.add.ensures.slots c.add.ensures.added).keeps

pub returns-clause-begins : goal.returns-clause-begins
returns-clause-begins c =
    let few : c.self.inside.entered < 2 ^ 62 = rw (← c.self.view_is) at c.requires.few in
    let none : c.self.inside.received ≡ 0 = rw (← c.self.view_is) at c.requires.none in
    let new : Inside = record c.self.inside {
      entered = c.self.inside.entered + 1;
      received = 1;
      newest = to_z w128 c.args.mark;
      recent = c.add.new.self;
    } in
    rw (← c.self.view_is) (begun c.self.inside new c.args.mark c.self.invariant (omega arith) few none refl refl refl refl
    (omega (arith, ints)) refl c.add.ensures.slots c.add.ensures.added).begins
