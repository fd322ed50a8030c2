use Rattle.std.proofs.Common.{refl, ◌+◌, ◌-◌, ◌<◌, ◌^◌}
use Rattle.late_window.specs.declared.window.Window.TheInside.{Inside}
use Rattle.late_window.proofs.Kept.{extended}
use Rattle.late_window.proofs.window.Window.extend.Goals as goal

pub invariant_of-self : goal.invariant_of-self
invariant_of-self c =
    let few : c.self.inside.entered < 2 ^ 62 = rw (← c.self.view_is) at c.requires.few in
    let some : 0 < c.self.inside.received = rw (← c.self.view_is) at c.requires.some in
    let within : c.args.back < c.self.inside.width = rw (← c.self.view_is) at c.requires.within in
    let beyond : c.self.inside.span < c.args.back = rw (← c.self.view_is) at c.requires.beyond in
    (extended c.self.inside _ c.args.back c.self.invariant few some within beyond refl refl refl refl refl
    c.add.ensures.slots c.add.ensures.added refl).keeps

pub returns-clause-fills : goal.returns-clause-fills
returns-clause-fills c =
    let few : c.self.inside.entered < 2 ^ 62 = rw (← c.self.view_is) at c.requires.few in
    let some : 0 < c.self.inside.received = rw (← c.self.view_is) at c.requires.some in
    let within : c.args.back < c.self.inside.width = rw (← c.self.view_is) at c.requires.within in
    let beyond : c.self.inside.span < c.args.back = rw (← c.self.view_is) at c.requires.beyond in
    let new : Inside = record c.self.inside {
      entered = c.self.inside.entered + 1;
      received = c.self.inside.received + 1;
      pending = c.self.inside.pending + (c.args.back - c.self.inside.span - 1);
      span = c.args.back;
      recent = c.add.new.self;
    } in
    rw (← c.self.view_is) (extended c.self.inside new c.args.back c.self.invariant few some within beyond refl refl
    refl refl refl c.add.ensures.slots c.add.ensures.added refl).fills
