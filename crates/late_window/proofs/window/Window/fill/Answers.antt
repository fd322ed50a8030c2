use Rattle.std.proofs.Common.{refl, sym, ◌∙◌, ap, ◌+◌, ◌-◌, ◌<◌, ◌≤◌, ◌^◌, ◌≡◌, false}
use Rattle.late_window.specs.States.{WindowState, is_recent}
use Rattle.late_window.specs.Fields.{held}
use Rattle.late_window.specs.declared.window.Window.TheInside.{Inside}
use Rattle.late_window.proofs.Recent.{recent-held}
use Rattle.late_window.proofs.Kept.{filled, some-pending}
use Rattle.late_window.proofs.window.Window.fill.Goals as goal

pub overflow_sub-self : goal.overflow_sub-self
overflow_sub-self c =
    let some : 0 < c.self.inside.received = rw (← c.self.view_is) at c.requires.some in
    let within : c.args.back < c.self.inside.width = rw (← c.self.view_is) at c.requires.within in
    let between : c.args.back ≤ c.self.inside.span = rw (← c.self.view_is) at c.requires.between in
    let out : held c.self.inside c.args.back ≡ false =
    sym (recent-held c.self.inside c.args.back within)
    ∙ ap (λ (s : WindowState). is_recent s c.args.back) c.self.view_is ∙ c.requires.new in
    some-pending c.self.inside c.args.back c.self.invariant some within between out

pub invariant_of-self : goal.invariant_of-self
invariant_of-self c =
    let few : c.self.inside.entered < 2 ^ 62 = rw (← c.self.view_is) at c.requires.few in
    let some : 0 < c.self.inside.received = rw (← c.self.view_is) at c.requires.some in
    let within : c.args.back < c.self.inside.width = rw (← c.self.view_is) at c.requires.within in
    let between : c.args.back ≤ c.self.inside.span = rw (← c.self.view_is) at c.requires.between in
    let out : held c.self.inside c.args.back ≡ false =
    sym (recent-held c.self.inside c.args.back within)
    ∙ ap (λ (s : WindowState). is_recent s c.args.back) c.self.view_is ∙ c.requires.new in
    (filled c.self.inside _ c.args.back c.self.invariant few some within between out refl refl refl refl refl
    c.add.ensures.slots c.add.ensures.added refl).keeps

pub returns-clause-fills : goal.returns-clause-fills
returns-clause-fills c =
    let few : c.self.inside.entered < 2 ^ 62 = rw (← c.self.view_is) at c.requires.few in
    let some : 0 < c.self.inside.received = rw (← c.self.view_is) at c.requires.some in
    let within : c.args.back < c.self.inside.width = rw (← c.self.view_is) at c.requires.within in
    let between : c.args.back ≤ c.self.inside.span = rw (← c.self.view_is) at c.requires.between in
    let out : held c.self.inside c.args.back ≡ false =
    sym (recent-held c.self.inside c.args.back within)
    ∙ ap (λ (s : WindowState). is_recent s c.args.back) c.self.view_is ∙ c.requires.new in
    let new : Inside = record c.self.inside {
      entered = c.self.inside.entered + 1;
      received = c.self.inside.received + 1;
      pending = c.self.inside.pending - 1;
      recent = c.add.new.self;
    } in
    rw (← c.self.view_is) (filled c.self.inside new c.args.back c.self.invariant few some within between out refl
    refl refl refl refl c.add.ensures.slots c.add.ensures.added refl).fills
