use Rattle.std.proofs.Common.{◌≡◌, refl, sym, subst}
use Rattle.sample_taps.specs.Feeding.{Fed}
use Rattle.sample_taps.proofs.Feedings.{fed_within}
use Rattle.sample_taps.proofs.taps.take_all_in.Goals as goal

pub returns : goal.returns
returns g c =
    let Owned : Type 0 = (k : g.dyn-1.0.I) × (g.dyn-1.0.entry k).0.Denot in
    let Behind : Owned → Type 0 = λ p. (v : (g.dyn-1.0.entry p.0).0.Denot)
    → Fed (g.dyn-1.0.entry p.0).1.step (g.dyn-1.0.entry p.0).1.ended c.args.briefs.now p.1 v
    → Fed (λ x b y. (w : _) × (y ≡ record x { value = w }) × (g.dyn-1.0.entry x.vtable).1.step x.value b w) (λ x. (g.dyn-1.0.entry x.vtable).1.ended x.value)
    c.args.briefs.now c.args.tap.now (record c.args.tap.now { vtable = p.0; value = v }) in
    subst Behind (sym c.deref_box_mut-1.ensures.value.1)
    (fed_within _ _ _ _ (λ v. record c.args.tap.now { value = v }) (λ v. refl) (λ v b w took. (w, refl, took)) c.args.briefs.now c.args.tap.now.value)
    c.take_all.new.self c.take_all.ensures
