use Rattle.std.proofs.Common.{◌≡◌}
use Rattle.sample_taps.specs.Feeding.{Fed}
use Rattle.sample_taps.proofs.Partway.{Partway}
use Rattle.sample_taps.proofs.taps.give_all.Given as goal

abbrev pub invariant-loop-tap : goal.invariant-loop-tap
invariant-loop-tap g l =
    Partway (Fed (λ x b y. (v : _) × (y ≡ record x { value = v }) × (goal.Tap-dyn g (x.vtable, x.value)).step x.value b v)
    (λ x. (goal.Tap-dyn g (x.vtable, x.value)).ended x.value) l.briefs)
    l.tap-index l.initial.tap-items l.tap-items
