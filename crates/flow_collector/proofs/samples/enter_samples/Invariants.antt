-- The samples before those that are left were entered, and the headers of those that are First went to the consumers.
use Rattle.std.proofs.Common.{◌≡◌, ◌+◌, vec_len, length}
use Rattle.flow_collector.proofs.Fed.{SoFarFed}
use Rattle.flow_collector.proofs.samples.enter_samples.Given as goal

abbrev pub invariant-loop-head : goal.invariant-loop-head
invariant-loop-head g l = record {
  ended : l.taps.ended + vec_len l.taps.held ≡ l.initial.taps.ended + vec_len l.initial.taps.held;
  fed : SoFarFed (λ x b y. (v : _) × (y ≡ record x { value = v }) × (goal.Tap-dyn g (x.vtable, x.value)).step x.value b v) (λ x. (goal.Tap-dyn g (x.vtable, x.value)).ended x.value)
      l.initial.books l.books l.initial.found l.index l.initial.samples l.samples l.initial.briefing l.briefing
      l.initial.taps.held.items l.taps.held.items;
}

abbrev pub decreases-loop-head : goal.decreases-loop-head
decreases-loop-head g l = length l.samples
