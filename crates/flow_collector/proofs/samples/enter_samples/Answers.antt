use Rattle.std.proofs.Common.{◌≡◌, ◌∙◌, refl, arith, rules}
use Rattle.flow_collector.proofs.Fed.{fed-begins, fed-goes-on, all-fed}
use Rattle.flow_collector.proofs.SoFar.{index-few, midway, all-entered}
use Rattle.flow_collector.proofs.samples.enter_samples.Goals as goal

pub loop-head-init : goal.loop-head-init
loop-head-init g c = record {
  ended = refl;
  fed = fed-begins (λ x b y. (v : _) × (y ≡ record x { value = v }) × (goal.Tap-dyn g (x.vtable, x.value)).step x.value b v) (λ x. (goal.Tap-dyn g (x.vtable, x.value)).ended x.value)
      c.args.books.now c.args.found.now c.args.samples c.args.briefing.now c.args.taps.now.held.items;
}

pub enter_sample-requires : goal.enter_sample-requires
enter_sample-requires g c =
    let some = c.in-Some.ensures.some in
    let so_far = c.loop-head.invariant.fed.so_far in
    record {
      room = search rules;
      midway = midway c.args.books.now c.loop-head.books c.args.found.now c.loop-head.index c.args.samples
          c.loop-head.samples c.requires.midway so_far;
      few = index-few c.args.books.now c.loop-head.books c.args.found.now c.loop-head.index c.args.samples
          c.loop-head.samples c.next_sample.new.samples some.0 some.1 c.requires.few so_far;
    }

pub overflow_add-index : goal.overflow_add-index
overflow_add-index g c =
    let some = c.in-Some.ensures.some in
    let few = index-few c.args.books.now c.loop-head.books c.args.found.now c.loop-head.index c.args.samples
    c.loop-head.samples c.next_sample.new.samples some.0 some.1 c.requires.few c.loop-head.invariant.fed.so_far in
    omega (arith, few)

pub loop-head-preserved : goal.loop-head-preserved
loop-head-preserved g c =
    let some = c.in-Some.ensures.some in
    record {
      ended = c.enter_sample.ensures.ended ∙ c.loop-head.invariant.ended;
      fed = fed-goes-on (λ x b y. (v : _) × (y ≡ record x { value = v }) × (goal.Tap-dyn g (x.vtable, x.value)).step x.value b v) (λ x. (goal.Tap-dyn g (x.vtable, x.value)).ended x.value)
          c.args.books.now c.loop-head.books c.enter_sample.new.books c.args.found.now c.loop-head.index
          c.args.samples c.loop-head.samples c.next_sample.new.samples some.0 c.args.briefing.now c.loop-head.briefing
          c.enter_sample.new.briefing c.args.taps.now.held.items c.loop-head.taps.held.items c.enter_sample.new.taps.held.items some.1
          (λ l items d enters same st. c.enter_sample.ensures.stands l items d some.0 c.next_sample.new.samples enters same some.3 some.2 st)
          (λ l items d enters same st. c.enter_sample.ensures.passes l items d some.0 c.next_sample.new.samples enters same some.3 some.2 st)
          c.loop-head.invariant.fed;
    }

pub returns : goal.returns
returns g c = record {
  stands = all-entered c.args.books.now c.loop-head.books c.args.found.now c.loop-head.index c.args.samples
      c.loop-head.samples c.in_default.ensures.none.0 c.loop-head.invariant.fed.so_far;
  passes = all-fed (λ x b y. (v : _) × (y ≡ record x { value = v }) × (goal.Tap-dyn g (x.vtable, x.value)).step x.value b v) (λ x. (goal.Tap-dyn g (x.vtable, x.value)).ended x.value)
      c.args.books.now c.loop-head.books c.args.found.now c.loop-head.index c.args.samples
      c.loop-head.samples c.args.briefing.now c.loop-head.briefing c.args.taps.now.held.items c.loop-head.taps.held.items
      c.in_default.ensures.none.0 c.loop-head.invariant.fed;
  ended = c.loop-head.invariant.ended;
}
