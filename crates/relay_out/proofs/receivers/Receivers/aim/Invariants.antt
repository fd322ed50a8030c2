use Rattle.std.proofs.Common.{◌≡◌, ◌≤◌, length, vec_len, take}
use Rattle.relay_out.specs.Relays.{AimedEach}
use Rattle.relay_out.proofs.receivers.Receivers.aim.Given as goal

abbrev pub invariant-loop-at : goal.invariant-loop-at
invariant-loop-at g l = record {
  fits : length l.routes ≤ vec_len l.self.held;
  places : length l.self.progress ≡ 8;
  done : AimedEach (λ x. (goal.Receiver-dyn g (x.vtable, x.value)).seen x.value) (take l.at l.routes)
      l.fn.self.held.items l.fn.self.progress l.self.held.items l.self.progress;
}
