-- Some receives went well, what came was taken, and what of it is First went on.
use Rattle.std.proofs.Common.{◌≡◌, ◌≤◌, ◌+◌, length}
use Rattle.std.specs.Prelude.{vec_len}
use Rattle.sflow_tool.proofs.RelayRuns.{Both}
use Rattle.sflow_tool.proofs.Turns.{TurnsSoFar}
use Rattle.sflow_tool.proofs.relay.relay_turns.Given as goal

abbrev pub invariant-loop-count : goal.invariant-loop-count
invariant-loop-count g l = record {
  far : TurnsSoFar (Both
      (λ x b y. (v : _) × (y ≡ record x { value = v }) × (goal.Tap-dyn g (x.vtable, x.value)).step x.value b v)
      (λ x. (goal.Tap-dyn g (x.vtable, x.value)).ended x.value) l.fn.collector.books.limits
      (λ x. (goal.Receiver-dyn g (x.vtable, x.value)).seen x.value) l.routes l.fn.taps.held.items l.fn.receivers.held.items
      (l.fn.taps.ended + vec_len l.fn.taps.held) l.collector l.taps.held.items (l.taps.ended + vec_len l.taps.held)
      l.receivers.held.items l.receivers.progress)
      (g.L.Link.seen l.fn.link) (g.L.Link.seen l.link) l.count;
  few : l.taps.ended + vec_len l.taps.held ≡ l.fn.taps.ended + vec_len l.fn.taps.held;
  within : l.count ≤ l.turns;
  room : length l.room ≡ 65535;
  many : vec_len l.receivers.held ≡ vec_len l.fn.receivers.held;
}
