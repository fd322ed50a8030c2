-- Some receives went well, and what came was taken.
use Rattle.std.proofs.Common.{◌≡◌, ◌≤◌, ◌+◌, length}
use Rattle.std.specs.Prelude.{vec_len}
use Rattle.sflow_tool.specs.Replays.{Collects}
use Rattle.sflow_tool.proofs.Turns.{TurnsSoFar}
use Rattle.sflow_tool.proofs.collect.receive_turns.Given as goal

abbrev pub invariant-loop-count : goal.invariant-loop-count
invariant-loop-count g l = record {
  far : TurnsSoFar (λ entries. Collects
      (λ x b y. (v : _) × (y ≡ record x { value = v }) × (goal.Tap-dyn g (x.vtable, x.value)).step x.value b v)
      (λ x. (goal.Tap-dyn g (x.vtable, x.value)).ended x.value)
      l.initial.collector.books.limits l.collector l.initial.taps.held.items l.taps.held.items
      (l.initial.taps.ended + vec_len l.initial.taps.held) (l.taps.ended + vec_len l.taps.held) entries)
      (g.L.Link.seen l.initial.link) (g.L.Link.seen l.link) l.count;
  few : l.taps.ended + vec_len l.taps.held ≡ l.initial.taps.ended + vec_len l.initial.taps.held;
  within : l.count ≤ l.turns;
  room : length l.room ≡ 65535;
}
