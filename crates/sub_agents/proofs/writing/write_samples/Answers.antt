use Rattle.std.proofs.Common.{◌≡◌, ◌+◌, ℕ, sym, arith}
use Rattle.std.specs.Prelude.{slice_get}
use Rattle.std.specs.declared.option.Option.TheVariants.{Some}
use Rattle.datagram_core.proofs.Filling.{own_room}
use Rattle.sub_agents.specs.declared.staged.Staged.{Staged}
use Rattle.sub_agents.specs.Staged.{staged_value}
use Rattle.sub_agents.proofs.Appends.{writing-step, next-size, fewer}
use Rattle.sub_agents.proofs.writing.write_samples.Goals as goal

pub loop-place-init : goal.loop-place-init
loop-place-init c = record {
  room = own_room c.args.writer.now;
  closed = c.requires.closed;
  has = λ h begun. begun;
  left = omega arith;
}

pub write_sample-requires-clause-room : goal.write_sample-requires-clause-room
write_sample-requires-clause-room c =
    let i : ℕ = c.loop-place.place in
    let x : Staged = c.in-Some.sample.now in
    let at : slice_get c.args.stage.now.items i ≡ Some x = sym c.in-Some.ensures in
    omega (
      arith,
      c.requires.room,
      c.loop-place.invariant.left,
      c.loop-place-test.true,
      next-size (staged_value c.args.form) c.args.stage.now.items i x at,
      fewer (staged_value c.args.form) c.args.stage.now.items (i + 1) c.args.count (omega (arith, c.loop-place-test.true)),
    )

pub loop-place-preserved : goal.loop-place-preserved
loop-place-preserved c =
    let x : Staged = c.in-Some.sample.now in
    writing-step (staged_value c.args.form) c.args.writer.now c.loop-place.writer c.write_sample.new.writer
    c.args.stage.now.items c.loop-place.place x c.loop-place.invariant (sym c.in-Some.ensures) c.write_sample.ensures
