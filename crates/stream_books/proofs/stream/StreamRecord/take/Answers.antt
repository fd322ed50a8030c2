use Rattle.std.proofs.Common.{◌≡◌, ◌∙◌, sym, pos, ◌-ℤ◌, to_z, of_z, arith}
use Rattle.std.specs.Int.{w128}
use Rattle.std.proofs.lemmas.Int.{ints}
use Rattle.count_spec.specs.Boots.{boot_mark}
use Rattle.books_spec.specs.Items.{stamp_of}
use Rattle.stream_books.proofs.Steps.{take-stands, after-current, after-next, after-stale}
use Rattle.stream_books.proofs.stream.StreamRecord.take.Goals as goal

pub returns-in-Current-clause-stands : goal.returns-in-Current-clause-stands
returns-in-Current-clause-stands c = λ d ds at st.
    let start : to_z w128 (of_z w128 (to_z w128 c.args.arrival -ℤ to_z w128 c.args.uptime))
    ≡ (pos c.args.arrival -ℤ pos c.args.uptime) = omega (arith, ints) in
    let mark : boot_mark (stamp_of d) ≡ to_z w128 (of_z w128 (to_z w128 c.args.arrival -ℤ to_z w128 c.args.uptime)) =
    (λ j. pos (at.0 j) -ℤ pos (at.1 j)) ∙ sym start in
    take-stands c.args.slack c.args.self.now c.enter.new.self
    (to_z w128 (of_z w128 (to_z w128 c.args.arrival -ℤ to_z w128 c.args.uptime))) d ds mark
    (after-current c.args.slack c.args.self.now c.enter.new.self
    (to_z w128 (of_z w128 (to_z w128 c.args.arrival -ℤ to_z w128 c.args.uptime))) d
    (sym c.in-Current.ensures) c.enter.ensures.width
    (λ current closed stale old. c.enter.ensures.stands d current closed stale mark at.2 old)) st

pub returns-in-Next-clause-stands : goal.returns-in-Next-clause-stands
returns-in-Next-clause-stands c = λ d ds at st.
    let start : to_z w128 (of_z w128 (to_z w128 c.args.arrival -ℤ to_z w128 c.args.uptime))
    ≡ (pos c.args.arrival -ℤ pos c.args.uptime) = omega (arith, ints) in
    let mark : boot_mark (stamp_of d) ≡ to_z w128 (of_z w128 (to_z w128 c.args.arrival -ℤ to_z w128 c.args.uptime)) =
    (λ j. pos (at.0 j) -ℤ pos (at.1 j)) ∙ sym start in
    take-stands c.args.slack c.args.self.now c.begin.new.self
    (to_z w128 (of_z w128 (to_z w128 c.args.arrival -ℤ to_z w128 c.args.uptime))) d ds mark
    (after-next c.args.slack c.args.self.now c.begin.new.self
    (to_z w128 (of_z w128 (to_z w128 c.args.arrival -ℤ to_z w128 c.args.uptime))) d
    (sym c.in-Next.ensures) c.begin.ensures.width
    (λ bs stale old. c.begin.ensures.stands d bs stale mark at.2 old)) st

pub returns-in-Stale-clause-stands : goal.returns-in-Stale-clause-stands
returns-in-Stale-clause-stands c = λ d ds at st.
    let start : to_z w128 (of_z w128 (to_z w128 c.args.arrival -ℤ to_z w128 c.args.uptime))
    ≡ (pos c.args.arrival -ℤ pos c.args.uptime) = omega (arith, ints) in
    let mark : boot_mark (stamp_of d) ≡ to_z w128 (of_z w128 (to_z w128 c.args.arrival -ℤ to_z w128 c.args.uptime)) =
    (λ j. pos (at.0 j) -ℤ pos (at.1 j)) ∙ sym start in
    take-stands c.args.slack c.args.self.now c.pass.new.self
    (to_z w128 (of_z w128 (to_z w128 c.args.arrival -ℤ to_z w128 c.args.uptime))) d ds mark
    (after-stale c.args.slack c.args.self.now c.pass.new.self
    (to_z w128 (of_z w128 (to_z w128 c.args.arrival -ℤ to_z w128 c.args.uptime))) d
    (sym c.in-Stale.ensures) c.pass.ensures.width
    (λ bs stale old. c.pass.ensures.stands d bs stale old)) st
