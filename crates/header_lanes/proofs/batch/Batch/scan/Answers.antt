use Rattle.std.proofs.Common.{ap, ◌∙◌, sym, map, set, arith}
use Rattle.std.proofs.lemmas.List.{get_or-map, length-map}
use Rattle.header_lanes.specs.declared.header.Kind.TheVariants.{Unscanned}
use Rattle.header_lanes.specs.Numbers.{bare}
use Rattle.header_lanes.specs.Slots.{owed}
use Rattle.header_lanes.proofs.Slots.{one_written}
use Rattle.header_lanes.proofs.batch.Batch.scan.Goals as goal

pub loop-k-preserved : goal.loop-k-preserved
loop-k-preserved c =
    let b = c.self.inside in
    let k = c.loop-k.k in
    let blank = bare Unscanned in
    ap (λ l. set l k c.tell.new.facts) c.loop-k.invariant
    ∙ one_written (map owed b.slots) k 16 blank c.tell.new.facts blank
    (omega (arith, c.loop-k-test.true, c.self.invariant.0, c.self.invariant.1, length-map b.slots owed))
    (omega (arith, c.loop-k-test.true, c.self.invariant.0))
    (get_or-map owed b.slots k _ blank (omega (arith, c.loop-k-test.true, c.self.invariant.0, c.self.invariant.1)) ∙ sym c.tell.ensures)
