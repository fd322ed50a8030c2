use Rattle.std.proofs.Common.{◌≡◌, length, sym, ◌∙◌, arith}
use Rattle.capture_spec.proofs.ItemFrontsBack.{end_short}
use Rattle.sflow_io.proofs.Fronts.{breaks, goes_on, stops_short}
use Rattle.sflow_io.proofs.ItemParts.{end_number, end_other}
use Rattle.sflow_io.proofs.item_reader.read_end_item.Goals as goal

pub returns-in-Err-clause-reads : goal.returns-in-Err-clause-reads
returns-in-Err-clause-reads g c = λ room.
    let long : length c.read_part.new.part ≡ 8 = omega arith in
    stops_short _ _ _ _ _ _ _ _ _ c.in-Err.ensures.reads
    (λ bytes short. end_short c.args.count bytes (omega (arith, short, long)))

pub returns-then-from_be_bytes-count-clause-reads : goal.returns-then-from_be_bytes-count-clause-reads
returns-then-from_be_bytes-count-clause-reads g c = λ room.
    let long : length c.read_part.new.part ≡ 8 = omega arith in
    breaks _ _ _ _ _ _ _ _ _ 4 _ c.in_default.ensures.reads
    (λ tail. end_other c.read_part.new.part tail c.args.count long
    (λ e. c.if-from_be_bytes-count.true (c.from_be_bytes.ensures ∙ e)))
    (omega arith)

pub returns-clause-reads : goal.returns-clause-reads
returns-clause-reads g c = λ room.
    let long : length c.read_part.new.part ≡ 8 = omega arith in
    goes_on _ _ _ _ _ _ _ _ _ _ _ _ c.in_default.ensures.reads
    (λ tail. end_number c.read_part.new.part tail c.args.count long
    (sym c.from_be_bytes.ensures ∙ c.if-from_be_bytes-count.false))
    (c.read_after.ensures.reads room)
