use Rattle.std.proofs.Common.{◌≡◌, length, sym, ap, ◌∙◌, arith}
use Rattle.capture_spec.specs.ItemReading.{front_of_item, front_of_word}
use Rattle.capture_spec.proofs.ItemFrontsBack.{item_short}
use Rattle.sflow_io.proofs.Fronts.{goes_on, stops_short}
use Rattle.sflow_io.proofs.ItemParts.{item_word}
use Rattle.sflow_io.proofs.LastItems.{further_entry, last_behind, last_short}
use Rattle.sflow_io.proofs.item_reader.read_last_item.Goals as goal

pub returns-in-Err-clause-told : goal.returns-in-Err-clause-told
returns-in-Err-clause-told g c = λ bytes told.
    last_short _ _ _ _ _ c.read_part.new.part (omega arith) bytes told c.args.count c.in-Err.refusal c.in-Err.ensures.reads

pub returns-in-Err-clause-stops : goal.returns-in-Err-clause-stops
returns-in-Err-clause-stops g c = λ failed.
    let long : length c.read_part.new.part ≡ 4 = omega arith in
    let reads =
    stops_short _ _ _ _ _ _ c.args.room.now (front_of_item c.args.count) c.in-Err.refusal c.in-Err.ensures.reads
    (λ bytes short. item_short c.args.count bytes (omega (arith, short, long))) in
    reads.stops failed

pub returns-then-word-eq1-clause-told : goal.returns-then-word-eq1-clause-told
returns-then-word-eq1-clause-told g c = λ bytes told.
    further_entry c.args.offset _ _ _ _ c.read_part.new.part (omega arith) bytes told c.in_default.ensures.reads
    (sym c.from_be_bytes-word.ensures ∙ c.if-word-eq1.true)

pub returns-clause-told : goal.returns-clause-told
returns-clause-told g c = λ bytes told.
    let long : length c.read_part.new.part ≡ 4 = omega arith in
    let reads =
    goes_on _ _ _ _ _ _ _ (front_of_item c.args.count) _ _ _ _ c.in_default.ensures.reads
    (λ tail. item_word c.read_part.new.part tail c.args.count long
    ∙ ap (λ n. front_of_word c.args.count n tail) (sym c.from_be_bytes-word.ensures))
    c.read_behind_word.ensures.reads in
    last_behind _ _ _ _ _ c.read_part.new.part long bytes told c.args.count _ _ _ _ c.in_default.ensures.reads
    (λ e. c.if-word-eq1.false (c.from_be_bytes-word.ensures ∙ e))
    (c.read_behind_word.ensures.none c.if-word-eq1.false) reads

pub returns-clause-stops : goal.returns-clause-stops
returns-clause-stops g c = λ failed.
    let long : length c.read_part.new.part ≡ 4 = omega arith in
    let reads =
    goes_on _ _ _ _ _ _ _ (front_of_item c.args.count) _ _ _ _ c.in_default.ensures.reads
    (λ tail. item_word c.read_part.new.part tail c.args.count long
    ∙ ap (λ n. front_of_word c.args.count n tail) (sym c.from_be_bytes-word.ensures))
    c.read_behind_word.ensures.reads in
    reads.stops failed
