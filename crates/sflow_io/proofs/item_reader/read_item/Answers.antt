use Rattle.std.proofs.Common.{◌≡◌, length, sym, ap, ◌∙◌, arith}
use Rattle.capture_spec.specs.ItemReading.{front_of_word}
use Rattle.capture_spec.proofs.ItemFrontsBack.{item_short}
use Rattle.sflow_io.proofs.Fronts.{goes_on, stops_short}
use Rattle.sflow_io.proofs.ItemParts.{item_word}
use Rattle.sflow_io.proofs.item_reader.read_item.Goals as goal

pub returns-in-Err : goal.returns-in-Err
returns-in-Err g c =
    let long : length c.read_part.new.part ≡ 4 = omega arith in
    record {
      reads = stops_short _ _ _ _ _ _ _ _ _ c.in-Err.ensures.reads
          (λ bytes short. item_short c.args.count bytes (omega (arith, short, long)));
    }

pub returns : goal.returns
returns g c =
    let long : length c.read_part.new.part ≡ 4 = omega arith in
    record {
      reads = goes_on _ _ _ _ _ _ _ _ _ _ _ _ c.in_default.ensures.reads
          (λ tail. item_word c.read_part.new.part tail c.args.count long
          ∙ ap (λ n. front_of_word c.args.count n tail) (sym c.from_be_bytes.ensures))
          c.read_behind_word.ensures.reads;
    }
