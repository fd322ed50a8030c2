use Rattle.std.proofs.Common.{◌≡◌, length, take, drop, sym, ap, ◌∙◌, arith}
use Rattle.std.specs.Int.{w32, from_be_bytes}
use Rattle.capture_spec.specs.ItemReading.{front_of_kind}
use Rattle.capture_spec.proofs.ItemFrontsBack.{head_short}
use Rattle.sflow_io.proofs.Fronts.{goes_on, stops_short}
use Rattle.sflow_io.proofs.ItemParts.{head_kind}
use Rattle.sflow_io.proofs.item_reader.read_head.Goals as goal

pub returns-in-Err : goal.returns-in-Err
returns-in-Err g c =
    let long : length c.read_part.new.part ≡ 12 = omega arith in
    record {
      reads = stops_short _ _ _ _ _ _ _ _ _ c.in-Err.ensures.reads
          (λ bytes short. head_short bytes (omega (arith, short, long)));
    }

pub returns : goal.returns
returns g c =
    let part = c.read_part.new.part in
    let long : length part ≡ 12 = omega arith in
    record {
      reads = goes_on _ _ _ _ _ _ _ _ _ _ _ _ c.in_default.ensures.reads
          (λ tail. head_kind part tail long
          ∙ ap (λ n. front_of_kind n (from_be_bytes w32 (take 4 (drop 8 part))) tail) (sym c.arrival_in.ensures)
          ∙ ap (λ n. front_of_kind c.arrival_in.result n tail) (sym c.word_in.ensures))
          c.read_sender.ensures.reads;
    }
