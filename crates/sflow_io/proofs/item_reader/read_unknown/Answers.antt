use Rattle.std.proofs.Common.{◌≡◌, length, sym, ap, ◌∙◌, arith}
use Rattle.wire_spec.specs.Heads.{unknown}
use Rattle.capture_spec.specs.ItemReading.{front_of_port, no_address}
use Rattle.sflow_io.proofs.Fronts.{goes_on, stops_short}
use Rattle.sflow_io.proofs.ItemParts.{address_cut, address_port}
use Rattle.sflow_io.proofs.item_reader.read_unknown.Goals as goal

pub returns-in-Err : goal.returns-in-Err
returns-in-Err g c =
    let long : length c.read_part.new.part ≡ 4 = omega arith in
    record {
      reads = stops_short _ _ _ _ _ _ _ _ _ c.in-Err.ensures.reads
          (λ bytes short. address_cut c.args.at no_address 0 bytes (omega (arith, short, long)));
    }

pub returns : goal.returns
returns g c =
    let long : length c.read_part.new.part ≡ 4 = omega arith in
    record {
      reads = goes_on _ _ _ _ _ _ _ _ _ _ _ _ c.in_default.ensures.reads
          (λ tail. address_port c.read_part.new.part tail c.args.at no_address 0 (omega (arith, long))
          ∙ ap (λ n. front_of_port c.args.at unknown 0 n tail) (sym c.from_be_bytes-port.ensures))
          c.read_behind_port.ensures.reads;
    }
