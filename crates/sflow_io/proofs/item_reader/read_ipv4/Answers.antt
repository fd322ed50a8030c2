use Rattle.std.proofs.Common.{◌≡◌, length, drop, sym, ap, ◌∙◌, arith}
use Rattle.std.specs.Int.{w32, from_be_bytes}
use Rattle.wire_spec.specs.Heads.{ipv4}
use Rattle.capture_spec.specs.ItemReading.{front_of_port}
use Rattle.sflow_io.proofs.Fronts.{goes_on, stops_short}
use Rattle.sflow_io.proofs.ItemParts.{address_cut, address_port}
use Rattle.sflow_io.proofs.item_reader.read_ipv4.Goals as goal

pub returns-in-Err : goal.returns-in-Err
returns-in-Err g c =
    let long : length c.read_part.new.part ≡ 8 = omega arith in
    record {
      reads = stops_short _ _ _ _ _ _ _ _ _ c.in-Err.ensures.reads
          (λ bytes short. address_cut c.args.at ipv4 4 bytes (omega (arith, short, long)));
    }

pub returns : goal.returns
returns g c =
    let part = c.read_part.new.part in
    let long : length part ≡ 8 = omega arith in
    record {
      reads = goes_on _ _ _ _ _ _ _ _ _ _ _ _ c.in_default.ensures.reads
          (λ tail. address_port part tail c.args.at ipv4 4 (omega (arith, long))
          ∙ ap (λ l. front_of_port c.args.at (ipv4 l) 4 (from_be_bytes w32 (drop 4 part)) tail) (sym c.first_four.ensures)
          ∙ ap (λ n. front_of_port c.args.at (ipv4 c.first_four.result) 4 n tail) (sym c.port_behind_four-port.ensures))
          c.read_behind_port.ensures.reads;
    }
