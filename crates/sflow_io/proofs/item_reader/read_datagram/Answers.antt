use Rattle.std.proofs.Common.{◌≡◌, length, sym, ap, ◌∙◌, arith}
use Rattle.capture_spec.specs.ItemReading.{front_from}
use Rattle.sflow_io.specs.Fronts.{sized}
use Rattle.sflow_io.specs.Senders.{sender_in}
use Rattle.sflow_io.proofs.EntryFronts.{datagram_cut, datagram_sized}
use Rattle.sflow_io.proofs.Fronts.{goes_on, stops_short}
use Rattle.sflow_io.proofs.item_reader.read_datagram.Goals as goal

pub returns-in-Err : goal.returns-in-Err
returns-in-Err g c =
    let long : length c.read_part.new.part ≡ 4 = omega arith in
    record {
      reads = stops_short _ _ _ _ _ _ _ _ _ c.in-Err.ensures.reads
          (λ bytes short. ap (front_from (sender_in c.args.start.now.from) c.args.start.now.more)
          (datagram_cut c.args.start.now.at bytes (omega (arith, short, long))));
    }

pub returns : goal.returns
returns g c =
    let long : length c.read_part.new.part ≡ 4 = omega arith in
    let at = c.args.start.now.at in
    record {
      reads = goes_on _ _ _ _ _ _ _ _ _ _ _ _ c.in_default.ensures.reads
          (λ tail. ap (front_from (sender_in c.args.start.now.from) c.args.start.now.more)
          (datagram_sized at c.read_part.new.part tail c.requires.time long
          ∙ ap (λ n. sized at n tail) (sym c.from_be_bytes.ensures)))
          c.read_sized.ensures.reads;
    }
