use Rattle.std.proofs.Common.{◌≡◌, None, length, take, drop, sym, ap, ◌∙◌, arith}
use Rattle.std.specs.Int.{w32, from_be_bytes}
use Rattle.capture_spec.specs.ItemReading.{front_from}
use Rattle.sflow_io.specs.Fronts.{sized}
use Rattle.sflow_io.proofs.EntryFronts.{head_cut, head_none, head_sized, head_stops}
use Rattle.sflow_io.proofs.Fronts.{cut_here, ends_here, failed_here, goes_on, part_filled}
use Rattle.sflow_io.proofs.entry_reader.read_entry.Goals as goal

pub returns-in_default : goal.returns-in_default
returns-in_default g c =
    let room : length c.read_most.new.room ≡ 12 = omega arith in
    record {
      reads = failed_here _ _ _ _ _ _ _ _ c.in_default.ensures.reads c.in_default.ensures.none
          (λ bytes short. head_none bytes (omega (arith, short, room)));
    }

pub returns-then-count-eq0 : goal.returns-then-count-eq0
returns-then-count-eq0 g c =
    let room : length c.read_most.new.room ≡ 12 = omega arith in
    record {
      reads = ends_here _ _ _ _ _ _ _ _ _ c.in-Ok.ensures.reads c.if-count-eq0.true (omega (arith, room))
          (λ bytes none. ap (front_from None 0) (head_stops bytes none));
    }

pub returns-then-count-lt12 : goal.returns-then-count-lt12
returns-then-count-lt12 g c =
    let room : length c.read_most.new.room ≡ 12 = omega arith in
    record {
      reads = cut_here _ _ _ _ _ _ _ _ _ c.in-Ok.ensures.reads (omega arith) (omega (arith, room, c.if-count-lt12.true))
          (λ bytes some short. ap (front_from None 0) (head_cut bytes some (omega (arith, short, room))));
    }

pub returns : goal.returns
returns g c =
    let room : length c.read_most.new.room ≡ 12 = omega arith in
    let part = part_filled c.args.offset _ _ _ _ _ _ c.in-Ok.ensures.reads (omega (arith, room, c.if-count-lt12.false)) in
    record {
      reads = goes_on _ _ _ _ _ _ _ _ _ _ _ _ part
          (λ tail. ap (front_from None 0) (head_sized c.read_most.new.room tail room
          ∙ ap (λ n. sized n (from_be_bytes w32 (take 4 (drop 8 c.read_most.new.room))) tail) (sym c.arrival_in.ensures)
          ∙ ap (λ n. sized c.arrival_in.result n tail) (sym c.word_in.ensures)))
          c.read_sized.ensures.reads;
    }
