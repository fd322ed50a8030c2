use Rattle.std.proofs.Common.{◌≡◌, ℕ, List, [], ◌∷◌, length, take, sym, ap, arith, length-take-le}
use Rattle.wire_spec.specs.Padding.{padding_of}
use Rattle.capture_spec.specs.ItemReading.{front_from}
use Rattle.sflow_io.specs.Senders.{sender_in}
use Rattle.sflow_io.proofs.EntryFronts.{padding_breaks, padding_cut, padding_holds}
use Rattle.sflow_io.proofs.entry_reader.read_padding.Goals as goal

-- the room for the padding is of four bytes, and so much of it is filled
abbrev four_zeros : List ℕ
four_zeros = 0 ∷ 0 ∷ 0 ∷ 0 ∷ []

pub returns-in-Some-clause-told : goal.returns-in-Some-clause-told
returns-in-Some-clause-told g c = λ bytes told.
    let len : length (take c.args.len c.args.room.now) ≡ c.args.len = length-take-le _ _ c.requires.room in
    let room : length c.read_most.new.room ≡ padding_of c.args.len =
    omega (arith, length-take-le (padding_of c.args.len) four_zeros (omega arith)) in
    let breaks = padding_breaks _ _ _ _ _ _ _ _ _ len room told c.in-Ok.ensures.reads _ c.in-Some.ensures in
    (_, ap (front_from (sender_in c.args.start.now.from) c.args.start.now.more) breaks, omega arith)

pub returns-then-count-most-clause-told : goal.returns-then-count-most-clause-told
returns-then-count-most-clause-told g c = λ bytes told.
    let len : length (take c.args.len c.args.room.now) ≡ c.args.len = length-take-le _ _ c.requires.room in
    let room : length c.read_most.new.room ≡ padding_of c.args.len =
    omega (arith, length-take-le (padding_of c.args.len) four_zeros (omega arith)) in
    let cut =
    padding_cut _ _ _ _ _ _ _ _ _ len room told c.in-Ok.ensures.reads c.in_default-find_nonzero.ensures c.if-count-most.true in
    (0, ap (front_from (sender_in c.args.start.now.from) c.args.start.now.more) cut, omega arith)

pub returns-clause-told : goal.returns-clause-told
returns-clause-told g c = λ bytes told.
    let len : length (take c.args.len c.args.room.now) ≡ c.args.len = length-take-le _ _ c.requires.room in
    let room : length c.read_most.new.room ≡ padding_of c.args.len =
    omega (arith, length-take-le (padding_of c.args.len) four_zeros (omega arith)) in
    let h = padding_holds c.args.start.now.at _ _ _ _ _ _ _ _ len room told c.in-Ok.ensures.reads c.in_default-find_nonzero.ensures c.if-count-most.false in
    record {
      rest = _;
      holds = ap (front_from (sender_in c.args.start.now.from) c.args.start.now.more) h.0;
      length_is = sym len;
      left_is = h.1;
    }
