use Rattle.std.proofs.Common.{◌≡◌, length, take, drop, ap, arith, length-take-le}
use Rattle.capture_spec.specs.ItemReading.{front_from}
use Rattle.byte_ends.proofs.Unread.{stops_later}
use Rattle.sflow_io.specs.Senders.{sender_in}
use Rattle.sflow_io.proofs.EntryFronts.{body_cut, body_goes_on}
use Rattle.sflow_io.proofs.entry_reader.read_body.Goals as goal

pub returns-then-count-len-clause-told : goal.returns-then-count-len-clause-told
returns-then-count-len-clause-told g c = λ bytes told.
    let room : length c.read_most.new.room ≡ c.args.len =
    omega (arith, length-take-le c.args.len c.args.room.now c.requires.room) in
    let cut =
    body_cut _ _ _ _ _ (drop c.args.len c.args.room.now) _ _ room told c.in-Ok.ensures.reads c.if-count-len.true in
    (0, ap (front_from (sender_in c.args.start.now.from) c.args.start.now.more) cut, omega arith)

pub returns-clause-told : goal.returns-clause-told
returns-clause-told g c = λ bytes told.
    let room : length c.read_most.new.room ≡ c.args.len =
    omega (arith, length-take-le c.args.len c.args.room.now c.requires.room) in
    let h =
    body_goes_on c.args.start.now.at _ _ _ _ (drop c.args.len c.args.room.now) _ _ room told c.in-Ok.ensures.reads
    c.if-count-len.false in
    rw h.0 (c.read_padding.ensures.told _ h.1)

pub returns-clause-stops : goal.returns-clause-stops
returns-clause-stops g c = λ failed.
    let room : length c.read_most.new.room ≡ c.args.len =
    omega (arith, length-take-le c.args.len c.args.room.now c.requires.room) in
    let size : length (take c.in-Ok.count c.read_most.new.room) ≡ c.args.len =
    omega (arith, room, c.if-count-len.false, c.in-Ok.ensures.reads.within, length-take-le c.in-Ok.count c.read_most.new.room c.in-Ok.ensures.reads.within) in
    stops_later _ _ _ _ _ _ c.in-Ok.ensures.reads.given.consumed size (c.read_padding.ensures.stops failed)
