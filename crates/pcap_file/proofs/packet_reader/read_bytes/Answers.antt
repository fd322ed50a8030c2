use Rattle.std.proofs.Common.{◌≡◌, ◌++◌, length, drop, refl, arith, length-append, length-take-le}
use Rattle.pcap_file.proofs.PacketFronts.{bytes_cut, bytes_hold}
use Rattle.pcap_file.proofs.packet_reader.read_bytes.Goals as goal

pub returns-then-count-len-clause-told : goal.returns-then-count-len-clause-told
returns-then-count-len-clause-told g c = λ bytes told.
    let room : length c.read_most.new.room ≡ c.args.len =
    omega (arith, length-take-le c.args.len c.args.room.now c.requires.room) in (
      bytes_cut _ _ _ _ _ (drop c.args.len c.args.room.now) _ _ room told c.in-Ok.ensures.reads c.if-count-len.true,
      refl,
    )

pub returns-clause-told : goal.returns-clause-told
returns-clause-told g c = λ bytes told.
    let room : length c.read_most.new.room ≡ c.args.len =
    omega (arith, length-take-le c.args.len c.args.room.now c.requires.room) in
    let h =
    bytes_hold c.args.at _ _ _ _ (drop c.args.len c.args.room.now) _ _ room told c.in-Ok.ensures.reads
    c.if-count-len.false in
    record { rest = _; holds = h.0; length_is = omega (arith, room, length-take-le c.args.len (c.read_most.new.room ++ drop c.args.len c.args.room.now) (omega (arith, room, length-append c.read_most.new.room (drop c.args.len c.args.room.now)))); left_is = h.1 }
