use Rattle.std.proofs.Common.{rules, ◌≡◌, drop, arith}
use Rattle.datagram_core.proofs.Puts.{behind_kept, stands_in_front}
use Rattle.datagram_core.proofs.writer_parts.append_front.Goals as goal

pub returns-clause-extends : goal.returns-clause-extends
returns-clause-extends c =
    let out = c.write_front.new.out in
    let n = c.front_length-size.result in
    let at : n ≡ out.len =
    omega (arith, c.front_length-size.ensures.exact, c.in-Ok.ensures.len, c.new-out.ensures.len) in
    let same : drop n out.room.now ≡ drop n c.args.room.now =
    behind_kept c.args.room.now n c.new-out.result out _ c.new-out.ensures.bytes c.in-Ok.ensures
    at in
    let front = stands_in_front n c.new-out.result out _ c.new-out.ensures.len c.in-Ok.ensures at in
    record {
      size = search (rules, same);
      ends = search (rules, same);
      whole = search (rules, front);
      behind = search (rules, same);
    }
