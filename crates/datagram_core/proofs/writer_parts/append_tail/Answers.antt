use Rattle.std.proofs.Common.{rules, ◌≡◌, drop, ◌∙◌}
use Rattle.std.proofs.lemmas.List.{length-take-le}
use Rattle.datagram_core.proofs.Puts.{behind_kept}
use Rattle.datagram_core.proofs.writer_parts.append_tail.Goals as goal

pub returns : goal.returns
returns c =
    let out = c.put_fixed.new.self in
    let n = c.len.result in
    let same : drop n out.room.now ≡ drop n c.args.room.now =
    behind_kept c.args.room.now n c.resume-out.result out _ c.resume-out.ensures.bytes c.in_ok-put_fixed.ensures
    (c.len.ensures ∙ length-take-le out.len out.room.now out.within) in
    record {
      size = search (rules, same);
      ends = search (rules, same);
      whole = search (rules, same);
      behind = search (rules, same);
    }
