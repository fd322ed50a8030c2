use Rattle.std.proofs.Common.{rules, ◌≡◌, List, ℕ, drop, ap, ◌∙◌}
use Rattle.std.proofs.lemmas.List.{length-take-le}
use Rattle.xdr_words.proofs.Puts.{both_appended}
use Rattle.xdr_words.proofs.writer.put_behind.Goals as goal

pub returns-clause-behind : goal.returns-clause-behind
returns-clause-behind c =
    let out = c.put_raw.new.self in
    let both = both_appended _ _ out _ _ c.write_each.ensures c.in_ok-put_raw.ensures in
    let len : c.len.result ≡ out.len = c.len.ensures ∙ length-take-le out.len out.room.now out.within in
    let same : drop out.len out.room.now ≡ drop out.len c.args.room.now =
    both.behind ∙ ap (λ (l : List ℕ). drop out.len l) c.resume-out.ensures.bytes in
    search (rules, len, same)
