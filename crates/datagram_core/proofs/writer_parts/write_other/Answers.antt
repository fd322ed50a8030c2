use Rattle.std.proofs.Common.{ℕ, subst}
use Rattle.std.specs.Int.{w32, to_be_bytes}
use Rattle.wire_spec.specs.Spelling.{counted}
use Rattle.xdr_words.specs.Written.{Appends}
use Rattle.xdr_words.proofs.Puts.{last_put}
use Rattle.data_format.specs.Views.{format_word}
use Rattle.datagram_core.proofs.writer_parts.write_other.Goals as goal

pub returns : goal.returns
returns c =
    let First : ℕ → Type 0 = λ k. Appends c.args.out.now c.put_word.new.self (to_be_bytes w32 k) in
    last_put c.args.out.now c.put_word.new.self c.put_opaque.new.self (to_be_bytes w32 (format_word c.args.format))
    (counted c.args.body.now) c.put_opaque.result (subst First c.to_word.ensures c.in_ok-put_word.ensures) c.put_opaque.ensures
    c.requires.room
