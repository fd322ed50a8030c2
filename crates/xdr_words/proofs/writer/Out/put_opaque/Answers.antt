use Rattle.std.proofs.Common.{ℕ, length, replicate, arith}
use Rattle.std.proofs.lemmas.List.{length-append, length-replicate}
use Rattle.std.specs.Int.{w32, to_be_bytes}
use Rattle.wire_spec.specs.Padding.{padding_of}
use Rattle.wire_spec.specs.Spelling.{padded}
use Rattle.xdr_words.proofs.Puts.{last_put}
use Rattle.xdr_words.proofs.writer.Out.put_opaque.Goals as goal

pub returns : goal.returns
returns c =
    let bytes = c.args.bytes.now in
    let n = padding_of (length bytes) in
    last_put c.args.self.now c.put_word.new.self c.put_fixed.new.self (to_be_bytes w32 (length bytes)) (padded bytes)
    c.put_fixed.result c.in_ok-put_word.ensures c.put_fixed.ensures
    (omega (arith, length-append bytes (replicate n 0), length-replicate {A = ℕ} n 0))
