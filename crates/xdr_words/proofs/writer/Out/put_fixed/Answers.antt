use Rattle.std.proofs.Common.{ℕ, length, replicate, arith}
use Rattle.std.proofs.lemmas.List.{length-append, length-replicate}
use Rattle.wire_spec.specs.Padding.{padding_of}
use Rattle.xdr_words.proofs.Puts.{last_put}
use Rattle.xdr_words.proofs.writer.Out.put_fixed.Goals as goal

pub returns : goal.returns
returns c =
    let bytes = c.args.bytes.now in
    let n = padding_of (length bytes) in
    last_put c.args.self.now c.put_raw.new.self c.put_padding.new.self bytes (replicate n 0) c.put_padding.result
    c.in_ok-put_raw.ensures c.put_padding.ensures
    (omega (arith, length-append bytes (replicate n 0), length-replicate {A = ℕ} n 0))
