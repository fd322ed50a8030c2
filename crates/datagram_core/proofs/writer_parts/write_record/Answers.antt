use Rattle.std.proofs.Common.{ℕ, subst}
use Rattle.std.specs.Int.{w32, to_be_bytes}
use Rattle.xdr_words.specs.Written.{Appends}
use Rattle.datagram_core.proofs.Frames.{frame_written}
use Rattle.datagram_core.proofs.writer_parts.write_record.Goals as goal

pub returns : goal.returns
returns c =
    let First : ℕ → Type 0 = λ k. Appends c.args.out.now c.put_word.new.self (to_be_bytes w32 k) in
    frame_written c.args.item.now c.args.size c.args.out.now c.put_word.new.self c.put_word-2.new.self c.write_body.new.out
    c.put_padding.new.self c.put_padding.result c.requires.size c.requires.room
    (subst First c.format_word_of.ensures c.in_ok-put_word.ensures) c.in_ok-put_word-2.ensures c.in_ok-write_body.ensures
    c.put_padding.ensures
