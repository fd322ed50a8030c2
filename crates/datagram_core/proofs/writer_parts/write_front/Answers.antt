use Rattle.std.proofs.Common.{◌++◌}
use Rattle.std.specs.Int.{w32, to_be_bytes}
use Rattle.wire_spec.specs.Heads.{address_tree}
use Rattle.wire_spec.specs.Spelling.{spell}
use Rattle.xdr_words.proofs.Puts.{both_appended, last_put}
use Rattle.data_format.specs.Addresses.{address_of}
use Rattle.datagram_core.proofs.writer_parts.write_front.Goals as goal

pub returns : goal.returns
returns c =
    last_put c.args.out.now c.write.new.out c.write_run.new.out
    (to_be_bytes w32 5 ++ spell (address_tree (address_of c.args.head.now.agent))) _ c.write_run.result
    (both_appended _ _ _ _ _ c.in_ok-put_word.ensures c.in_ok-write.ensures) c.write_run.ensures c.requires
