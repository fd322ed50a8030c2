use Rattle.std.proofs.Common.{ℕ, length, ap, arith}
use Rattle.std.specs.Int.{w32, to_be_bytes}
use Rattle.wire_spec.specs.Heads.{address_tree}
use Rattle.wire_spec.specs.Spelling.{padded, spell}
use Rattle.xdr_words.proofs.Puts.{last_put}
use Rattle.data_format.specs.Addresses.{address_of}
use Rattle.data_format.specs.declared.address.Address.{Address}
use Rattle.data_format.proofs.address.Address.write.Goals as goal

pub returns-in_ok-put_word-in-V4 : goal.returns-in_ok-put_word-in-V4
returns-in_ok-put_word-in-V4 c =
    let size : Address → ℕ = λ a. length (spell (address_tree (address_of a))) in
    rw c.in-V4.is (last_put c.args.out.now c.put_word-in-V4.new.self c.put_fixed.new.self (to_be_bytes w32 1)
    (padded c.in-V4.bytes) c.put_fixed.result c.in_ok-put_word-in-V4.ensures c.put_fixed.ensures
    (omega (arith, ap size c.in-V4.is, c.length-need.ensures.exact, c.left-room.ensures)))

pub returns-in_ok-put_word-in-V6 : goal.returns-in_ok-put_word-in-V6
returns-in_ok-put_word-in-V6 c =
    let size : Address → ℕ = λ a. length (spell (address_tree (address_of a))) in
    rw c.in-V6.is (last_put c.args.out.now c.put_word-in-V6.new.self c.put_fixed-in-V6.new.self (to_be_bytes w32 2)
    (padded c.in-V6.bytes) c.put_fixed-in-V6.result c.in_ok-put_word-in-V6.ensures c.put_fixed-in-V6.ensures
    (omega (arith, ap size c.in-V6.is, c.length-need.ensures.exact, c.left-room.ensures)))
