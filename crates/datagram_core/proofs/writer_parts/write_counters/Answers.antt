use Rattle.std.proofs.Common.{subst, ◌≤◌, length}
use Rattle.xdr_words.specs.Written.{room_left}
use Rattle.data_format.specs.declared.heads.Form.{Form}
use Rattle.datagram_core.specs.Written.{begun_bytes, begun_counters}
use Rattle.datagram_core.proofs.Puts.{last_of_four}
use Rattle.datagram_core.proofs.writer_parts.write_counters.Goals as goal

pub returns-in_ok-write_head-in-Expanded : goal.returns-in_ok-write_head-in-Expanded
returns-in_ok-write_head-in-Expanded c =
    let Room : Form → Type 0 = λ form. length (begun_bytes (begun_counters form c.args.head.now)) ≤ room_left c.args.out.now in
    rw c.in-Expanded.is (last_of_four _ _ _ _ _ _ _ _ _ _ c.in_ok-put_word-in-Expanded.ensures
    c.in_ok-put_word-in-Expanded-2.ensures c.in_ok-write_head-in-Expanded.ensures c.put_word-in-Expanded-3.ensures
    (subst Room c.in-Expanded.is c.requires.room))

pub returns-in_ok-write_head-in-Compact : goal.returns-in_ok-write_head-in-Compact
returns-in_ok-write_head-in-Compact c =
    let Room : Form → Type 0 = λ form. length (begun_bytes (begun_counters form c.args.head.now)) ≤ room_left c.args.out.now in
    rw c.in-Compact.is (last_of_four _ _ _ _ _ _ _ _ _ _ c.in_ok-put_word-in-Compact.ensures
    c.in_ok-put_word-in-Compact-2.ensures c.in_ok-write_head-in-Compact.ensures c.put_word-in-Compact-2.ensures
    (subst Room c.in-Compact.is c.requires.room))
