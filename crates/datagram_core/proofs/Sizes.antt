-- How long the spellings of a datagram and its samples are.
use Rattle.std.proofs.Common.{◌≡◌, ℕ, ◌+◌, ◌%◌, ◌≤◌, List, ◌++◌, length, replicate, refl, ap, arith}
use Rattle.std.proofs.lemmas.List.{length-append}
use Rattle.wire_spec.specs.Heads.{Head, datagram_tree}
use Rattle.wire_spec.specs.Padding.{padding_of}
use Rattle.wire_spec.specs.Shapes.{Tree, Trees, none, ◌&◌, count_of}
use Rattle.wire_spec.specs.Spelling.{padded, spell, spell_all}
use Rattle.datagram_core.specs.Written.{Begun, and_then, joined, closed_sample}
use Rattle.datagram_core.proofs.Writing.{be, front, spell_last, datagram_bytes, closed_bytes}

-- values and others behind them
pub joined_size : (ts us : Trees) → length (spell_all (joined ts us)) ≡ length (spell_all ts) + length (spell_all us)
joined_size none us = omega arith
joined_size (t & ts) us = omega (
  arith,
  length-append (spell t) (spell_all (joined ts us)),
  length-append (spell t) (spell_all ts),
  joined_size ts us,
)

pub datagram_size : (h : Head) (ts : Trees)
    → length (spell (datagram_tree h ts)) ≡ length (front h) + 4 + length (spell_all ts)
datagram_size h ts = omega (
  arith,
  ap length (datagram_bytes h ts),
  length-append (front h) (be (count_of ts) ++ spell_all ts),
  length-append (be (count_of ts)) (spell_all ts),
)

-- a sample more
pub one_more : (h : Head) (ts : Trees) (t : Tree)
    → length (spell (datagram_tree h (and_then ts t))) ≡ length (spell (datagram_tree h ts)) + length (spell t)
one_more h ts t = omega (
  arith,
  datagram_size h (and_then ts t),
  datagram_size h ts,
  ap length (spell_last ts t),
  length-append (spell_all ts) (spell t),
)

-- what stands before the records and in them
abbrev pub inside : Begun → ℕ
inside s = length (spell_all s.head) + 4 + length (spell_all s.records)

-- a closed sample has at least its parts
pub closed_least : (s : Begun) (tail : List ℕ) → 8 + inside s + length tail ≤ length (spell (closed_sample s tail))
closed_least s tail =
    let last = Tree.array s.records in
    let fields = spell_all (and_then s.head last) in
    let n = padding_of (length (fields ++ tail)) in
    omega (
      arith,
      ap length (spell_last s.head last),
      length-append (spell_all s.head) (spell last),
      length-append (be (count_of s.records)) (spell_all s.records),
      length-append fields tail,
      length-append (fields ++ tail) (replicate n 0),
    )

-- and with words in front it has no more than their padding
pub closed_size : (s : Begun) (tail : List ℕ) → inside s % 4 ≡ 0
    → length (spell (closed_sample s tail)) ≡ 8 + inside s + length (padded tail)
closed_size s tail words =
    let head = spell_all s.head in
    let n = inside s + length tail in
    let records = spell_all s.records in
    let c = be (count_of s.records) in
    omega (
      arith,
      ap length (closed_bytes s tail n refl words),
      length-append head (c ++ (records ++ padded tail)),
      length-append records (padded tail),
    )
