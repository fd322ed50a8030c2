-- Where the lists of a gateway stand in the body that it was read from.
use Rattle.std.proofs.Common.{◌≡◌, ℕ, List, [], ◌∷◌, ◌++◌, length, Result, Ok, Err, ap, ◌∙◌, append_assoc, inl, inr, arith}
use Rattle.std.specs.Prelude.{IfOk}
use Rattle.std.proofs.lemmas.List.{length-append}
use Rattle.std.specs.Int.{w32, to_be_bytes}
use Rattle.wire_spec.specs.declared.pad.Pad.{Pad}
use Rattle.wire_spec.specs.declared.fault.Fault.{Fault}
use Rattle.wire_spec.specs.Shapes.{word, array, empty, row, Tree, count_of}
use Rattle.wire_spec.specs.Spells.{Each, Spells, SpellsRow}
use Rattle.wire_spec.specs.Spelling.{spell, spell_all}
use Rattle.wire_spec.specs.Tables.{agent_address, path_segment, extended_gateway}
use Rattle.wire_spec.specs.Heads.{address_tree}
use Rattle.wire_spec.specs.Whole.{SpellsFront}
use Rattle.wire_spec.proofs.Spellings.{spelled_length}
use Rattle.data_format.specs.Addresses.{address_of}
use Rattle.data_format.proofs.Ranges.{part_stands}
use Rattle.as_paths.specs.declared.segment.Segment.{Segment}
use Rattle.as_paths.specs.Paths.{kind_word, segment_tree, segment_trees}
use Rattle.as_paths.specs.WordLists.{word_trees}
use Rattle.as_paths.proofs.WordSpellings.{words_alike, numbers_alike}
use Rattle.rec_extended.specs.declared.gateway.GatewayRec.{GatewayRec}
use Rattle.rec_extended.specs.RouteContents.{
  gateway_content,
  path_of,
  communities_of,
  place_of_path,
  place_of_communities,
  HasLists,
}

-- ---- segments have no padding, so their spelling is the one

segment_alike : (p : Pad) (s : Segment) (a : List ℕ) → Spells p path_segment (segment_tree s) a
    → a ≡ spell (segment_tree s)
segment_alike p s a (x, y, kind, numbers, parts) =
    parts ∙ ap (λ (t : List ℕ). t ++ y) kind.1
    ∙ ap (λ (t : List ℕ). to_be_bytes w32 (kind_word s.ordered) ++ t) (of_row numbers)
  where
    of_row : SpellsRow p (row 1 (array word) (row 2 (array word) empty)) (kind_word s.ordered) (Tree.array (word_trees s.numbers)) y
        → y ≡ to_be_bytes w32 (count_of (word_trees s.numbers)) ++ spell_all (word_trees s.numbers)
    of_row (inl set) = numbers_alike p s.numbers y set.1
    of_row (inr (no_set, inl sequence)) = numbers_alike p s.numbers y sequence.1
    of_row (inr (no_set, inr neither)) = absurd neither.1

segments_alike : (p : Pad) (xs : List Segment) (a : List ℕ) → Each (Spells p path_segment) (segment_trees xs) a
    → a ≡ spell_all (segment_trees xs)
segments_alike p [] a e = e
segments_alike p (s ∷ xs) a (x, y, one, more, parts) =
    parts ∙ ap (λ (t : List ℕ). t ++ y) (segment_alike p s x one)
    ∙ ap (λ (t : List ℕ). spell (segment_tree s) ++ t) (segments_alike p xs y more)

-- ---- where they stand

lists_stand : (p : Pad) (body : List ℕ) (r : GatewayRec) → SpellsFront p extended_gateway body (gateway_content r)
    → HasLists body r
lists_stand p body r (fields, tail, (a, r1, address, (w1, r2, one, (w2, r3, two, (w3, r4, three, (l, r5, (n, path, count, segments, f1), (m, r6, (k, numbers, how_many, words, f2), last, e6), e5), e4), e3), e2), e1), same, e0) =
    let to_path : body ≡ (a ++ (w1 ++ (w2 ++ (w3 ++ n)))) ++ (path ++ (r5 ++ tail)) =
    rw (e0, e1, e2, e3, e4, e5, f1) (simp append_assoc) in
    let to_numbers : body ≡ (a ++ (w1 ++ (w2 ++ (w3 ++ (l ++ k))))) ++ (numbers ++ (r6 ++ tail)) =
    rw (e0, e1, e2, e3, e4, e5, e6, f2) (simp append_assoc) in
    let hop = spelled_length p agent_address (address_tree (address_of r.nexthop)) a address in
    let path_same = segments_alike p (path_of r) path segments in
    let before_path : length (a ++ (w1 ++ (w2 ++ (w3 ++ n)))) ≡ place_of_path r =
    omega (
      arith,
      hop,
      length-append a (w1 ++ (w2 ++ (w3 ++ n))),
      length-append w1 (w2 ++ (w3 ++ n)),
      length-append w2 (w3 ++ n),
      length-append w3 n,
      ap length one.1,
      ap length two.1,
      ap length three.1,
      ap length count.1,
    ) in
    let before_numbers : length (a ++ (w1 ++ (w2 ++ (w3 ++ (l ++ k))))) ≡ place_of_communities r =
    omega (
      arith,
      hop,
      length-append a (w1 ++ (w2 ++ (w3 ++ (l ++ k)))),
      length-append w1 (w2 ++ (w3 ++ (l ++ k))),
      length-append w2 (w3 ++ (l ++ k)),
      length-append w3 (l ++ k),
      length-append l k,
      length-append n path,
      ap length f1,
      ap length path_same,
      ap length one.1,
      ap length two.1,
      ap length three.1,
      ap length count.1,
      ap length how_many.1,
    ) in (
      part_stands body (a ++ (w1 ++ (w2 ++ (w3 ++ n)))) path (r5 ++ tail) (spell_all (segment_trees (path_of r)))
          (place_of_path r) to_path path_same before_path,
      part_stands body (a ++ (w1 ++ (w2 ++ (w3 ++ (l ++ k))))) numbers (r6 ++ tail)
          (spell_all (word_trees (communities_of r))) (place_of_communities r) to_numbers
          (words_alike p (communities_of r) numbers words) before_numbers,
    )

pub given_lists : (p : Pad) (body : List ℕ) (r : Result GatewayRec Fault)
    → IfOk r (λ x. SpellsFront p extended_gateway body (gateway_content x)) → IfOk r (λ x. HasLists body x)
given_lists p body (Ok x) h = lists_stand p body x h
given_lists p body (Err f) h = tt
