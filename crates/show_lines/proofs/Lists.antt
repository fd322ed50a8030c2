-- Lists of which the first is put, and then the rest.
use Rattle.std.proofs.Common.{◌≡◌, ◌≤◌, ℕ, suc, ◌+◌, List, [], ◌∷◌, ◌++◌, codes, decimal, length, drop, drop-cons, Some, slice_get, refl, sym, ap, ◌∙◌, add-one, arith}
use Rattle.std.proofs.lemmas.Option.{slice_get_within, get_or_from_slice_get}
use Rattle.as_paths.specs.declared.segment.Segment.{Segment}
use Rattle.as_paths.specs.Paths.{segment_tree, segment_trees}
use Rattle.as_paths.specs.WordLists.{word_trees}
use Rattle.show_lines.specs.Joined.{texts_of, number_text, list_text, segment_text, path_text}

-- the one at a place, and what is behind it
pub left_at : (xs : List ℕ) (i n : ℕ) → slice_get xs i ≡ Some n → drop i xs ≡ n ∷ drop (i + 1) xs
left_at xs i n at =
    drop-cons xs i 0 (slice_get_within xs i n at)
    ∙ ap (λ x. x ∷ drop (suc i) xs) (get_or_from_slice_get xs i n 0 at)
    ∙ ap (λ k. n ∷ drop k xs) (sym (add-one i))

-- ---- numbers

pub list_none : (ns : List ℕ) → length ns ≤ 0 → codes "-" ≡ list_text (word_trees ns)
unfolding list_text
list_none [] h = refl
list_none (n ∷ ns) h = absurd (omega (arith, h))

pub list_more : (ns : List ℕ) (n : ℕ) → slice_get ns 0 ≡ Some n
    → decimal n ++ texts_of (λ t. codes "," ++ number_text t) (word_trees (drop 1 ns)) ≡ list_text (word_trees ns)
unfolding list_text
list_more ns n at = ap (λ l. list_text (word_trees l)) (sym (left_at ns 0 n at))

-- ---- segments

pub path_none : (ss : List Segment) → ss ≡ [] → codes "-" ≡ path_text (segment_trees ss)
unfolding path_text
path_none ss none = ap (λ l. path_text (segment_trees l)) (sym none)

pub path_more : (ss : List Segment) (s : Segment) (rest : List Segment) → ss ≡ s ∷ rest
    → segment_text (segment_tree s) ++ texts_of (λ t. codes ";" ++ segment_text t) (segment_trees rest)
    ≡ path_text (segment_trees ss)
unfolding path_text
path_more ss s rest more = ap (λ l. path_text (segment_trees l)) (sym more)
