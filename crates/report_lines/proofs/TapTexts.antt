-- The lines of consumers, from one on.
use Rattle.std.proofs.Common.{◌≡◌, ℕ, ◌+◌, List, ◌++◌, flat_map, Some, drop, ap, ◌∙◌}
use Rattle.std.specs.Prelude.{slice_get}
use Rattle.std.proofs.lemmas.Option.{get_or_from_slice_get, slice_get_within}
use Rattle.text_lines.proofs.PageLaws.{texts-drop}

pub texts_at : {X : Type 0} (text : X → List ℕ) (held : List X) (k : ℕ) (x : X) → slice_get held k ≡ Some x
    → flat_map text (drop k held) ≡ text x ++ flat_map text (drop (k + 1) held)
texts_at text held k x there =
    texts-drop text held k x (slice_get_within held k x there)
    ∙ ap (λ y. text y ++ flat_map text (drop (k + 1) held)) (get_or_from_slice_get held k x x there)
