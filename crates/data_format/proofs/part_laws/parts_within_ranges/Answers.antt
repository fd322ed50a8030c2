use Rattle.std.proofs.Common.{◌≡◌, ℕ, ◌+◌, ◌-◌, List, length, take, drop, ap, ◌∙◌, arith}
use Rattle.std.proofs.lemmas.List.{drop-take, take-take, drop-drop}
use Rattle.data_format.proofs.part_laws.parts_within_ranges.Goals as goal

pub returns : goal.returns
returns c = λ whole body part at place outer inner.
    let m = length body - place in
    let size : length body ≡ place + m = omega (arith, inner.0) in
    let behind : List ℕ → List ℕ = λ t. drop place t in
    let cut : drop place body ≡ take m (drop (at + place) whole) =
    ap behind (outer.1 ∙ ap (λ (k : ℕ). take k (drop at whole)) size)
    ∙ drop-take place m (drop at whole) ∙ ap (take m) (drop-drop place at whole) in (
      omega (arith, outer.0, inner.0),
      inner.1 ∙ ap (take (length part)) cut ∙ take-take (length part) m (drop (at + place) whole) (omega (arith, inner.0, size)),
    )
