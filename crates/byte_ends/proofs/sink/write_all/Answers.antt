use Rattle.std.proofs.Common.{ℕ, ◌≡◌, List, ◌++◌, length, take, drop, slice_range, sym, ap, ◌∙◌, append_assoc, take-append-drop, take_all, length-drop, arith}
use Rattle.byte_ends.proofs.Prefixes.{takes-trans}
use Rattle.byte_ends.proofs.sink.write_all.Goals as goal

-- the front of what is left goes over to what was taken
move_front : (bytes done rest : List ℕ) (count : ℕ) → bytes ≡ done ++ rest
    → bytes ≡ (done ++ take count rest) ++ slice_range rest count (length rest)
move_front bytes done rest count whole =
    let back : slice_range rest count (length rest) ≡ drop count rest =
    take_all _ (drop count rest) (omega (arith, length-drop count rest)) in
    whole ∙ ap (λ l. done ++ l) (sym (take-append-drop count rest))
    ∙ sym (append_assoc done (take count rest) (drop count rest))
    ∙ ap (λ l. (done ++ take count rest) ++ l) (sym back)

pub loop-rest-preserved : goal.loop-rest-preserved
loop-rest-preserved g c =
    let before = c.loop-rest.invariant in
    let write = c.in_ok-count.ensures in
    let whole = move_front _ _ _ c.in_ok-count.count before.1 in
    (_, whole, takes-trans _ _ _ _ _ before.2 write.writes)
