use Rattle.std.proofs.Common.{arith, ℕ, ◌≡◌, ◌<◌, ◌≤◌, ◌+◌, ◌-◌, [], List, length, min, ◌++◌, take, drop, ap, sym, ◌∙◌, drop-drop, take_all, take-append-drop, drop_of_length-le, length-append, length-drop, length-take-le}
use lib.Seq.{take-append-le}
use Rattle.byte_ends.proofs.memory_source.MemorySourceSource.read.Goals as goal

-- `count` bytes from the place `at` on were copied to the start of the room `old`
split_at : (bytes seen copied old left : List ℕ) (at count most piece : ℕ)
    → drop at bytes ≡ left → seen ≡ bytes
    → copied ≡ take count (take (length seen - at) (drop at seen))
    → most ≡ min (length (take (length seen - at) (drop at seen))) (length old)
    → count ≡ min most piece → 0 < piece
    → (left ≡ take count (copied ++ drop count old) ++ drop (at + count) bytes)
    × (count ≡ 0 → 0 < length (copied ++ drop count old) → drop (at + count) bytes ≡ [])
split_at bytes seen copied old left at count most piece view same copy_is most_is count_is some =
    let rest = drop at seen in
    let whole : take (length seen - at) rest ≡ rest = take_all _ rest (omega (arith, length-drop at seen)) in
    let whole_length = ap length whole in
    let fits : count ≤ length rest = omega arith in
    let copied_rest : copied ≡ take count rest = copy_is ∙ ap (take count) whole in
    let copied_length : length copied ≡ count = ap length copied_rest ∙ length-take-le count rest fits in
    let front : take count (copied ++ drop count old) ≡ take count rest =
    take-append-le count copied (drop count old) (omega arith) ∙ take_all count copied (omega arith)
    ∙ copied_rest in
    let back : drop (at + count) bytes ≡ drop count rest =
    ap (drop (at + count)) (sym same) ∙ sym (drop-drop count at seen) in (
      sym view ∙ ap (drop at) (sym same) ∙ sym (take-append-drop count rest)
          ∙ ap (λ l. l ++ drop count rest) (sym front)
          ∙ ap (λ l. take count (copied ++ drop count old) ++ l) (sym back),
      λ none room. drop_of_length-le bytes
          (omega (
            arith,
            length-append copied (drop count old),
            length-drop count old,
            length-drop at seen,
            ap length same,
          )),
    )

pub returns-clause-reads : goal.returns-clause-reads
returns-clause-reads c =
    let split =
    split_at _ _ _ _ _ _ _ _ _ (ap (λ s. s.left) c.self.view_is) c.deref-2.ensures.value
    c.copy_from_slice.ensures.after c.min.ensures c.min-count.ensures c.self.invariant.1 in
    (record { consumed = split.0; kept = ap (λ s. s.faults) c.self.view_is }, split.1)
