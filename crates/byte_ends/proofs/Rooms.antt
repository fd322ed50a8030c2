-- Laws of a room that is filled from its start, and of bytes that are given from a room.
use Rattle.std.proofs.Common.{ℕ, ◌+◌, ◌-◌, ◌≤◌, ◌≡◌, List, ◌++◌, length, take, drop, slice_range, sym, ap, ◌∙◌, arith, take_at, drop_at, length-take, length-take-le, take-append-drop, le_refl, take-add, drop-drop}
use Rattle.std.proofs.lemmas.List.{drop-take}
use Rattle.std.proofs.lemmas.Slice.{take-put_mid_below}
use borrow.Rule.Slice.PartMut.{put_mid, post_of}
use lib.Seq.{take-append-le}

-- what a read moves to the room from this place on joins what stands before it
pub take-filled : (at k count : ℕ) (room part : List ℕ) → at ≤ length room → count ≤ length part
    → take (at + count) (put_mid at k room part) ≡ take at room ++ take count part
take-filled at k count room part within fits =
    let front : take at (put_mid at k room part) ≡ take at room =
    take-put_mid_below _ _ _ _ _ (le_refl _) within in
    let back : drop at (put_mid at k room part) ≡ part ++ post_of at k room =
    drop_at (take at room) _ at (length-take-le at room within) in
    take-add at count (put_mid at k room part)
    ∙ ap (λ l. l ++ take count (drop at (put_mid at k room part))) front
    ∙ ap (λ l. take at room ++ take count l) back
    ∙ ap (λ l. take at room ++ l) (take-append-le count part (post_of at k room) fits)

-- what is left of a part of a room once its first bytes were given
drop-slice_range : (all : List ℕ) (from to count : ℕ) → from + count ≤ to
    → drop count (slice_range all from to) ≡ slice_range all (from + count) to
drop-slice_range all from to count within =
    let left : ℕ = to - (from + count) in
    let number : to - from ≡ count + left = omega (arith, within) in
    ap (λ k. drop count (take k (drop from all))) number ∙ drop-take count left (drop from all)
    ∙ ap (take left) (drop-drop count from all)

-- the first bytes of the part `rest` of a room were copied to the start of the room `old`
pub given_front : (all rest copied old : List ℕ) (from to count : ℕ) → rest ≡ slice_range all from to
    → from ≤ to → copied ≡ take count rest → count ≤ length rest
    → rest ≡ take count (copied ++ drop count old) ++ slice_range all (from + count) to
given_front all rest copied old from to count is order copy_is fits =
    let long : length copied ≡ count = ap length copy_is ∙ length-take-le count rest fits in
    let most : length rest ≤ to - from = omega (arith, ap length is, length-take (to - from) (drop from all)) in
    let back : drop count rest ≡ slice_range all (from + count) to =
    ap (drop count) is ∙ drop-slice_range all from to count (omega (arith, most, fits, order)) in
    sym (take-append-drop count rest)
    ∙ ap (λ l. l ++ drop count rest) (sym (take_at copied (drop count old) count long ∙ copy_is))
    ∙ ap (λ l. take count (copied ++ drop count old) ++ l) back
