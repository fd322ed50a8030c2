-- Zeros up to a multiple of four.
use Rattle.std.proofs.Common.{◌≡◌, ◌≤◌, ◌-◌, ◌%◌, ℕ, zero, suc, List, take, replicate, Result, refl, arith}
use Rattle.byte_ends.specs.Seen.{Seen}
use Rattle.text_lines.specs.Pages.{Prints}
use Rattle.text_lines.proofs.PageLaws.{prints_same}

zeros_taken : (n : ℕ) → n ≤ 3 → take {A = ℕ} n (replicate 4 0) ≡ replicate n 0
zeros_taken zero small = refl
zeros_taken (suc zero) small = refl
zeros_taken (suc (suc zero)) small = refl
zeros_taken (suc (suc (suc zero))) small = refl
zeros_taken (suc (suc (suc (suc n)))) small = absurd (omega arith)

pub zeros_printed : {T E : Type 0} (r : Result T E) (a b : Seen) (p q : List ℕ) (n : ℕ)
    → Prints a b p q r (take ((4 - n % 4) % 4) (replicate 4 0)) → Prints a b p q r (replicate ((4 - n % 4) % 4) 0)
zeros_printed r a b p q n prints = prints_same r a b p q _ _ (zeros_taken ((4 - n % 4) % 4) (omega arith)) prints
