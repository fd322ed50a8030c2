-- One piece written after the other.
use Rattle.std.proofs.Common.{◌≡◌, ℕ, zero, suc, ◌≤◌, List, [], ◌∷◌, ◌++◌, length, drop, Result, Ok, Err, refl, sym, ap, ◌∙◌, append_assoc, arith}
use Rattle.std.proofs.Math.Seq.{drop-nil}
use Rattle.std.proofs.lemmas.List.{length-append}
use Rattle.xdr_words.specs.declared.writer.Out.{Out}
use Rattle.xdr_words.specs.declared.writer.OutFull.{OutFull}
use Rattle.xdr_words.specs.Written.{written, room_left, Appends, Refuses, Puts}

-- two rooms that are alike from some byte on are so from each later one on
pub alike_behind : (m n : ℕ) (x y : List ℕ) → m ≤ n → drop m x ≡ drop m y → drop n x ≡ drop n y
alike_behind zero n x y less e = ap (λ (l : List ℕ). drop n l) e
alike_behind (suc m) zero x y less e = absurd (omega arith)
alike_behind (suc m) (suc n) [] [] less e = refl
alike_behind (suc m) (suc n) [] (b ∷ y) less e =
    sym (drop-nil n) ∙ alike_behind m n [] y (omega arith) (drop-nil m ∙ e)
alike_behind (suc m) (suc n) (a ∷ x) [] less e =
    alike_behind m n x [] (omega arith) (e ∙ sym (drop-nil m)) ∙ drop-nil n
alike_behind (suc m) (suc n) (a ∷ x) (b ∷ y) less e = alike_behind m n x y (omega arith) e

-- two pieces, of which both were written
pub both_appended : (a b c : Out) (x y : List ℕ) → Appends a b x → Appends b c y → Appends a c (x ++ y)
both_appended a b c x y p q = record {
  room = record { same = q.room.same ∙ p.room.same; size = q.room.size ∙ p.room.size };
  fits = omega (arith, length-append x y, p.fits, q.fits, p.len, p.room.size);
  len = omega (arith, length-append x y, p.len, q.len);
  whole = q.whole ∙ ap (λ (t : List ℕ). t ++ y) p.whole ∙ append_assoc (written a) x y;
  behind = q.behind ∙ alike_behind b.len c.len b.room.now a.room.now (omega (arith, q.len)) p.behind;
}

-- the last of several pieces that fit together
pub last_put : (a b c : Out) (x y : List ℕ) (r : Result Unit OutFull) → Appends a b x → Puts b c r y
    → length (x ++ y) ≤ room_left a → Puts a c r (x ++ y)
last_put a b c x y (Ok u) p q fits = both_appended a b c x y p q
last_put a b c x y (Err e) p q fits =
    absurd (omega (arith, length-append x y, fits, q.short, p.len, p.room.size, p.fits))

-- one that isn't the last of them is written
pub is_written : (a b c : Out) (x y : List ℕ) (e : OutFull) → Appends a b x → Refuses b c e y
    → length (x ++ y) ≤ room_left a → ⊥
is_written a b c x y e p q fits = omega (arith, length-append x y, fits, q.short, p.len, p.room.size, p.fits)
