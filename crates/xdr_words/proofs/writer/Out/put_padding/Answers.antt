use Rattle.std.proofs.Common.{◌≡◌, ℕ, zero, suc, ◌<◌, List, [], ◌∷◌, take, replicate, refl, subst, arith}
use Rattle.wire_spec.specs.Padding.{padding_of}
use Rattle.xdr_words.specs.Written.{Puts}
use Rattle.xdr_words.proofs.writer.Out.put_padding.Goals as goal

-- up to three zeros
zeros : (n : ℕ) → n < 4 → take {A = ℕ} n (0 ∷ 0 ∷ 0 ∷ []) ≡ replicate n 0
zeros zero h = refl
zeros (suc zero) h = refl
zeros (suc (suc zero)) h = refl
zeros (suc (suc (suc zero))) h = refl
zeros (suc (suc (suc (suc n)))) h = absurd (omega arith)

pub returns : goal.returns
returns c =
    let n = padding_of c.args.length in
    let P : List ℕ → Type 0 = Puts c.args.self.now c.put_raw.new.self c.put_raw.result in
    subst P (zeros n (omega arith)) c.put_raw.ensures
