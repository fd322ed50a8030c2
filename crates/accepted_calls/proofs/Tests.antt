-- Tests that failed, and rules that weren't broken.
use Rattle.std.proofs.Common.{◌≡◌, Bool, true, false, cond, ◌&&◌, ◌||◌, Some, None, refl}
use Rattle.std.specs.declared.option.Option.{Option}

pub or-false : (a b : Bool) → (a || b) ≡ false → (a ≡ false) × (b ≡ false)
or-false true b e = let bad : true ≡ false = e in absurd cc
or-false false b e = (refl, e)

pub and-right : (a b : Bool) → (a && b) ≡ false → a ≡ true → b ≡ false
and-right true b e t = e
and-right false b e t = let bad : false ≡ true = t in absurd cc

pub past : {X : Type 0} (b : Bool) (x : X) (rest : Option X) → cond b (Some x) rest ≡ None → (b ≡ false) × (rest ≡ None)
past true x rest e = let bad : Some x ≡ None = e in absurd cc
past false x rest e = (refl, e)
