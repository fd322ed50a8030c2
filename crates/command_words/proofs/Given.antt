-- What holds of a value that is made of what may be there.
use Rattle.std.proofs.Common.{◌≡◌, ◌&&◌, Option, Some, None, refl, subst, is_some}
use Rattle.std.specs.Prelude.{option_and_then, option_map}
use Rattle.std.proofs.lemmas.Option.{same_Some}

pub from_map : {X Y : Type 0} (P : Y → Type 0) (f : X → Y) (o : Option X) (y : Y)
    → ((x : X) → o ≡ Some x → P (f x)) → option_map f o ≡ Some y → P y
from_map P f None y each e = cc
from_map P f (Some x) y each e = subst P (same_Some _ _ e) (each x refl)

pub from_step : {X Y : Type 0} (P : Y → Type 0) (f : X → Option Y) (o : Option X) (y : Y)
    → ((x : X) → o ≡ Some x → f x ≡ Some y → P y) → option_and_then f o ≡ Some y → P y
from_step P f None y each e = cc
from_step P f (Some x) y each e = each x refl e

-- both are there where what is made of both is
pub both_there : {X Y Z : Type 0} (f : X → Y → Z) (o : Option X) (p : Option Y)
    → (is_some o && is_some p) ≡ is_some (option_and_then (λ x. option_map (f x) p) o)
both_there f None p = refl
both_there f (Some x) None = refl
both_there f (Some x) (Some y) = refl
