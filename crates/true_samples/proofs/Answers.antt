-- What holds of an answer that is Ok.
use Rattle.std.specs.Prelude.{Result, Ok, Err, OnOk}

pub on-ok : {T E A B : Type 0} (r : Result T E) → OnOk r A → (A → B) → OnOk r B
on-ok (Ok x) h f = f h
on-ok (Err e) h f = tt

-- what holds of each that has a property
pub on-ok-each : {T E K : Type 0} (P Q : K → Type 0) (r : Result T E) → ((k : K) → P k → OnOk r (Q k))
    → OnOk r ((k : K) → P k → Q k)
on-ok-each P Q (Ok x) h = h
on-ok-each P Q (Err e) h = tt
