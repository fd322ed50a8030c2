-- What a push into a room that may be full leaves.
use Rattle.std.proofs.Common.{◌≡◌, true, false, Result, Ok, Err, rules}
use Rattle.std.specs.Prelude.{OnOk, OnErr, IsOk, is_err}

pub on_err : {T E : Type 0} (r : Result T E) (P : Type 0) → OnErr r P → is_err r ≡ true → P
on_err (Ok x) P h e = absurd cc
on_err (Err x) P h e = h

pub on_ok : {T E : Type 0} (r : Result T E) (P : Type 0) → OnOk r P → is_err r ≡ false → P
on_ok (Ok x) P h e = h
on_ok (Err x) P h e = absurd cc

pub ok_is : {T E : Type 0} (r : Result T E) → is_err r ≡ false → IsOk r
ok_is (Ok x) e = search rules
ok_is (Err x) e = absurd cc
