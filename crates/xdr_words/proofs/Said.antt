-- What a reader's call answers, in the words of the grammar.
use Rattle.std.proofs.Common.{◌≡◌, ℕ, List, Result, Ok, Err, subst}
use Rattle.std.specs.Prelude.{IfOk, IfErr}
use Rattle.wire_spec.specs.declared.fault.Fault.{Fault}
use Rattle.wire_spec.specs.Bytes.{AreBytes}
use Rattle.wire_spec.specs.Fails.{Remaining}
use Rattle.wire_spec.proofs.Steps.{IsSo, Agrees}
use Rattle.xdr_words.specs.Readers.{Reader, Reads, Passes, remaining}

-- two views of one reader
pub bytes_seen : (a b : Reader) → a ≡ b → AreBytes a.bytes → AreBytes b.bytes
bytes_seen a b e h = let P : Reader → Type 0 = λ r. AreBytes r.bytes in subst P e h

module _ {X E A : Type 0} (value : X → A) (fault : E → Fault) (Good : A → List ℕ → Type 0)
    (Bad : Remaining → Fault → Type 0) (r : Remaining → Result (A × Remaining) Fault) (all : Agrees Good Bad r)
    (old new : Reader) where
  pub says_value : (result : Result X E) → AreBytes old.bytes
      → Reads value fault old new result (r (remaining old))
      → IfOk result (λ x. Passes (Good (value x)) old new)
  says_value (Ok x) fits h =
      let P : Result (A × Remaining) Fault → Type 0 = IsSo (remaining old) Good Bad in
      let o = subst P h.0 (all.so (remaining old) fits) in
      record { front = o.0; holds = o.1; bytes = o.2; at = o.3; pad = h.1 }
  says_value (Err e) fits h = tt

  pub says_fault : (result : Result X E) → AreBytes old.bytes
      → Reads value fault old new result (r (remaining old))
      → IfErr result (λ e. Bad (remaining old) (fault e))
  says_fault (Ok x) fits h = tt
  says_fault (Err e) fits h =
      let P : Result (A × Remaining) Fault → Type 0 = IsSo (remaining old) Good Bad in
      subst P h.0 (all.so (remaining old) fits)

-- the same of one answer that is so
module _ {X E A : Type 0} (value : X → A) (fault : E → Fault) (Good : A → List ℕ → Type 0)
    (Bad : Remaining → Fault → Type 0) (old new : Reader) (read : Result (A × Remaining) Fault)
    (so : IsSo (remaining old) Good Bad read) where
  pub so_value : (result : Result X E) → Reads value fault old new result read
      → IfOk result (λ x. Passes (Good (value x)) old new)
  so_value (Ok x) h =
      let P : Result (A × Remaining) Fault → Type 0 = IsSo (remaining old) Good Bad in
      let o = subst P h.0 so in
      record { front = o.0; holds = o.1; bytes = o.2; at = o.3; pad = h.1 }
  so_value (Err e) h = tt

  pub so_fault : (result : Result X E) → Reads value fault old new result read
      → IfErr result (λ e. Bad (remaining old) (fault e))
  so_fault (Ok x) h = tt
  so_fault (Err e) h = let P : Result (A × Remaining) Fault → Type 0 = IsSo (remaining old) Good Bad in subst P h.0 so
