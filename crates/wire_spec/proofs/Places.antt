-- A fault stands in the bytes that it is a fault of.
use Rattle.std.proofs.Common.{◌≡◌, ℕ, zero, suc, ◌+◌, ◌<◌, ◌≤◌, List, [], ◌∷◌, ◌++◌, length, sym, ap, subst, arith, inl, inr}
use Rattle.std.proofs.lemmas.List.{length-append}
use Rattle.wire_spec.specs.declared.pad.Pad.{Pad}
use Rattle.wire_spec.specs.declared.pad.Pad.TheVariants as pads
use Rattle.wire_spec.specs.declared.fault.Fault.{Fault}
use Rattle.wire_spec.specs.Padding.{padding_of}
use Rattle.wire_spec.specs.Shapes.{Union, version, address, segment, Shape, word, hyper, fixed, opaque, array, structure, union, frame, Shapes, end, ◌then◌, Table, empty, row}
use Rattle.wire_spec.specs.Spells.{IsWord, Each, Spells}
use Rattle.wire_spec.specs.Fails.{Remaining, past, short, bad_padding, unknown_word, After, FailsItem, FirstNonzero, FailsPadding, FailsPadded, FailsFixed, FailsAmong, IsSoundBody, Fails, FailsMember, FailsUnion, FailsRow, IsWithin}
use Rattle.wire_spec.specs.Whole.{from_start, trailing, too_long, IsTrailing, FailsWhole}

-- a fault of a certain form, which may be said of an equal one
at_fault : (b : Remaining) (f g : Fault) → f ≡ g → IsWithin b g → IsWithin b f
at_fault b f g e h = let P : Fault → Type 0 = IsWithin b in subst P (sym e) h

item_within : (n : ℕ) (b : Remaining) (f : Fault) → FailsItem n b f → IsWithin b f
item_within n b f h =
    at_fault b f (short b.at n (length b.bytes)) h.1 (record { from = omega arith; to = omega arith; lacks = h.0 })

-- behind a front
past_within : (b : Remaining) (a rest : List ℕ) (f : Fault) → b.bytes ≡ a ++ rest → IsWithin (past b a rest) f → IsWithin b f
past_within b a rest f parts h = record {
  from = omega (arith, h.from);
  to = omega (arith, h.to, ap length parts, length-append a rest);
  lacks = h.lacks;
}

after_within : (Sound : List ℕ → Type 0) (Bad : Remaining → Fault → Type 0) (b : Remaining) (f : Fault)
    → ((c : Remaining) → Bad c f → IsWithin c f) → After Sound Bad b f → IsWithin b f
after_within Sound Bad b f inner (a, rest, sound, parts, bad) = past_within b a rest f parts (inner (past b a rest) bad)

nonzero_within : (at : ℕ) (bytes : List ℕ) (place : ℕ) → FirstNonzero at bytes place
    → (at ≤ place) × (place < at + length bytes)
nonzero_within at [] place h = absurd h
nonzero_within at (zero ∷ bytes) place h =
    let later = nonzero_within (suc at) bytes place h in (omega (arith, later.0), omega (arith, later.1))
nonzero_within at (suc b ∷ bytes) place h = (omega (arith, h), omega (arith, h))

padding_within : (p : Pad) (n : ℕ) (b : Remaining) (padding : List ℕ) (f : Fault) → n + length padding ≤ length b.bytes
    → FailsPadding p (b.at + n) padding f → IsWithin b f
padding_within pads.Any n b padding f room h = absurd h
padding_within pads.Zero n b padding f room (place, first, e) =
    let h = nonzero_within (b.at + n) padding place first in
    at_fault b f (bad_padding place) e (record { from = omega (arith, h.0); to = omega (arith, h.1, room); lacks = tt })

padded_within : (p : Pad) (n : ℕ) (Bad : Remaining → Fault → Type 0) (Sound : List ℕ → Type 0) (b : Remaining) (f : Fault)
    → ((c : Remaining) → Bad c f → IsWithin c f) → FailsPadded p n Bad Sound b f → IsWithin b f
padded_within p n Bad Sound b f inner (inl h) = item_within (n + padding_of n) b f h
padded_within p n Bad Sound b f inner (inr (v, padding, rest, len, plen, parts, inl bad)) =
    let body : Remaining = record { at = b.at; bytes = v } in
    let h = inner body bad in
    record { from = h.from; to = omega (arith, h.to, ap length parts, length-append v (padding ++ rest)); lacks = h.lacks }
padded_within p n Bad Sound b f inner (inr (v, padding, rest, len, plen, parts, inr bad)) =
    let room : n + length padding ≤ length b.bytes =
    omega (arith, len, ap length parts, length-append v (padding ++ rest), length-append padding rest) in
    padding_within p n b padding f room bad.1

-- a discriminant outside of its union stands before what is left
unknown_within : (u : Union) (k : ℕ) (b : Remaining) (a rest : List ℕ) (f : Fault) → b.bytes ≡ a ++ rest
    → f ≡ unknown_word u b.at k → IsWithin b f
unknown_within version k b a rest f parts e =
    at_fault b f (unknown_word version b.at k) e (record { from = omega arith; to = omega arith; lacks = tt })
unknown_within address k b a rest f parts e =
    at_fault b f (unknown_word address b.at k) e (record { from = omega arith; to = omega arith; lacks = tt })
unknown_within segment k b a rest f parts e =
    at_fault b f (unknown_word segment b.at k) e (record { from = omega arith; to = omega arith; lacks = tt })

mutual
  pub within : (p : Pad) (s : Shape) (b : Remaining) (f : Fault) → Fails p s b f → IsWithin b f
  within p word b f h = item_within 4 b f h
  within p hyper b f h = item_within 8 b f h
  within p (fixed n) b f h = padded_within p n (λ _ _. ⊥) (λ _. Unit {0}) b f (λ c bad. absurd bad) h
  within p opaque b f (inl h) = item_within 4 b f h
  within p opaque b f (inr (n, h)) =
      after_within (IsWord n) (FailsFixed p n) b f
      (λ c bad. padded_within p n (λ _ _. ⊥) (λ _. Unit {0}) c f (λ d worse. absurd worse) bad) h
  within p (array s) b f (inl h) = item_within 4 b f h
  within p (array s) b f (inr (n, h)) =
      after_within (IsWord n) (FailsAmong (Spells p s) (Fails p s) n) b f
      (λ c bad. after_within (Each (Spells p s) bad.0) (Fails p s) c f (λ d worse. within p s d f worse) bad.2) h
  within p (structure ss) b f h = member_within p ss b f h
  within p (union u T) b f (inl h) = item_within 4 b f h
  within p (union u T) b f (inr (k, (a, rest, one, parts, bad))) = union_within p u T k b a rest f parts bad
  within p (frame T) b f (inl h) = item_within 4 b f h
  within p (frame T) b f (inr (k, (a, rest, one, parts, inl h))) =
      past_within b a rest f parts (item_within 4 (past b a rest) f h)
  within p (frame T) b f (inr (k, (a, rest, one, parts, inr (n, h)))) =
      past_within b a rest f parts (after_within (IsWord n) (FailsPadded p n (FailsRow p T k) (IsSoundBody p T k))
      (past b a rest) f
      (λ c bad. padded_within p n (FailsRow p T k) (IsSoundBody p T k) c f (λ d worse. row_within p T k d f worse) bad) h)

  pub member_within : (p : Pad) (ss : Shapes) (b : Remaining) (f : Fault) → FailsMember p ss b f → IsWithin b f
  member_within p end b f h = absurd h
  member_within p (s then ss) b f (inl h) = within p s b f h
  member_within p (s then ss) b f (inr (t, h)) =
      after_within (Spells p s t) (FailsMember p ss) b f (λ c bad. member_within p ss c f bad) h

  pub union_within : (p : Pad) (u : Union) (T : Table) (k : ℕ) (b : Remaining) (a rest : List ℕ) (f : Fault)
      → b.bytes ≡ a ++ rest → FailsUnion p u b.at T k (past b a rest) f → IsWithin b f
  union_within p u empty k b a rest f parts h = unknown_within u k b a rest f parts h
  union_within p u (row j s T) k b a rest f parts (inl h) =
      past_within b a rest f parts (within p s (past b a rest) f h.1)
  union_within p u (row j s T) k b a rest f parts (inr h) = union_within p u T k b a rest f parts h.1

  pub row_within : (p : Pad) (T : Table) (k : ℕ) (b : Remaining) (f : Fault) → FailsRow p T k b f → IsWithin b f
  row_within p empty k b f h = absurd h
  row_within p (row j s T) k b f (inl h) = within p s b f h.1
  row_within p (row j s T) k b f (inr h) = row_within p T k b f h.1

-- ---- a whole

pub whole_within : (p : Pad) (s : Shape) (bytes : List ℕ) (f : Fault) → FailsWhole p s bytes f
    → IsWithin (from_start bytes) f
whole_within p s bytes f (inl h) =
    at_fault (from_start bytes) f too_long h.1 (record { from = omega arith; to = omega (arith, h.0); lacks = tt })
whole_within p s bytes f (inr (few, inl h)) = within p s (from_start bytes) f h
whole_within p s bytes f (inr (few, inr (t, h))) =
    after_within (Spells p s t) IsTrailing (from_start bytes) f
    (λ c bad. at_fault c f (trailing c.at (length c.bytes)) bad.1
    (record { from = omega arith; to = omega arith; lacks = tt })) h
