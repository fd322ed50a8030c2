-- Frames and their tables are read as the grammar has them.
use Rattle.std.proofs.Common.{◌≡◌, ◌≢◌, ℕ, Bool, true, false, cond, eqb, List, ◌++◌, length, Result, Ok, Err, refl, sym, ap, subst, ◌∙◌, inl, inr}
use Rattle.std.proofs.lemmas.Bool.{eqb-true, eqb-false, eq-eqb}
use Rattle.wire_spec.specs.declared.pad.Pad.{Pad}
use Rattle.wire_spec.specs.declared.fault.Fault.{Fault}
use Rattle.wire_spec.specs.Bytes.{AreBytes}
use Rattle.wire_spec.specs.Shapes.{Union, Shape, frame, Table, empty, row, Tree, known, other}
use Rattle.wire_spec.specs.Spells.{Joined, IsWord, IsOpaque, IsAbsent, Spells, SpellsRow}
use Rattle.wire_spec.specs.Fails.{Remaining, past, IsSoundBody, Fails, FailsUnion, FailsRow}
use Rattle.wire_spec.specs.Reading.{◌>>=◌, reading, union_at, inside_at}
use Rattle.wire_spec.proofs.Steps.{IsSo, Agrees, Both}
use Rattle.wire_spec.proofs.Items.{IsSoInside, AgreesInside, IsPaddedOf}

-- ---- tests of a row's word

pub row_here : {A : Type 0} (k j : ℕ) (hit miss : A) → k ≡ j → cond (eqb k j) hit miss ≡ hit
row_here k j hit miss e = rw (eq-eqb k j e) refl

differs : (k j : ℕ) (t : Bool) → eqb k j ≡ t → k ≢ j → t ≡ false
differs k j true e ne = absurd (ne (eqb-true _ _ e))
differs k j false e ne = refl

pub row_there : {A : Type 0} (k j : ℕ) (hit miss : A) → k ≢ j → cond (eqb k j) hit miss ≡ miss
row_there k j hit miss ne = rw (differs k j (eqb k j) refl ne) refl

-- ---- unions

module _ (p : Pad) (u : Union) (at j k : ℕ) (s : Shape) (T : Table) (here : Agrees (Spells p s) (Fails p s) (reading p s))
    (there : Agrees (SpellsRow p T k) (FailsUnion p u at T k) (union_at p u at T k)) where
  row_so : (b : Remaining) (t : Bool) → eqb k j ≡ t → AreBytes b.bytes
      → IsSo b (SpellsRow p (row j s T) k) (FailsUnion p u at (row j s T) k)
      (cond t (reading p s b) (union_at p u at T k b))
  row_so b true e fits = go (reading p s b) (here.so b fits)
    where
      go : (x : Result (Tree × Remaining) Fault) → IsSo b (Spells p s) (Fails p s) x
          → IsSo b (SpellsRow p (row j s T) k) (FailsUnion p u at (row j s T) k) x
      go (Ok x) o = (o.0, inl (eqb-true _ _ e, o.1), o.2, o.3)
      go (Err f) o = inl (eqb-true _ _ e, o)
  row_so b false e fits = go (union_at p u at T k b) (there.so b fits)
    where
      go : (x : Result (Tree × Remaining) Fault) → IsSo b (SpellsRow p T k) (FailsUnion p u at T k) x
          → IsSo b (SpellsRow p (row j s T) k) (FailsUnion p u at (row j s T) k) x
      go (Ok x) o = (o.0, inr (eqb-false _ _ e, o.1), o.2, o.3)
      go (Err f) o = inr (eqb-false _ _ e, o)

  row_takes : (b : Remaining) (t : Tree) (a rest : List ℕ) → SpellsRow p (row j s T) k t a → b.bytes ≡ a ++ rest
      → union_at p u at (row j s T) k b ≡ Ok (t, past b a rest)
  row_takes b t a rest (inl h) parts =
      row_here k j (reading p s b) (union_at p u at T k b) h.0 ∙ here.takes b t a rest h.1 parts
  row_takes b t a rest (inr h) parts =
      row_there k j (reading p s b) (union_at p u at T k b) h.0 ∙ there.takes b t a rest h.1 parts

  row_refuses : (b : Remaining) (f : Fault) → FailsUnion p u at (row j s T) k b f
      → union_at p u at (row j s T) k b ≡ Err f
  row_refuses b f (inl h) = row_here k j (reading p s b) (union_at p u at T k b) h.0 ∙ here.refuses b f h.1
  row_refuses b f (inr h) = row_there k j (reading p s b) (union_at p u at T k b) h.0 ∙ there.refuses b f h.1

  pub union_row : Agrees (SpellsRow p (row j s T) k) (FailsUnion p u at (row j s T) k) (union_at p u at (row j s T) k)
  union_row = record {
    so = λ b fits. row_so b (eqb k j) refl fits;
    takes = row_takes;
    refuses = row_refuses;
  }

-- ---- the inside of a frame

-- the body of a frame of format k is this value
abbrev pub IsBody : Pad → Table → ℕ → Tree → List ℕ → Type 0
IsBody p T k (known j t tail) body = (j ≡ k) × Joined (SpellsRow p T k t) (λ b. b ≡ tail) body
IsBody p T k (other j bytes) body = (j ≡ k) × (bytes ≡ body) × IsAbsent k T
IsBody p T k _ body = ⊥

pub body_is_sound : (p : Pad) (T : Table) (k : ℕ) (t : Tree) (body : List ℕ) → IsBody p T k t body
    → IsSoundBody p T k body
body_is_sound p T k (known j t tail) body h = inr (t, tail, h.1)
body_is_sound p T k (other j bytes) body h = inl h.2
body_is_sound p T k _ body h = absurd h

pub sound_body : (p : Pad) (T : Table) (k : ℕ) (body : List ℕ) → IsSoundBody p T k body → (t : Tree) × IsBody p T k t body
sound_body p T k body (inl absent) = (other k body, (refl, refl, absent))
sound_body p T k body (inr (t, tail, h)) = (known k t tail, (refl, h))

module _ (p : Pad) (j k : ℕ) (s : Shape) (T : Table) (here : Agrees (Spells p s) (Fails p s) (reading p s))
    (there : AgreesInside (IsBody p T k) (FailsRow p T k) (inside_at p T k)) where
  as_known : Tree × Remaining → Result Tree Fault
  as_known x = Ok (known k x.0 x.1.bytes)

  known_so : (b : Remaining) (x : Result (Tree × Remaining) Fault) → k ≡ j → IsSo b (Spells p s) (Fails p s) x
      → IsSoInside b (IsBody p (row j s T) k) (FailsRow p (row j s T) k) (x >>= as_known)
  unfolding as_known
  known_so b (Ok x) e o = (refl, (o.0, x.1.bytes, inl (e, o.1), refl, o.2))
  known_so b (Err f) e o = inl (e, o)

  body_there : (t : Tree) (body : List ℕ) → k ≢ j → IsBody p T k t body → IsBody p (row j s T) k t body
  body_there (known i t tail) body ne h = (h.0, (h.1.0, h.1.1, inr (ne, h.1.2), h.1.3, h.1.4))
  body_there (other i bytes) body ne h = (h.0, h.1, (ne, h.2))
  body_there _ body ne h = absurd h

  further_so : (b : Remaining) (x : Result Tree Fault) → k ≢ j → IsSoInside b (IsBody p T k) (FailsRow p T k) x
      → IsSoInside b (IsBody p (row j s T) k) (FailsRow p (row j s T) k) x
  further_so b (Ok t) ne o = body_there t b.bytes ne o
  further_so b (Err f) ne o = inr (ne, o)

  inside_so : (b : Remaining) (t : Bool) → eqb k j ≡ t → AreBytes b.bytes
      → IsSoInside b (IsBody p (row j s T) k) (FailsRow p (row j s T) k)
      (cond t (reading p s b >>= as_known) (inside_at p T k b))
  inside_so b true e fits = known_so b (reading p s b) (eqb-true _ _ e) (here.so b fits)
  inside_so b false e fits = further_so b (inside_at p T k b) (eqb-false _ _ e) (there.so b fits)

  inside_takes : (b : Remaining) (t : Tree) → IsBody p (row j s T) k t b.bytes
      → cond (eqb k j) (reading p s b >>= as_known) (inside_at p T k b) ≡ Ok t
  unfolding as_known
  inside_takes b (known i t tail) (e, (a, rest, inl h, two, parts)) =
      row_here k j (reading p s b >>= as_known) (inside_at p T k b) h.0
      ∙ ap (λ (x : Result (Tree × Remaining) Fault). x >>= as_known) (here.takes b t a rest h.1 parts)
      ∙ ap (λ (l : List ℕ). let o : Result Tree Fault = Ok (known k t l) in o) two
      ∙ ap (λ (i : ℕ). let o : Result Tree Fault = Ok (known i t tail) in o) (sym e)
  inside_takes b (known i t tail) (e, (a, rest, inr h, two, parts)) =
      row_there k j (reading p s b >>= as_known) (inside_at p T k b) h.0
      ∙ there.takes b (known i t tail) (e, (a, rest, h.1, two, parts))
  inside_takes b (other i bytes) h =
      row_there k j (reading p s b >>= as_known) (inside_at p T k b) h.2.0
      ∙ there.takes b (other i bytes) (h.0, h.1, h.2.1)
  inside_takes b _ h = absurd h

  inside_refuses : (b : Remaining) (f : Fault) → FailsRow p (row j s T) k b f
      → cond (eqb k j) (reading p s b >>= as_known) (inside_at p T k b) ≡ Err f
  inside_refuses b f (inl h) =
      row_here k j (reading p s b >>= as_known) (inside_at p T k b) h.0
      ∙ ap (λ (x : Result (Tree × Remaining) Fault). x >>= as_known) (here.refuses b f h.1)
  inside_refuses b f (inr h) =
      row_there k j (reading p s b >>= as_known) (inside_at p T k b) h.0 ∙ there.refuses b f h.1

  pub inside_row : AgreesInside (IsBody p (row j s T) k) (FailsRow p (row j s T) k) (inside_at p (row j s T) k)
  unfolding as_known
  inside_row = record {
    so = λ b fits. inside_so b (eqb k j) refl fits;
    takes = inside_takes;
    refuses = inside_refuses;
  }

pub inside_empty : (p : Pad) (k : ℕ) → AgreesInside (IsBody p empty k) (FailsRow p empty k) (inside_at p empty k)
inside_empty p k = record {
  so = λ b fits. (refl, refl, tt);
  takes = takes;
  refuses = λ b f h. absurd h;
}
  where
    takes : (b : Remaining) (t : Tree) → IsBody p empty k t b.bytes
        → (let o : Result Tree Fault = Ok (other k b.bytes) in o) ≡ Ok t
    takes b (known i t tail) h = absurd h.1.2
    takes b (other i bytes) h = rw (h.0, h.1) refl
    takes b _ h = absurd h

-- ---- a whole frame

abbrev pub IsFramed : Pad → Table → Tree → List ℕ → Type 0
IsFramed p T = Both IsWord (λ k. Both IsWord (λ n. IsPaddedOf p n (IsBody p T k)))

pub framed : (p : Pad) (T : Table) (t : Tree) (a : List ℕ) → IsFramed p T t a → Spells p (frame T) t a
framed p T t a (k, (w, rest, one, (n, (w', padded, two, (v, len, inner, outer), cut')), cut)) =
    go t inner
  where
    length_word : IsWord (length v) w'
    length_word = subst (λ (i : ℕ). IsWord i w') (sym len) two

    go : (t : Tree) → IsBody p T k t v → Spells p (frame T) t a
    go (known j t tail) h = (
      w,
      rest,
      subst (λ (i : ℕ). IsWord i w) (sym h.0) one,
      (
        v,
        subst (λ (i : ℕ). Joined (SpellsRow p T i t) (λ b. b ≡ tail) v) (sym h.0) h.1,
        (w', padded, length_word, outer, cut'),
      ),
      cut,
    )
    go (other j bytes) h =
        let P : List ℕ → Type 0 = λ v. IsOpaque p v rest in (
          subst (λ (i : ℕ). IsAbsent i T) (sym h.0) h.2,
          (
            w,
            rest,
            subst (λ (i : ℕ). IsWord i w) (sym h.0) one,
            subst P (sym h.1) (w', padded, length_word, outer, cut'),
            cut,
          ),
        )
    go _ h = absurd h

pub unframed : (p : Pad) (T : Table) (t : Tree) (a : List ℕ) → Spells p (frame T) t a → IsFramed p T t a
unframed p T (known k t tail) a (w, rest, one, (body, inner, (w', padded, two, outer, cut')), cut) =
    (k, (w, rest, one, (length body, (w', padded, two, (body, refl, (refl, inner), outer), cut')), cut))
unframed p T (other k body) a (absent, (w, rest, one, (w', padded, two, outer, cut'), cut)) =
    (k, (w, rest, one, (length body, (w', padded, two, (body, refl, (refl, refl, absent), outer), cut')), cut))
unframed p T _ a h = absurd h
