-- Words, hypers and padded bytes are read as the grammar has them.
use Rattle.std.proofs.Common.{◌≡◌, ℕ, zero, suc, ◌+◌, ◌≤◌, Bool, true, false, cond, ltb, List, [], ◌∷◌, ◌++◌, length, take, drop, Result, Ok, Err, refl, sym, ap, subst, ◌∙◌, append_assoc, arith, inl, inr}
use Rattle.std.proofs.lemmas.Bool.{ltb-false, ltb-true, le-ltb, lt-ltb}
use Rattle.std.proofs.lemmas.List.{take-append-drop, length-append, length-take, length-drop, take_at, drop_at}
use Rattle.std.proofs.lemmas.Nat.{be_bytes_4, be_bytes_8, from_be_bytes-to_be_bytes_4, from_be_bytes-to_be_bytes_8}
use Rattle.std.specs.Int.{w32, w64, from_be_bytes}
use Rattle.wire_spec.specs.declared.pad.Pad.{Pad}
use Rattle.wire_spec.specs.declared.pad.Pad.TheVariants as pads
use Rattle.wire_spec.specs.declared.fault.Fault.{Fault}
use Rattle.wire_spec.specs.Bytes.{AreBytes}
use Rattle.wire_spec.specs.Padding.{padding_of}
use Rattle.wire_spec.specs.Spells.{IsWord, IsHyper, MayPad, IsPadded, IsFixed, IsOpaque}
use Rattle.wire_spec.specs.Fails.{
  Remaining,
  past,
  short,
  bad_padding,
  FailsItem,
  FirstNonzero,
  FailsPadding,
  FailsPadded,
  FailsFixed,
}
use Rattle.wire_spec.specs.Reading.{◌>>=◌, item_at, word_at, hyper_at, zeros_at, padding_at, padded_at, as_bytes, fixed_at, opaque_at}
use Rattle.wire_spec.proofs.ByteLists.{take_bytes}
use Rattle.wire_spec.proofs.Steps.{IsSo, Agrees, said_as, Both, Either, both}

-- ---- n bytes as one item

abbrev IsItem : ℕ → List ℕ → List ℕ → Type 0
IsItem n v a = (a ≡ v) × (length v ≡ n)

item_so : (n : ℕ) (b : Remaining) (t : Bool) → ltb (length b.bytes) n ≡ t
    → IsSo b (IsItem n) (FailsItem n) (cond t (Err (short b.at n (length b.bytes)))
    (Ok (take n b.bytes, record { at = b.at + n; bytes = drop n b.bytes })))
item_so n b true e = (ltb-true _ _ e, refl)
item_so n b false e =
    let long : n ≤ length b.bytes = ltb-false _ _ e in
    let len : length (take n b.bytes) ≡ n = omega (arith, length-take n b.bytes) in
    (take n b.bytes, (refl, len), sym (take-append-drop n b.bytes), omega (arith, len))

item_takes : (n : ℕ) (b : Remaining) (v a rest : List ℕ) → IsItem n v a → b.bytes ≡ a ++ rest
    → item_at n b ≡ Ok (v, past b a rest)
item_takes n b v a rest h parts =
    let len : length a ≡ n = ap length h.0 ∙ h.1 in
    let whole : length b.bytes ≡ length a + length rest = ap length parts ∙ length-append a rest in
    let long : ltb (length b.bytes) n ≡ false = le-ltb _ _ (omega arith) in
    let front : take n b.bytes ≡ v = ap (take n) parts ∙ take_at a rest n len ∙ h.0 in
    let back : drop n b.bytes ≡ rest = ap (drop n) parts ∙ drop_at a rest n len in
    rw (long, front, back, ← len) refl

item_refuses : (n : ℕ) (b : Remaining) (f : Fault) → FailsItem n b f → item_at n b ≡ Err f
item_refuses n b f h = rw (lt-ltb _ _ h.0, h.1) refl

-- ---- words and hypers

word_so : (b : Remaining) (x : Result (List ℕ × Remaining) Fault) → AreBytes b.bytes → IsSo b (IsItem 4) (FailsItem 4) x
    → IsSo b IsWord (FailsItem 4) (x >>= λ y. Ok (from_be_bytes w32 y.0, y.1))
word_so b (Ok x) fits (a, item, parts, place) =
    let P : List ℕ → Type 0 = AreBytes in
    let front : take (length a) b.bytes ≡ x.0 = ap (take (length a)) parts ∙ take_at a x.1.bytes (length a) refl ∙ item.0 in
    let all : AreBytes x.0 = subst P front (take_bytes (length a) b.bytes fits) in
    (a, (omega (arith, all 0, all 1, all 2, all 3), item.0 ∙ sym (be_bytes_4 x.0 _ item.1 all refl)), parts, place)
word_so b (Err f) fits bad = bad

pub word_agrees : Agrees IsWord (FailsItem 4) word_at
word_agrees = record {
  so = λ b fits. word_so b (item_at 4 b) fits (item_so 4 b (ltb (length b.bytes) 4) refl);
  takes = λ b n a rest h parts.
      rw (item_takes 4 b a a rest (refl, ap length h.1) parts, h.1, from_be_bytes-to_be_bytes_4 n h.0) refl;
  refuses = λ b f h. rw (item_refuses 4 b f h) refl;
}

hyper_so : (b : Remaining) (x : Result (List ℕ × Remaining) Fault) → AreBytes b.bytes → IsSo b (IsItem 8) (FailsItem 8) x
    → IsSo b IsHyper (FailsItem 8) (x >>= λ y. Ok (from_be_bytes w64 y.0, y.1))
hyper_so b (Ok x) fits (a, item, parts, place) =
    let P : List ℕ → Type 0 = AreBytes in
    let front : take (length a) b.bytes ≡ x.0 = ap (take (length a)) parts ∙ take_at a x.1.bytes (length a) refl ∙ item.0 in
    let all : AreBytes x.0 = subst P front (take_bytes (length a) b.bytes fits) in (
      a,
      (
        omega (arith, all 0, all 1, all 2, all 3, all 4, all 5, all 6, all 7),
        item.0 ∙ sym (be_bytes_8 x.0 _ item.1 all refl),
      ),
      parts,
      place,
    )
hyper_so b (Err f) fits bad = bad

pub hyper_agrees : Agrees IsHyper (FailsItem 8) hyper_at
hyper_agrees = record {
  so = λ b fits. hyper_so b (item_at 8 b) fits (item_so 8 b (ltb (length b.bytes) 8) refl);
  takes = λ b n a rest h parts.
      rw (item_takes 8 b a a rest (refl, ap length h.1) parts, h.1, from_be_bytes-to_be_bytes_8 n h.0) refl;
  refuses = λ b f h. rw (item_refuses 8 b f h) refl;
}

-- ---- padding

abbrev pub PaddingIsSo : Pad → ℕ → List ℕ → Result (Unit {0}) Fault → Type 0
PaddingIsSo p at bytes (Ok u) = MayPad p bytes
PaddingIsSo p at bytes (Err f) = FailsPadding p at bytes f

zeros_so : (at : ℕ) (bytes : List ℕ) → PaddingIsSo pads.Zero at bytes (zeros_at at bytes)
zeros_so at [] = tt
zeros_so at (zero ∷ bytes) = go (zeros_at (suc at) bytes) (zeros_so (suc at) bytes)
  where
    go : (r : Result (Unit {0}) Fault) → PaddingIsSo pads.Zero (suc at) bytes r
        → PaddingIsSo pads.Zero at (zero ∷ bytes) r
    go (Ok u) h = (refl, h)
    go (Err f) h = h
zeros_so at (suc b ∷ bytes) = (at, refl, refl)

pub padding_so : (p : Pad) (at : ℕ) (bytes : List ℕ) → PaddingIsSo p at bytes (padding_at p at bytes)
padding_so pads.Any at bytes = tt
padding_so pads.Zero at bytes = zeros_so at bytes

zeros_take : (at : ℕ) (bytes : List ℕ) → MayPad pads.Zero bytes → zeros_at at bytes ≡ Ok tt
zeros_take at [] h = refl
zeros_take at (zero ∷ bytes) h = zeros_take (suc at) bytes h.1
zeros_take at (suc b ∷ bytes) h = absurd (omega (arith, h.0))

padding_takes : (p : Pad) (at : ℕ) (bytes : List ℕ) → MayPad p bytes → padding_at p at bytes ≡ Ok tt
padding_takes pads.Any at bytes h = refl
padding_takes pads.Zero at bytes h = zeros_take at bytes h

zeros_refuse : (at : ℕ) (bytes : List ℕ) (place : ℕ) → FirstNonzero at bytes place
    → zeros_at at bytes ≡ Err (bad_padding place)
zeros_refuse at [] place h = absurd h
zeros_refuse at (zero ∷ bytes) place h = zeros_refuse (suc at) bytes place h
zeros_refuse at (suc b ∷ bytes) place h = rw h refl

padding_refuses : (p : Pad) (at : ℕ) (bytes : List ℕ) (f : Fault) → FailsPadding p at bytes f
    → padding_at p at bytes ≡ Err f
padding_refuses pads.Any at bytes f h = absurd h
padding_refuses pads.Zero at bytes f h = rw (zeros_refuse at bytes h.0 h.1, h.2) refl

-- ---- the inside of a body, all of which is read

abbrev pub IsSoInside : {A : Type 0} → Remaining → (A → List ℕ → Type 0) → (Remaining → Fault → Type 0)
    → Result A Fault → Type 0
IsSoInside b Good Bad (Ok y) = Good y b.bytes
IsSoInside b Good Bad (Err f) = Bad b f

pub record AgreesInside {A : Type 0} (Good : A → List ℕ → Type 0) (Bad : Remaining → Fault → Type 0)
    (r : Remaining → Result A Fault) : Type 0 where
  pub so : (b : Remaining) → AreBytes b.bytes → IsSoInside b Good Bad (r b)
  pub takes : (b : Remaining) (y : A) → Good y b.bytes → r b ≡ Ok y
  pub refuses : (b : Remaining) (f : Fault) → Bad b f → r b ≡ Err f

-- n bytes whose inside is Good for the value, with their padding
abbrev pub IsPaddedOf : {A : Type 0} → Pad → ℕ → (A → List ℕ → Type 0) → A → List ℕ → Type 0
IsPaddedOf p n Good y a = (v : List ℕ) × (length v ≡ n) × Good y v × IsPadded p v a

module _ {A : Type 0} (p : Pad) (n : ℕ) (Good : A → List ℕ → Type 0) (Bad : Remaining → Fault → Type 0)
    (Sound : List ℕ → Type 0) (r : Remaining → Result A Fault) (inner : AgreesInside Good Bad r)
    (sound : (y : A) (v : List ℕ) → Good y v → Sound v) (made : (v : List ℕ) → Sound v → (y : A) × Good y v) where
  inside_of : Remaining → List ℕ → Remaining
  inside_of b v = record { at = b.at; bytes = v }

  behind : Remaining → List ℕ → Remaining
  behind b rest = record { at = (b.at + n) + padding_of n; bytes = rest }

  -- the end of a body of which the inside was read
  finish : A → Result (Unit {0}) Fault → Remaining → Result (A × Remaining) Fault
  finish y u c = u >>= λ _. Ok (y, c)

  -- a body is read by its parts
  by_parts : (b : Remaining) (v padding rest : List ℕ) → length v ≡ n → length padding ≡ padding_of n
      → b.bytes ≡ v ++ (padding ++ rest)
      → padded_at p n r b ≡ (r (inside_of b v) >>= λ y. finish y (padding_at p (b.at + n) padding) (behind b rest))
  unfolding inside_of behind finish
  by_parts b v padding rest len plen parts =
      let whole : length b.bytes ≡ length v + (length padding + length rest) = ap length parts
      ∙ length-append v (padding ++ rest) ∙ ap (λ (k : ℕ). length v + k) (length-append padding rest) in
      let there : ltb (length b.bytes) (n + padding_of n) ≡ false = le-ltb _ _ (omega (arith, whole, len, plen)) in
      let front : take n b.bytes ≡ v = ap (take n) parts ∙ take_at v (padding ++ rest) n len in
      let back : drop n b.bytes ≡ padding ++ rest = ap (drop n) parts ∙ drop_at v (padding ++ rest) n len in
      let filler : take (padding_of n) (drop n b.bytes) ≡ padding =
      ap (take (padding_of n)) back ∙ take_at padding rest (padding_of n) plen in
      let last : drop (padding_of n) (drop n b.bytes) ≡ rest =
      ap (drop (padding_of n)) back ∙ drop_at padding rest (padding_of n) plen in
      rw (there, front, filler, last) (regroup (r (inside_of b v)) (padding_at p (b.at + n) padding) (behind b rest))
    where
      after : (y : A) (u : Result (Unit {0}) Fault) (c : Remaining)
          → ((u >>= λ _. let o : Result (Unit {0} × Remaining) Fault = Ok (tt, c) in o)
          >>= λ e. let o : Result (A × Remaining) Fault = Ok (y, e.1) in o) ≡ finish y u c
      after y (Ok u) c = refl
      after y (Err e) c = refl

      regroup : (x : Result A Fault) (u : Result (Unit {0}) Fault) (c : Remaining)
          → (x >>= λ y. (u >>= λ _. let o : Result (Unit {0} × Remaining) Fault = Ok (tt, c) in o)
          >>= λ e. let o : Result (A × Remaining) Fault = Ok (y, e.1) in o) ≡ (x >>= λ y. finish y u c)
      regroup (Ok y) u c = after y u c
      regroup (Err e) u c = refl

  IsPart : Remaining → Result (A × Remaining) Fault → Type 0
  IsPart b x = IsSo b (IsPaddedOf p n Good) (FailsPadded p n Bad Sound) x

  end_so : (b : Remaining) (v padding rest : List ℕ) (y : A) (u : Result (Unit {0}) Fault) → length v ≡ n
      → length padding ≡ padding_of n → b.bytes ≡ v ++ (padding ++ rest) → Good y v
      → PaddingIsSo p (b.at + n) padding u → IsPart b (finish y u (behind b rest))
  unfolding IsPart finish behind
  end_so b v padding rest y (Ok u) len plen parts good may = (
    v ++ padding,
    (v, len, good, (v, padding, refl, (plen ∙ ap padding_of (sym len), may), refl)),
    parts ∙ sym (append_assoc v padding rest),
    omega (arith, len, plen, length-append v padding),
  )
  end_so b v padding rest y (Err f) len plen parts good bad =
      inr (v, padding, rest, len, plen, parts, inr (sound y v good, bad))

  inside_so : (b : Remaining) (v padding rest : List ℕ) (x : Result A Fault) → length v ≡ n
      → length padding ≡ padding_of n → b.bytes ≡ v ++ (padding ++ rest) → IsSoInside (inside_of b v) Good Bad x
      → IsPart b (x >>= λ y. finish y (padding_at p (b.at + n) padding) (behind b rest))
  unfolding IsPart inside_of
  inside_so b v padding rest (Ok y) len plen parts good =
      end_so b v padding rest y (padding_at p (b.at + n) padding) len plen parts good (padding_so p (b.at + n) padding)
  inside_so b v padding rest (Err f) len plen parts bad = inr (v, padding, rest, len, plen, parts, inl bad)

  cut_so : (b : Remaining) (t : Bool) → ltb (length b.bytes) (n + padding_of n) ≡ t → AreBytes b.bytes
      → IsPart b (padded_at p n r b)
  unfolding IsPart inside_of
  cut_so b true e fits = rw e (inl (ltb-true _ _ e, refl))
  cut_so b false e fits =
      let long : n + padding_of n ≤ length b.bytes = ltb-false _ _ e in
      let rest = drop n b.bytes in
      let len : length (take n b.bytes) ≡ n = omega (arith, length-take n b.bytes) in
      let plen : length (take (padding_of n) rest) ≡ padding_of n =
      omega (arith, length-take (padding_of n) rest, length-drop n b.bytes) in
      let parts : b.bytes ≡ take n b.bytes ++ (take (padding_of n) rest ++ drop (padding_of n) rest) =
      sym (take-append-drop n b.bytes)
      ∙ ap (λ (t : List ℕ). take n b.bytes ++ t) (sym (take-append-drop (padding_of n) rest)) in
      let P : Result (A × Remaining) Fault → Type 0 = IsPart b in
      subst P (sym (by_parts b (take n b.bytes) (take (padding_of n) rest) (drop (padding_of n) rest) len plen parts))
      (inside_so b (take n b.bytes) (take (padding_of n) rest) (drop (padding_of n) rest)
      (r (inside_of b (take n b.bytes))) len plen parts
      (inner.so (inside_of b (take n b.bytes)) (take_bytes n b.bytes fits)))

  padded_takes : (b : Remaining) (y : A) (a rest : List ℕ) → IsPaddedOf p n Good y a → b.bytes ≡ a ++ rest
      → padded_at p n r b ≡ Ok (y, past b a rest)
  unfolding inside_of behind finish
  padded_takes b y a rest (v, len, good, (d, padding, one, (plen, may), e)) parts =
      let plen' : length padding ≡ padding_of n = plen ∙ ap padding_of len in
      let whole : b.bytes ≡ v ++ (padding ++ rest) = parts
      ∙ ap (λ (t : List ℕ). t ++ rest) (e ∙ ap (λ (t : List ℕ). t ++ padding) one) ∙ append_assoc v padding rest in
      let place : (b.at + n) + padding_of n ≡ b.at + length a =
      omega (arith, ap length e, ap length one, length-append d padding, len, plen') in
      let at : ℕ → Result (A × Remaining) Fault = λ k. Ok (y, record { at = k; bytes = rest }) in
      by_parts b v padding rest len plen' whole
      ∙ rw (inner.takes (inside_of b v) y good, padding_takes p (b.at + n) padding may) (ap at place)

  padded_refuses : (b : Remaining) (f : Fault) → FailsPadded p n Bad Sound b f → padded_at p n r b ≡ Err f
  unfolding inside_of finish
  padded_refuses b f (inl h) = rw (lt-ltb _ _ h.0, h.1) refl
  padded_refuses b f (inr (v, padding, rest, len, plen, parts, inl h)) =
      by_parts b v padding rest len plen parts ∙ rw (inner.refuses (inside_of b v) f h) refl
  padded_refuses b f (inr (v, padding, rest, len, plen, parts, inr h)) =
      let y = made v h.0 in
      by_parts b v padding rest len plen parts
      ∙ rw (inner.takes (inside_of b v) y.0 y.1, padding_refuses p (b.at + n) padding f h.1) refl

  pub padded_agrees : Agrees (IsPaddedOf p n Good) (FailsPadded p n Bad Sound) (padded_at p n r)
  unfolding IsPart
  padded_agrees = record {
    so = λ b fits. cut_so b (ltb (length b.bytes) (n + padding_of n)) refl fits;
    takes = padded_takes;
    refuses = padded_refuses;
  }

-- ---- opaque bytes

bytes_agree : AgreesInside (λ (y : List ℕ) v. v ≡ y) (λ _ _. ⊥) as_bytes
bytes_agree = record {
  so = λ b fits. refl;
  takes = λ b y e. ap (λ (t : List ℕ). let r : Result (List ℕ) Fault = Ok t in r) e;
  refuses = λ b f h. absurd h;
}

pub fixed_agrees : (p : Pad) (n : ℕ) → Agrees (IsFixed p n) (FailsFixed p n) (fixed_at p n)
fixed_agrees p n = said_as (IsPaddedOf p n (λ (y : List ℕ) v. v ≡ y)) (IsFixed p n) (FailsFixed p n) (FailsFixed p n)
    (fixed_at p n)
    (λ y a h. (sym (ap length h.2) ∙ h.1, subst (λ (v : List ℕ). IsPadded p v a) h.2 h.3))
    (λ y a h. (y, h.0, refl, h.1)) (λ b f h. h) (λ b f h. h)
    (padded_agrees p n (λ (y : List ℕ) v. v ≡ y) (λ _ _. ⊥) (λ _. Unit {0}) as_bytes bytes_agree
    (λ y v e. tt) (λ v u. (v, refl)))

pub opaque_agrees : (p : Pad)
    → Agrees (IsOpaque p) (Either IsWord (FailsItem 4) (λ at n. FailsFixed p n)) (opaque_at p)
opaque_agrees p =
    let B : Remaining → Fault → Type 0 = Either IsWord (FailsItem 4) (λ at n. FailsFixed p n) in
    said_as (Both IsWord (IsFixed p)) (IsOpaque p) B B (opaque_at p)
    (λ v a h. (h.1.0, h.1.1, subst (λ (k : ℕ). IsWord k h.1.0) (sym h.1.3.0) h.1.2, h.1.3.1, h.1.4))
    (λ v a h. (length v, (h.0, h.1, h.2, (refl, h.3), h.4))) (λ b f h. h) (λ b f h. h)
    (both IsWord (IsFixed p) (FailsItem 4) (λ at n. FailsFixed p n) word_at (λ at n. fixed_at p n.0 n.1)
    word_agrees (λ at n. fixed_agrees p n))
