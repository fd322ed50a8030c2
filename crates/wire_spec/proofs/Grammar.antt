-- Reading agrees with the grammar, for all shapes.
use Rattle.std.proofs.Common.{◌≡◌, ℕ, ◌+◌, List, [], ◌++◌, length, Result, Ok, Err, refl, sym, ap, subst, ◌∙◌, arith}
use Rattle.wire_spec.specs.declared.pad.Pad.{Pad}
use Rattle.wire_spec.specs.declared.fault.Fault.{Fault}
use Rattle.wire_spec.specs.Shapes.{
  Union,
  Shape,
  word,
  hyper,
  fixed,
  opaque,
  array,
  structure,
  union,
  frame,
  Shapes,
  end,
  ◌then◌,
  Table,
  empty,
  row,
  Tree,
  Trees,
  none,
  ◌&◌,
  count_of,
}
use Rattle.wire_spec.specs.Spells.{IsWord, IsHyper, IsFixed, IsOpaque, Spells, SpellsAll, SpellsRow}
use Rattle.wire_spec.specs.Fails.{Remaining, past, FailsItem, FailsPadded, FailsAmong, IsSoundBody, Fails, FailsMember, FailsUnion, FailsRow}
use Rattle.wire_spec.specs.Reading.{
  ◌>>=◌,
  word_at,
  hyper_at,
  fixed_at,
  opaque_at,
  padded_at,
  many_at,
  reading,
  members_at,
  union_at,
  inside_at,
}
use Rattle.wire_spec.proofs.Steps.{Agrees, said_as, Seen, seen, Both, Either, both}
use Rattle.wire_spec.proofs.Items.{
  word_agrees,
  hyper_agrees,
  fixed_agrees,
  opaque_agrees,
  AgreesInside,
  IsPaddedOf,
  padded_agrees,
}
use Rattle.wire_spec.proofs.Lists.{IsMany, many_agree}
use Rattle.wire_spec.proofs.Frames.{
  union_row,
  IsBody,
  body_is_sound,
  sound_body,
  inside_row,
  inside_empty,
  IsFramed,
  framed,
  unframed,
}

-- a value that is made of one part
module _ {A : Type 0} (p : Pad) (s : Shape) (view : A → Tree) (Good : A → List ℕ → Type 0) (r : Remaining → Result (A × Remaining) Fault)
    (good : (x : A) (a : List ℕ) → Good x a → Spells p s (view x) a)
    (back : (t : Tree) (a : List ℕ) → Spells p s t a → Seen view Good t a) where
  of_part : Agrees Good (Fails p s) r → Agrees (Spells p s) (Fails p s) (λ b. r b >>= λ x. Ok (view x.0, x.1))
  of_part one = said_as (Seen view Good) (Spells p s) (Fails p s) (Fails p s) (λ b. r b >>= λ x. Ok (view x.0, x.1))
      (λ t a h. let P : Tree → Type 0 = λ t. Spells p s t a in subst P (sym h.1) (good h.0 a h.2)) back
      (λ b f h. h) (λ b f h. h) (seen view Good (Fails p s) r one)

-- ---- what each value is made of

word_back : (p : Pad) (t : Tree) (a : List ℕ) → Spells p word t a → Seen (λ n. Tree.word n) IsWord t a
word_back p (word n) a h = (n, refl, h)
word_back p _ a h = absurd h

hyper_back : (p : Pad) (t : Tree) (a : List ℕ) → Spells p hyper t a → Seen (λ n. Tree.hyper n) IsHyper t a
hyper_back p (hyper n) a h = (n, refl, h)
hyper_back p _ a h = absurd h

fixed_back : (p : Pad) (n : ℕ) (t : Tree) (a : List ℕ) → Spells p (fixed n) t a → Seen (λ v. Tree.fixed v) (IsFixed p n) t a
fixed_back p n (fixed v) a h = (v, refl, h)
fixed_back p n _ a h = absurd h

opaque_back : (p : Pad) (t : Tree) (a : List ℕ) → Spells p opaque t a → Seen (λ v. Tree.opaque v) (IsOpaque p) t a
opaque_back p (opaque v) a h = (v, refl, h)
opaque_back p _ a h = absurd h

structure_back : (p : Pad) (ss : Shapes) (t : Tree) (a : List ℕ) → Spells p (structure ss) t a
    → Seen (λ ts. Tree.structure ts) (SpellsAll p ss) t a
structure_back p ss (structure ts) a h = (ts, refl, h)
structure_back p ss _ a h = absurd h

-- a count word, and then that many
abbrev Counted : Pad → Shape → Tree → List ℕ → Type 0
Counted p s = Both IsWord (λ n. Seen (λ ts. Tree.array ts) (IsMany (Spells p s) n))

array_of : (p : Pad) (s : Shape) (t : Tree) (a : List ℕ) → Counted p s t a → Spells p (array s) t a
array_of p s t a (n, (w, rest, one, (ts, e, many), cut)) =
    let P : Tree → Type 0 = λ t. Spells p (array s) t a in
    subst P (sym e) (w, rest, subst (λ (k : ℕ). IsWord k w) (sym many.0) one, many.1, cut)

array_back : (p : Pad) (s : Shape) (t : Tree) (a : List ℕ) → Spells p (array s) t a → Counted p s t a
array_back p s (array ts) a (w, rest, one, many, cut) = (count_of ts, (w, rest, one, (ts, refl, (refl, many)), cut))
array_back p s _ a h = absurd h

-- a discriminant, and then what the table has for it
abbrev Picked : Pad → Table → Tree → List ℕ → Type 0
Picked p T = Both IsWord (λ k. Seen (λ t. Tree.union k t) (SpellsRow p T k))

union_of : (p : Pad) (u : Union) (T : Table) (t : Tree) (a : List ℕ) → Picked p T t a → Spells p (union u T) t a
union_of p u T t a (k, (w, rest, one, (x, e, picked), cut)) =
    let P : Tree → Type 0 = λ t. Spells p (union u T) t a in
    subst P (sym e) (w, rest, one, picked, cut)

union_back : (p : Pad) (u : Union) (T : Table) (t : Tree) (a : List ℕ) → Spells p (union u T) t a → Picked p T t a
union_back p u T (union k t) a (w, rest, one, picked, cut) = (k, (w, rest, one, (t, refl, picked), cut))
union_back p u T _ a h = absurd h

-- a first member, and then the others
abbrev Members : Pad → Shape → Shapes → Trees → List ℕ → Type 0
Members p s ss = Both (Spells p s) (λ t. Seen (λ (ts : Trees). t & ts) (SpellsAll p ss))

members_of : (p : Pad) (s : Shape) (ss : Shapes) (ts : Trees) (a : List ℕ) → Members p s ss ts a → SpellsAll p (s then ss) ts a
members_of p s ss ts a (t, (x, rest, one, (others, e, h), cut)) =
    let P : Trees → Type 0 = λ ts. SpellsAll p (s then ss) ts a in
    subst P (sym e) (x, rest, one, h, cut)

members_back : (p : Pad) (s : Shape) (ss : Shapes) (ts : Trees) (a : List ℕ) → SpellsAll p (s then ss) ts a → Members p s ss ts a
members_back p s ss none a h = absurd h
members_back p s ss (t & ts) a (x, rest, one, others, cut) = (t, (x, rest, one, (ts, refl, others), cut))

no_members : (p : Pad) → Agrees (SpellsAll p end) (FailsMember p end) (members_at p end)
no_members p = record {
  so = λ b fits. ([], refl, refl, omega arith);
  takes = takes;
  refuses = λ b f h. absurd h;
}
  where
    takes : (b : Remaining) (ts : Trees) (a rest : List ℕ) → SpellsAll p end ts a → b.bytes ≡ a ++ rest
        → (let o : Result (Trees × Remaining) Fault = Ok (none, b) in o) ≡ Ok (ts, past b a rest)
    takes b none a rest h parts =
        let answer : ℕ → List ℕ → Result (Trees × Remaining) Fault = λ k t. Ok (none, record { at = k; bytes = t }) in
        let same : b.at ≡ b.at + length a = omega (arith, ap length h) in
        let all : b.bytes ≡ rest = parts ∙ ap (λ (t : List ℕ). t ++ rest) h in
        ap (λ (k : ℕ). answer k b.bytes) same ∙ ap (answer (b.at + length a)) all
    takes b (t & ts) a rest h parts = absurd h

-- ---- all shapes

mutual
  pub agrees : (p : Pad) (s : Shape) → Agrees (Spells p s) (Fails p s) (reading p s)
  agrees p word = of_part p word (λ n. Tree.word n) IsWord word_at (λ n a h. h) (word_back p) word_agrees
  agrees p hyper = of_part p hyper (λ n. Tree.hyper n) IsHyper hyper_at (λ n a h. h) (hyper_back p) hyper_agrees
  agrees p (fixed n) = of_part p (fixed n) (λ v. Tree.fixed v) (IsFixed p n) (fixed_at p n) (λ v a h. h) (fixed_back p n) (fixed_agrees p n)
  agrees p opaque = of_part p opaque (λ v. Tree.opaque v) (IsOpaque p) (opaque_at p) (λ v a h. h) (opaque_back p) (opaque_agrees p)
  agrees p (array s) =
      said_as (Counted p s) (Spells p (array s)) (Fails p (array s)) (Fails p (array s)) (reading p (array s))
      (array_of p s) (array_back p s) (λ b f h. h) (λ b f h. h)
      (both IsWord (λ n. Seen (λ ts. Tree.array ts) (IsMany (Spells p s) n)) (FailsItem 4) (λ at n. FailsAmong (Spells p s) (Fails p s) n)
      word_at (λ at n. many_at (reading p s) n.0 n.1 >>= λ x. Ok (Tree.array x.0, x.1)) word_agrees
      (λ at n. seen (λ ts. Tree.array ts) (IsMany (Spells p s) n) (FailsAmong (Spells p s) (Fails p s) n) (many_at (reading p s) n)
      (many_agree (Spells p s) (Fails p s) (reading p s) (agrees p s) n)))
  agrees p (structure ss) =
      of_part p (structure ss) (λ ts. Tree.structure ts) (SpellsAll p ss) (members_at p ss) (λ ts a h. h) (structure_back p ss) (members_agree p ss)
  agrees p (union u T) =
      said_as (Picked p T) (Spells p (union u T)) (Fails p (union u T)) (Fails p (union u T)) (reading p (union u T))
      (union_of p u T) (union_back p u T) (λ b f h. h) (λ b f h. h)
      (both IsWord (λ k. Seen (λ t. Tree.union k t) (SpellsRow p T k)) (FailsItem 4) (λ at k. FailsUnion p u at T k)
      word_at (λ at k. union_at p u at T k.0 k.1 >>= λ x. Ok (Tree.union k.0 x.0, x.1)) word_agrees
      (λ at k. seen (λ t. Tree.union k t) (SpellsRow p T k) (FailsUnion p u at T k) (union_at p u at T k) (union_agrees p u at T k)))
  agrees p (frame T) =
      said_as (IsFramed p T) (Spells p (frame T)) (Fails p (frame T)) (Fails p (frame T)) (reading p (frame T))
      (framed p T) (unframed p T) (λ b f h. h) (λ b f h. h)
      (both IsWord (λ k. Both IsWord (λ n. IsPaddedOf p n (IsBody p T k))) (FailsItem 4)
      (λ at k. Either IsWord (FailsItem 4) (λ at n. FailsPadded p n (FailsRow p T k) (IsSoundBody p T k)))
      word_at (λ at k. word_at k.1 >>= λ n. padded_at p n.0 (inside_at p T k.0) n.1) word_agrees
      (λ at k. both IsWord (λ n. IsPaddedOf p n (IsBody p T k)) (FailsItem 4) (λ at n. FailsPadded p n (FailsRow p T k) (IsSoundBody p T k))
      word_at (λ at n. padded_at p n.0 (inside_at p T k) n.1) word_agrees
      (λ at n. padded_agrees p n (IsBody p T k) (FailsRow p T k) (IsSoundBody p T k) (inside_at p T k) (inside_agrees p T k)
      (body_is_sound p T k) (sound_body p T k))))

  pub members_agree : (p : Pad) (ss : Shapes) → Agrees (SpellsAll p ss) (FailsMember p ss) (members_at p ss)
  members_agree p end = no_members p
  members_agree p (s then ss) =
      said_as (Members p s ss) (SpellsAll p (s then ss)) (FailsMember p (s then ss)) (FailsMember p (s then ss)) (members_at p (s then ss))
      (members_of p s ss) (members_back p s ss) (λ b f h. h) (λ b f h. h)
      (both (Spells p s) (λ t. Seen (λ (ts : Trees). t & ts) (SpellsAll p ss)) (Fails p s) (λ at t. FailsMember p ss)
      (reading p s) (λ at x. members_at p ss x.1 >>= λ xs. Ok (x.0 & xs.0, xs.1)) (agrees p s)
      (λ at t. seen (λ (ts : Trees). t & ts) (SpellsAll p ss) (FailsMember p ss) (members_at p ss) (members_agree p ss)))

  pub union_agrees : (p : Pad) (u : Union) (at : ℕ) (T : Table) (k : ℕ)
      → Agrees (SpellsRow p T k) (FailsUnion p u at T k) (union_at p u at T k)
  union_agrees p u at empty k = record {
    so = λ b fits. refl;
    takes = λ b t a rest h parts. absurd h;
    refuses = λ b f h. ap (λ (e : Fault). let o : Result (Tree × Remaining) Fault = Err e in o) (sym h);
  }
  union_agrees p u at (row j s T) k = union_row p u at j k s T (agrees p s) (union_agrees p u at T k)

  pub inside_agrees : (p : Pad) (T : Table) (k : ℕ) → AgreesInside (IsBody p T k) (FailsRow p T k) (inside_at p T k)
  inside_agrees p empty k = inside_empty p k
  inside_agrees p (row j s T) k = inside_row p j k s T (agrees p s) (inside_agrees p T k)
