-- What is spelled and its one spelling with zero padding.
use Rattle.std.proofs.Common.{◌≡◌, ℕ, zero, suc, ◌^◌, ◌<◌, List, [], ◌∷◌, ◌++◌, length, replicate, refl, ap, ◌∙◌, arith, inl, inr}
use Rattle.std.specs.List.{AllByRecursion}
use Rattle.std.specs.Int.{w32, to_be_bytes}
use Rattle.std.proofs.lemmas.List.{length-replicate, length-append}
use Rattle.wire_spec.specs.declared.pad.Pad.{Pad}
use Rattle.wire_spec.specs.declared.pad.Pad.TheVariants as pads
use Rattle.wire_spec.specs.Padding.{padding_of}
use Rattle.wire_spec.specs.Shapes.{Shape, word, hyper, fixed, opaque, array, structure, union, frame, Shapes, end, ◌then◌, Table, empty, row, Tree, known, other, Trees, none, ◌&◌, count_of}
use Rattle.wire_spec.specs.Spells.{IsWord, MayPad, IsPadded, IsOpaque, Each, Spells, SpellsAll, SpellsRow}
use Rattle.wire_spec.specs.Spelling.{
  padded,
  counted,
  spell,
  spell_all,
  AllTrees,
  IsLawful,
  AreLawful,
  IsLawfulRow,
}

-- ---- a lawful value is spelled by its spelling

zeros_may : (p : Pad) (n : ℕ) → MayPad p (replicate n 0)
zeros_may pads.Any n = tt
zeros_may pads.Zero zero = tt
zeros_may pads.Zero (suc n) = (refl, zeros_may pads.Zero n)

is_padded : (p : Pad) (v : List ℕ) → IsPadded p v (padded v)
is_padded p v =
    let n = padding_of (length v) in (v, replicate n 0, refl, (length-replicate n 0, zeros_may p n), refl)

is_counted : (p : Pad) (v : List ℕ) → length v < 2 ^ 32 → IsOpaque p v (counted v)
is_counted p v h = (to_be_bytes w32 (length v), padded v, (h, refl), is_padded p v, refl)

each_spelled : (P : Tree → List ℕ → Type 0) (Q : Tree → Type 0) → ((t : Tree) → Q t → P t (spell t))
    → (ts : Trees) → AllTrees Q ts → Each P ts (spell_all ts)
each_spelled P Q one none h = refl
each_spelled P Q one (t & ts) h = (spell t, spell_all ts, one t h.0, each_spelled P Q one ts h.1, refl)

mutual
  pub lawful_spelled : (p : Pad) (s : Shape) (t : Tree) → IsLawful s t → Spells p s t (spell t)
  lawful_spelled p word (word n) h = (h, refl)
  lawful_spelled p hyper (hyper n) h = (h, refl)
  lawful_spelled p (fixed n) (fixed v) h = (h, is_padded p v)
  lawful_spelled p opaque (opaque v) h = is_counted p v h
  lawful_spelled p (array s) (array ts) h = (
    to_be_bytes w32 (count_of ts),
    spell_all ts,
    (h.0, refl),
    each_spelled (Spells p s) (IsLawful s) (λ t g. lawful_spelled p s t g) ts h.1,
    refl,
  )
  lawful_spelled p (structure ss) (structure ts) h = lawful_all p ss ts h
  lawful_spelled p (union u T) (union k t) h =
      (to_be_bytes w32 k, spell t, (h.0, refl), lawful_row p T k t h.1, refl)
  lawful_spelled p (frame T) (known k t tail) h =
      let body = spell t ++ tail in (
        to_be_bytes w32 k,
        counted body,
        (h.0, refl),
        (body, (spell t, tail, lawful_row p T k t h.2, refl, refl), is_counted p body h.1),
        refl,
      )
  lawful_spelled p (frame T) (other k v) h =
      (h.2, (to_be_bytes w32 k, counted v, (h.0, refl), is_counted p v h.1, refl))
  lawful_spelled p _ _ h = absurd h

  lawful_all : (p : Pad) (ss : Shapes) (ts : Trees) → AreLawful ss ts → SpellsAll p ss ts (spell_all ts)
  lawful_all p end none h = refl
  lawful_all p (s then ss) (t & ts) h = (spell t, spell_all ts, lawful_spelled p s t h.0, lawful_all p ss ts h.1, refl)
  lawful_all p _ _ h = absurd h

  lawful_row : (p : Pad) (T : Table) (k : ℕ) (t : Tree) → IsLawfulRow T k t → SpellsRow p T k t (spell t)
  lawful_row p empty k t h = absurd h
  lawful_row p (row j s T) k t (inl h) = inl (h.0, lawful_spelled p s t h.1)
  lawful_row p (row j s T) k t (inr h) = inr (h.0, lawful_row p T k t h.1)

-- ---- all spellings of a value have one length

padded_length : (p : Pad) (v a : List ℕ) → IsPadded p v a → length a ≡ length (padded v)
padded_length p v a (d, padding, one, (len, may), e) =
    omega (
      arith,
      ap length e,
      length-append d padding,
      ap length one,
      len,
      length-append v (replicate (padding_of (length v)) 0),
      length-replicate {A = ℕ} (padding_of (length v)) 0,
    )

word_length : (n : ℕ) (a : List ℕ) → IsWord n a → length a ≡ 4
word_length n a h = ap length h.1

-- two joined parts of known lengths
join_length : (a x y m n : List ℕ) → length x ≡ length m → length y ≡ length n → a ≡ x ++ y
    → length a ≡ length (m ++ n)
join_length a x y m n one two e = omega (arith, ap length e, length-append x y, one, two, length-append m n)

counted_length : (p : Pad) (v a : List ℕ) → IsOpaque p v a → length a ≡ length (counted v)
counted_length p v a (x, y, one, two, e) =
    join_length a x y (to_be_bytes w32 (length v)) (padded v) (word_length (length v) x one) (padded_length p v y two) e

each_length : (P : Tree → List ℕ → Type 0) → ((t : Tree) (a : List ℕ) → P t a → length a ≡ length (spell t))
    → (ts : Trees) (a : List ℕ) → Each P ts a → length a ≡ length (spell_all ts)
each_length P one none a e = ap length e
each_length P one (t & ts) a (x, y, first, others, e) =
    join_length a x y (spell t) (spell_all ts) (one t x first) (each_length P one ts y others) e

-- a counted body is as long as another body of the same length
counted_same : (v w : List ℕ) → length v ≡ length w → length (counted v) ≡ length (counted w)
counted_same v w e =
    let n = padding_of (length v) in
    let m = padding_of (length w) in
    omega (
      arith,
      e,
      ap padding_of e,
      length-append v (replicate n 0),
      length-append w (replicate m 0),
      length-replicate {A = ℕ} n 0,
      length-replicate {A = ℕ} m 0,
    )

mutual
  pub spelled_length : (p : Pad) (s : Shape) (t : Tree) (a : List ℕ) → Spells p s t a → length a ≡ length (spell t)
  spelled_length p word (word n) a h = word_length n a h
  spelled_length p hyper (hyper n) a h = ap length h.1
  spelled_length p (fixed n) (fixed v) a h = padded_length p v a h.1
  spelled_length p opaque (opaque v) a h = counted_length p v a h
  spelled_length p (array s) (array ts) a (x, y, one, others, e) =
      join_length a x y (to_be_bytes w32 (count_of ts)) (spell_all ts) (word_length (count_of ts) x one)
      (each_length (Spells p s) (λ t d g. spelled_length p s t d g) ts y others) e
  spelled_length p (structure ss) (structure ts) a h = all_length p ss ts a h
  spelled_length p (union u T) (union k t) a (x, y, one, two, e) =
      join_length a x y (to_be_bytes w32 k) (spell t) (word_length k x one) (row_length p T k t y two) e
  spelled_length p (frame T) (known k t tail) a (x, y, one, (body, (d, g, inner, last, cut), outer), e) =
      let whole : length body ≡ length (spell t ++ tail) =
      join_length body d g (spell t) tail (row_length p T k t d inner) (ap length last) cut in
      join_length a x y (to_be_bytes w32 k) (counted (spell t ++ tail)) (word_length k x one)
      (counted_length p body y outer ∙ counted_same body (spell t ++ tail) whole) e
  spelled_length p (frame T) (other k v) a (absent, (x, y, one, outer, e)) =
      join_length a x y (to_be_bytes w32 k) (counted v) (word_length k x one) (counted_length p v y outer) e
  spelled_length p _ _ a h = absurd h

  all_length : (p : Pad) (ss : Shapes) (ts : Trees) (a : List ℕ) → SpellsAll p ss ts a → length a ≡ length (spell_all ts)
  all_length p end none a h = ap length h
  all_length p (s then ss) (t & ts) a (x, y, one, others, e) =
      join_length a x y (spell t) (spell_all ts) (spelled_length p s t x one) (all_length p ss ts y others) e
  all_length p _ _ a h = absurd h

  row_length : (p : Pad) (T : Table) (k : ℕ) (t : Tree) (a : List ℕ) → SpellsRow p T k t a → length a ≡ length (spell t)
  row_length p empty k t a h = absurd h
  row_length p (row j s T) k t a (inl h) = spelled_length p s t a h.1
  row_length p (row j s T) k t a (inr h) = row_length p T k t a h.1

-- ---- what is spelled is lawful

each_lawful : (P : Tree → List ℕ → Type 0) (Q : Tree → Type 0) → ((t : Tree) (a : List ℕ) → P t a → Q t)
    → (ts : Trees) (a : List ℕ) → Each P ts a → AllTrees Q ts
each_lawful P Q one none a h = tt
each_lawful P Q one (t & ts) a h = (one t h.0 h.2, each_lawful P Q one ts h.1 h.3)

mutual
  pub spelled_lawful : (p : Pad) (s : Shape) (t : Tree) (a : List ℕ) → Spells p s t a → IsLawful s t
  spelled_lawful p word (word n) a h = h.0
  spelled_lawful p hyper (hyper n) a h = h.0
  spelled_lawful p (fixed n) (fixed v) a h = h.0
  spelled_lawful p opaque (opaque v) a h = h.2.0
  spelled_lawful p (array s) (array ts) a h =
      (h.2.0, each_lawful (Spells p s) (IsLawful s) (λ t d g. spelled_lawful p s t d g) ts h.1 h.3)
  spelled_lawful p (structure ss) (structure ts) a h = all_lawful p ss ts a h
  spelled_lawful p (union u T) (union k t) a h = (h.2.0, row_lawful p T k t h.1 h.3)
  spelled_lawful p (frame T) (known k t tail) a (x, y, one, (body, (d, g, inner, last, cut), outer), e) =
      let whole : length body ≡ length (spell t ++ tail) =
      join_length body d g (spell t) tail (row_length p T k t d inner) (ap length last) cut in
      (one.0, omega (arith, outer.2.0, whole), row_lawful p T k t d inner)
  spelled_lawful p (frame T) (other k v) a (absent, (x, y, one, outer, e)) = (one.0, outer.2.0, absent)
  spelled_lawful p _ _ a h = absurd h

  all_lawful : (p : Pad) (ss : Shapes) (ts : Trees) (a : List ℕ) → SpellsAll p ss ts a → AreLawful ss ts
  all_lawful p end none a h = tt
  all_lawful p (s then ss) (t & ts) a h = (spelled_lawful p s t h.0 h.2, all_lawful p ss ts h.1 h.3)
  all_lawful p _ _ a h = absurd h

  row_lawful : (p : Pad) (T : Table) (k : ℕ) (t : Tree) (a : List ℕ) → SpellsRow p T k t a → IsLawfulRow T k t
  row_lawful p empty k t a h = absurd h
  row_lawful p (row j s T) k t a (inl h) = inl (h.0, spelled_lawful p s t a h.1)
  row_lawful p (row j s T) k t a (inr h) = inr (h.0, row_lawful p T k t a h.1)

-- ---- with zero padding there is one spelling

zeros_are : (n : ℕ) (bytes : List ℕ) → length bytes ≡ n → AllByRecursion (λ b. b ≡ 0) bytes → bytes ≡ replicate n 0
zeros_are zero [] len h = refl
zeros_are zero (b ∷ bytes) len h = absurd (omega arith)
zeros_are (suc n) [] len h = absurd (omega arith)
zeros_are (suc n) (b ∷ bytes) len h = rw (h.0, zeros_are n bytes (omega (arith, len)) h.1) refl

one_padded : (v a : List ℕ) → IsPadded pads.Zero v a → a ≡ padded v
one_padded v a (d, padding, one, (len, zeros), e) = e ∙ rw (one, zeros_are (padding_of (length v)) padding len zeros) refl

one_counted : (v a : List ℕ) → IsOpaque pads.Zero v a → a ≡ counted v
one_counted v a (w, d, one, two, e) = e ∙ rw (one.1, one_padded v d two) refl

one_each : (P : Tree → List ℕ → Type 0) → ((t : Tree) (a : List ℕ) → P t a → a ≡ spell t)
    → (ts : Trees) (a : List ℕ) → Each P ts a → a ≡ spell_all ts
one_each P one none a e = e
one_each P one (t & ts) a (x, y, first, others, e) = e ∙ rw (one t x first, one_each P one ts y others) refl

mutual
  pub one_spelling : (s : Shape) (t : Tree) (a : List ℕ) → Spells pads.Zero s t a → a ≡ spell t
  one_spelling word (word n) a h = h.1
  one_spelling hyper (hyper n) a h = h.1
  one_spelling (fixed n) (fixed v) a h = one_padded v a h.1
  one_spelling opaque (opaque v) a h = one_counted v a h
  one_spelling (array s) (array ts) a (x, y, one, others, e) =
      e ∙ rw (one.1, one_each (Spells pads.Zero s) (λ t d g. one_spelling s t d g) ts y others) refl
  one_spelling (structure ss) (structure ts) a h = one_all ss ts a h
  one_spelling (union u T) (union k t) a (x, y, one, two, e) = e ∙ rw (one.1, one_row T k t y two) refl
  one_spelling (frame T) (known k t tail) a (x, y, one, (body, (d, g, inner, last, cut), outer), e) =
      let whole : body ≡ spell t ++ tail = cut ∙ rw (one_row T k t d inner, last) refl in
      e ∙ rw (one.1, one_counted body y outer, whole) refl
  one_spelling (frame T) (other k v) a (absent, (x, y, one, outer, e)) = e ∙ rw (one.1, one_counted v y outer) refl
  one_spelling _ _ a h = absurd h

  one_all : (ss : Shapes) (ts : Trees) (a : List ℕ) → SpellsAll pads.Zero ss ts a → a ≡ spell_all ts
  one_all end none a h = h
  one_all (s then ss) (t & ts) a (x, y, one, others, e) = e ∙ rw (one_spelling s t x one, one_all ss ts y others) refl
  one_all _ _ a h = absurd h

  one_row : (T : Table) (k : ℕ) (t : Tree) (a : List ℕ) → SpellsRow pads.Zero T k t a → a ≡ spell t
  one_row empty k t a h = absurd h
  one_row (row j s T) k t a (inl h) = one_spelling s t a h.1
  one_row (row j s T) k t a (inr h) = one_row T k t a h.1

-- ---- what is spelled under any reading of padding is spelled where padding is free

padded_freely : (p : Pad) (v a : List ℕ) → IsPadded p v a → IsPadded pads.Any v a
padded_freely p v a h = (h.0, h.1, h.2, (h.3.0, tt), h.4)

counted_freely : (p : Pad) (v a : List ℕ) → IsOpaque p v a → IsOpaque pads.Any v a
counted_freely p v a h = (h.0, h.1, h.2, padded_freely p v h.1 h.3, h.4)

each_freely : (P Q : Tree → List ℕ → Type 0) → ((t : Tree) (a : List ℕ) → P t a → Q t a) → (ts : Trees) (a : List ℕ)
    → Each P ts a → Each Q ts a
each_freely P Q one none a h = h
each_freely P Q one (t & ts) a h = (h.0, h.1, one t h.0 h.2, each_freely P Q one ts h.1 h.3, h.4)

mutual
  pub spelled_freely : (p : Pad) (s : Shape) (t : Tree) (a : List ℕ) → Spells p s t a → Spells pads.Any s t a
  spelled_freely p word (word n) a h = h
  spelled_freely p hyper (hyper n) a h = h
  spelled_freely p (fixed n) (fixed v) a h = (h.0, padded_freely p v a h.1)
  spelled_freely p opaque (opaque v) a h = counted_freely p v a h
  spelled_freely p (array s) (array ts) a h =
      (h.0, h.1, h.2, each_freely (Spells p s) (Spells pads.Any s) (λ t d g. spelled_freely p s t d g) ts h.1 h.3, h.4)
  spelled_freely p (structure ss) (structure ts) a h = all_freely p ss ts a h
  spelled_freely p (union u T) (union k t) a h = (h.0, h.1, h.2, row_freely p T k t h.1 h.3, h.4)
  spelled_freely p (frame T) (known k t tail) a (x, y, one, (body, (d, g, inner, last, cut), outer), e) =
      (x, y, one, (body, (d, g, row_freely p T k t d inner, last, cut), counted_freely p body y outer), e)
  spelled_freely p (frame T) (other k v) a (absent, (x, y, one, outer, e)) =
      (absent, (x, y, one, counted_freely p v y outer, e))
  spelled_freely p _ _ a h = absurd h

  all_freely : (p : Pad) (ss : Shapes) (ts : Trees) (a : List ℕ) → SpellsAll p ss ts a → SpellsAll pads.Any ss ts a
  all_freely p end none a h = h
  all_freely p (s then ss) (t & ts) a h = (h.0, h.1, spelled_freely p s t h.0 h.2, all_freely p ss ts h.1 h.3, h.4)
  all_freely p _ _ a h = absurd h

  row_freely : (p : Pad) (T : Table) (k : ℕ) (t : Tree) (a : List ℕ) → SpellsRow p T k t a → SpellsRow pads.Any T k t a
  row_freely p empty k t a h = absurd h
  row_freely p (row j s T) k t a (inl h) = inl (h.0, spelled_freely p s t a h.1)
  row_freely p (row j s T) k t a (inr h) = inr (h.0, row_freely p T k t a h.1)
