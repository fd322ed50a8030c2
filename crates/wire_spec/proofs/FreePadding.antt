-- What is read under either reading of padding is read the same where padding is free.
use Rattle.std.proofs.Common.{◌≡◌, ℕ, zero, suc, Bool, true, false, cond, eqb, List, Result, Ok, refl, ap, ◌∙◌}
use Rattle.wire_spec.specs.declared.pad.Pad.{Pad}
use Rattle.wire_spec.specs.declared.pad.Pad.TheVariants as pads
use Rattle.wire_spec.specs.declared.fault.Fault.{Fault}
use Rattle.wire_spec.specs.Shapes.{Union, Shape, word, hyper, fixed, opaque, array, structure, union, frame, Shapes, end, ◌then◌, Table, empty, row, Tree}
use Rattle.wire_spec.specs.Fails.{Remaining}
use Rattle.wire_spec.specs.Reading.{◌>>=◌, word_at, padding_at, body_at, body_end_at, padded_at, as_bytes, fixed_at, opaque_at, many_at, reading, members_at, union_at, inside_at}
use Rattle.wire_spec.proofs.Runs.{first_step}

-- the second gives whatever value the first gives
abbrev pub Keeps : {A : Type 0} → Result A Fault → Result A Fault → Type 0
Keeps {A} r q = (x : A) → r ≡ Ok x → q ≡ Ok x

pub itself : {A : Type 0} (r : Result A Fault) → Keeps r r
itself r x e = e

pub in_turn : {A B : Type 0} (r q : Result A Fault) (f g : A → Result B Fault) → Keeps r q
    → ((x : A) → Keeps (f x) (g x)) → Keeps (r >>= f) (q >>= g)
in_turn {A} {B} r q f g first second y e =
    let parts = first_step r f y e in
    let step : Result A Fault → Result B Fault = λ r. r >>= g in
    ap step (first parts.0 parts.1) ∙ second parts.0 y parts.2

either_way : {A : Type 0} (t : Bool) (a b c d : Result A Fault) → Keeps a c → Keeps b d
    → Keeps (cond t a b) (cond t c d)
either_way true a b c d one two = one
either_way false a b c d one two = two

free_padding : (p : Pad) (at : ℕ) (bytes : List ℕ) → Keeps (padding_at p at bytes) (padding_at pads.Any at bytes)
free_padding p at bytes x e = refl

pub free_end : (p : Pad) (n : ℕ) (b : Remaining) → Keeps (body_end_at p n b) (body_end_at pads.Any n b)
free_end p n b = in_turn _ _ _ _ (free_padding p b.at _) (λ u. itself _)

free_padded : {A : Type 0} (p : Pad) (n : ℕ) (f g : Remaining → Result A Fault) (b : Remaining)
    → ((c : Remaining) → Keeps (f c) (g c)) → Keeps (padded_at p n f b) (padded_at pads.Any n g b)
free_padded {A} p n f g b inner = in_turn (body_at n b) (body_at n b) _ _ (itself _) (λ (x : Remaining × Remaining).
    in_turn (f x.0) (g x.0) _ _ (inner x.0) (λ y. in_turn _ _ _ _ (free_end p n x.1) (λ e. itself _)))

free_fixed : (p : Pad) (n : ℕ) (b : Remaining) → Keeps (fixed_at p n b) (fixed_at pads.Any n b)
free_fixed p n b = free_padded p n as_bytes as_bytes b (λ c. itself _)

free_opaque : (p : Pad) (b : Remaining) → Keeps (opaque_at p b) (opaque_at pads.Any b)
free_opaque p b = in_turn (word_at b) (word_at b) (λ n. fixed_at p n.0 n.1) (λ n. fixed_at pads.Any n.0 n.1)
    (itself _) (λ n. free_fixed p n.0 n.1)

free_many : (f g : Remaining → Result (Tree × Remaining) Fault) → ((b : Remaining) → Keeps (f b) (g b))
    → (n : ℕ) (b : Remaining) → Keeps (many_at f n b) (many_at g n b)
free_many f g one zero b = itself _
free_many f g one (suc n) b =
    in_turn _ _ _ _ (one b) (λ x. in_turn _ _ _ _ (free_many f g one n x.1) (λ xs. itself _))

mutual
  pub free_reading : (p : Pad) (s : Shape) (b : Remaining) → Keeps (reading p s b) (reading pads.Any s b)
  free_reading p word b = itself _
  free_reading p hyper b = itself _
  free_reading p (fixed n) b = in_turn _ _ _ _ (free_fixed p n b) (λ x. itself _)
  free_reading p opaque b = in_turn _ _ _ _ (free_opaque p b) (λ x. itself _)
  free_reading p (array s) b = in_turn (word_at b) (word_at b) _ _ (itself _) (λ (n : ℕ × Remaining).
      in_turn _ _ _ _ (free_many (reading p s) (reading pads.Any s) (λ c. free_reading p s c) n.0 n.1) (λ x. itself _))
  free_reading p (structure ss) b = in_turn _ _ _ _ (free_members p ss b) (λ x. itself _)
  free_reading p (union u T) b = in_turn (word_at b) (word_at b) _ _ (itself _) (λ (k : ℕ × Remaining).
      in_turn _ _ _ _ (free_union p u b.at T k.0 k.1) (λ x. itself _))
  free_reading p (frame T) b = in_turn (word_at b) (word_at b) _ _ (itself _) (λ (k : ℕ × Remaining).
      in_turn (word_at k.1) (word_at k.1) _ _ (itself _) (λ (n : ℕ × Remaining).
      free_padded p n.0 (inside_at p T k.0) (inside_at pads.Any T k.0) n.1 (λ c. free_inside p T k.0 c)))

  pub free_members : (p : Pad) (ss : Shapes) (b : Remaining) → Keeps (members_at p ss b) (members_at pads.Any ss b)
  free_members p end b = itself _
  free_members p (s then ss) b =
      in_turn _ _ _ _ (free_reading p s b) (λ x. in_turn _ _ _ _ (free_members p ss x.1) (λ xs. itself _))

  pub free_union : (p : Pad) (u : Union) (at : ℕ) (T : Table) (k : ℕ) (b : Remaining)
      → Keeps (union_at p u at T k b) (union_at pads.Any u at T k b)
  free_union p u at empty k b = itself _
  free_union p u at (row j s T) k b =
      either_way (eqb k j) _ _ _ _ (free_reading p s b) (free_union p u at T k b)

  pub free_inside : (p : Pad) (T : Table) (k : ℕ) (b : Remaining) → Keeps (inside_at p T k b) (inside_at pads.Any T k b)
  free_inside p empty k b = itself _
  free_inside p (row j s T) k b =
      either_way (eqb k j) _ _ _ _ (in_turn _ _ _ _ (free_reading p s b) (λ x. itself _)) (free_inside p T k b)
