-- Frames that pass the test of a table are the array of its frames in the grammar.
use Rattle.std.proofs.Common.{◌≡◌, ℕ, zero, suc, List, [], ◌∷◌, length, Result, Ok, Err, refl, sym, ap, subst}
use Rattle.wire_spec.specs.declared.pad.Pad.{Pad}
use Rattle.wire_spec.specs.declared.pad.Pad.TheVariants as pads
use Rattle.wire_spec.specs.declared.fault.Fault.{Fault}
use Rattle.wire_spec.specs.Shapes.{array, frame, Table, Tree, other, Trees, ◌&◌}
use Rattle.wire_spec.specs.Fails.{Remaining}
use Rattle.wire_spec.specs.Reading.{◌>>=◌, word_at, body_at, body_end_at, past_body, padded_at, many_at, reading, inside_at}
use Rattle.wire_spec.specs.Bodies.{counted_body_at, items_at}
use Rattle.wire_spec.proofs.Bodies.{body_has_length}
use Rattle.wire_spec.proofs.FreePadding.{itself, in_turn, free_inside}
use Rattle.wire_spec.proofs.Runs.{first_step, same_value}
use Rattle.data_format.specs.Views.{FrameView}
use Rattle.data_format.specs.Frames.{frame_of, tested_at, checked_at, frames_at}
use Rattle.data_format.specs.Trees.{table_test, tree_or, frame_tree, trees_of, frame_trees, AllPass}

-- ---- values of any kind that are seen as trees

module _ {A : Type 0} (f : Remaining → Result (Tree × Remaining) Fault) (g : Remaining → Result (A × Remaining) Fault)
    (view : A → Tree) (same : (b : Remaining) → f b ≡ (g b >>= λ x. Ok (view x.0, x.1))) where
  abbrev as_trees : List A × Remaining → Result (Trees × Remaining) Fault
  as_trees xs = Ok (trees_of view xs.0, xs.1)

  one_in_front : (x : A) (r : Result (List A × Remaining) Fault)
      → ((r >>= as_trees) >>= λ ts. let o : Result (Trees × Remaining) Fault = Ok (view x & ts.0, ts.1) in o)
      ≡ ((r >>= λ xs. let o : Result (List A × Remaining) Fault = Ok (x ∷ xs.0, xs.1) in o) >>= as_trees)
  one_in_front x (Ok xs) = refl
  one_in_front x (Err e) = refl

  first_of_many : (n : ℕ) → ((c : Remaining) → many_at f n c ≡ (items_at g n c >>= as_trees))
      → (r : Result (Tree × Remaining) Fault) (q : Result (A × Remaining) Fault)
      → r ≡ (q >>= λ x. Ok (view x.0, x.1))
      → (r >>= λ x. many_at f n x.1 >>= λ ts. let o : Result (Trees × Remaining) Fault = Ok (x.0 & ts.0, ts.1) in o)
      ≡ ((q >>= λ x. items_at g n x.1
      >>= λ xs. let o : Result (List A × Remaining) Fault = Ok (x.0 ∷ xs.0, xs.1) in o) >>= as_trees)
  first_of_many n fewer r (Ok x) e = rw (e, fewer x.1) (one_in_front x.0 (items_at g n x.1))
  first_of_many n fewer r (Err d) e = rw e refl

  pub many_as_items : (n : ℕ) (b : Remaining) → many_at f n b ≡ (items_at g n b >>= as_trees)
  many_as_items zero b = refl
  many_as_items (suc n) b = first_of_many n (λ c. many_as_items n c) (f b) (g b) (same b)

-- ---- one frame

-- a frame as its value
abbrev as_tree : Table → FrameView × Remaining → Result (Tree × Remaining) Fault
as_tree T x = Ok (frame_tree T x.0, x.1)

one_frame : (p : Pad) (T : Table) (b : Remaining)
    → reading p (frame T) b ≡ (checked_at p (table_test p T) b >>= as_tree T)
one_frame p T b = at_word (word_at b)
  where
    at_end : (k : ℕ) (x : Remaining) (t : Tree) (r : Result (Unit {0} × Remaining) Fault)
        → frame_tree T (frame_of k x) ≡ t
        → (r >>= λ e. let o : Result (Tree × Remaining) Fault = Ok (t, e.1) in o)
        ≡ ((r >>= λ e. let o : Result (FrameView × Remaining) Fault = Ok (frame_of k x, e.1) in o) >>= as_tree T)
    at_end k x t (Ok e) h = ap (λ (t : Tree). let o : Result (Tree × Remaining) Fault = Ok (t, e.1) in o) (sym h)
    at_end k x t (Err e) h = refl

    at_inside : (k n : ℕ) (x : Remaining × Remaining) (r : Result Tree Fault) → length x.0.bytes ≡ n
        → inside_at p T k x.0 ≡ r
        → (r >>= λ y. body_end_at p n x.1 >>= λ e. let o : Result (Tree × Remaining) Fault = Ok (y, e.1) in o)
        ≡ (((r >>= λ _. let u : Result (Unit {0}) Fault = Ok tt in u)
        >>= λ _. body_end_at p (length x.0.bytes) x.1
        >>= λ e. let o : Result (FrameView × Remaining) Fault = Ok (frame_of k x.0, e.1) in o) >>= as_tree T)
    at_inside k n x (Ok t) len h =
        rw len (at_end k x.0 t (body_end_at p n x.1)
        (ap (tree_or (other k x.0.bytes)) (free_inside p T k x.0 t h)))
    at_inside k n x (Err e) len h = refl

    at_body : (k n : ℕ) (c : Remaining) (r : Result (Remaining × Remaining) Fault) → body_at n c ≡ r
        → (r >>= past_body p (inside_at p T k) n) ≡ ((r >>= tested_at p (table_test p T) k) >>= as_tree T)
    at_body k n c (Ok x) e = at_inside k n x (inside_at p T k x.0) (body_has_length n c x e).0 refl
    at_body k n c (Err e) h = refl

    at_length : (k : ℕ) (r : Result (ℕ × Remaining) Fault)
        → (r >>= λ n. padded_at p n.0 (inside_at p T k) n.1)
        ≡ (((r >>= λ n. body_at n.0 n.1) >>= tested_at p (table_test p T) k) >>= as_tree T)
    at_length k (Ok n) = at_body k n.0 n.1 (body_at n.0 n.1) refl
    at_length k (Err e) = refl

    at_word : (r : Result (ℕ × Remaining) Fault)
        → (r >>= λ k. word_at k.1 >>= λ n. padded_at p n.0 (inside_at p T k.0) n.1)
        ≡ ((r >>= λ k. counted_body_at k.1 >>= tested_at p (table_test p T) k.0) >>= as_tree T)
    at_word (Ok k) = at_length k.0 (word_at k.1)
    at_word (Err e) = refl

-- ---- all of them

pub frames_as_array : (p : Pad) (T : Table) (b : Remaining) → reading p (array (frame T)) b
    ≡ (frames_at p (table_test p T) b >>= λ fs. Ok (Tree.array (frame_trees T fs.0), fs.1))
frames_as_array p T b = at_count (word_at b)
  where
    at_run : (r : Result (List FrameView × Remaining) Fault)
        → ((r >>= λ xs. let o : Result (Trees × Remaining) Fault = Ok (frame_trees T xs.0, xs.1) in o)
        >>= λ ts. let o : Result (Tree × Remaining) Fault = Ok (Tree.array ts.0, ts.1) in o)
        ≡ (r >>= λ fs. Ok (Tree.array (frame_trees T fs.0), fs.1))
    at_run (Ok x) = refl
    at_run (Err e) = refl

    at_count : (r : Result (ℕ × Remaining) Fault)
        → (r >>= λ n. many_at (reading p (frame T)) n.0 n.1
        >>= λ x. let o : Result (Tree × Remaining) Fault = Ok (Tree.array x.0, x.1) in o)
        ≡ ((r >>= λ n. items_at (checked_at p (table_test p T)) n.0 n.1)
        >>= λ fs. Ok (Tree.array (frame_trees T fs.0), fs.1))
    at_count (Ok n) =
        rw (many_as_items (reading p (frame T)) (checked_at p (table_test p T)) (frame_tree T) (one_frame p T) n.0 n.1)
        (at_run (items_at (checked_at p (table_test p T)) n.0 n.1))
    at_count (Err e) = refl

-- ---- frames that were read pass the test also where padding is free

no_value : {A : Type 0} → A → Result (Unit {0}) Fault
no_value x = Ok tt

frame_passes : (p : Pad) (T : Table) (b : Remaining) (x : FrameView × Remaining) → checked_at p (table_test p T) b ≡ Ok x
    → table_test pads.Any T x.0 ≡ Ok tt
frame_passes p T b x e =
    let after_word : ℕ × Remaining → Result (FrameView × Remaining) Fault =
    λ k. counted_body_at k.1 >>= tested_at p (table_test p T) k.0 in
    let one = first_step (word_at b) after_word x e in
    let k = one.0.0 in
    let two = first_step (counted_body_at one.0.1) (tested_at p (table_test p T) k) x one.2 in
    let y = two.0 in
    let leave : Unit {0} × Remaining → Result (FrameView × Remaining) Fault = λ e. Ok (frame_of k y.0, e.1) in
    let after_test : Unit {0} → Result (FrameView × Remaining) Fault =
    λ _. body_end_at p (length y.0.bytes) y.1 >>= leave in
    let three = first_step (table_test p T (frame_of k y.0)) after_test x two.2 in
    let four = first_step (body_end_at p (length y.0.bytes) y.1) leave x three.2 in
    let read : FrameView × Remaining = (frame_of k y.0, four.0.1) in
    let same_read : read ≡ x = same_value read x four.2 in
    let same : frame_of k y.0 ≡ x.0 = ap (λ (z : FrameView × Remaining). z.0) {x = read} same_read in
    let passed : Tree → Result (Unit {0}) Fault = λ t. Ok tt in
    let P : FrameView → Type 0 = λ f. table_test pads.Any T f ≡ Ok tt in
    subst P same (in_turn (inside_at p T k y.0) (inside_at pads.Any T k y.0) passed passed (free_inside p T k y.0)
    (λ t. itself (passed t)) tt three.1)

run_passes : (p : Pad) (T : Table) (n : ℕ) (b : Remaining) (x : List FrameView × Remaining)
    → items_at (checked_at p (table_test p T)) n b ≡ Ok x → AllPass T x.0
run_passes p T zero b x e =
    let P : List FrameView × Remaining → Type 0 = λ x. AllPass T x.0 in
    subst P (same_value ([], b) x e) tt
run_passes p T (suc n) b x e =
    let others : FrameView × Remaining → Result (List FrameView × Remaining) Fault =
    λ y. items_at (checked_at p (table_test p T)) n y.1 >>= λ xs. Ok (y.0 ∷ xs.0, xs.1) in
    let one = first_step (checked_at p (table_test p T) b) others x e in
    let last : List FrameView × Remaining → Result (List FrameView × Remaining) Fault =
    λ xs. Ok (one.0.0 ∷ xs.0, xs.1) in
    let two = first_step (items_at (checked_at p (table_test p T)) n one.0.1) last x one.2 in
    let read : List FrameView × Remaining = (one.0.0 ∷ two.0.0, two.0.1) in
    let P : List FrameView × Remaining → Type 0 = λ x. AllPass T x.0 in
    subst P {x = read} (same_value read x two.2)
    (frame_passes p T b one.0 one.1, run_passes p T n one.0.1 two.0 two.1)

pub frames_pass : (p : Pad) (T : Table) (b : Remaining) (x : List FrameView × Remaining)
    → frames_at p (table_test p T) b ≡ Ok x → AllPass T x.0
frames_pass p T b x e =
    let run : ℕ × Remaining → Result (List FrameView × Remaining) Fault =
    λ n. items_at (checked_at p (table_test p T)) n.0 n.1 in
    let one = first_step (word_at b) run x e in
    run_passes p T one.0.0 one.0.1 x one.2
