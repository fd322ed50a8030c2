-- Values of any kind that are read one after the other are an array of the grammar.
use Rattle.std.proofs.Common.{◌≡◌, ℕ, zero, suc, List, [], ◌∷◌, length, Result, Ok, Err, refl, ap}
use Rattle.wire_spec.specs.declared.fault.Fault.{Fault}
use Rattle.wire_spec.specs.Shapes.{Tree, Trees, ◌&◌, count_of}
use Rattle.wire_spec.specs.Fails.{Remaining}
use Rattle.wire_spec.specs.Reading.{◌>>=◌, many_at}
use Rattle.wire_spec.specs.Bodies.{items_at}
use Rattle.as_paths.specs.Arrays.{trees_of}

-- where each value is read as its tree is, many are
module _ {A : Type 0} (f : Remaining → Result (Tree × Remaining) Fault) (g : Remaining → Result (A × Remaining) Fault)
    (view : A → Tree) (same : (b : Remaining) → f b ≡ (g b >>= λ x. Ok (view x.0, x.1))) where
  abbrev as_trees : List A × Remaining → Result (Trees × Remaining) Fault
  as_trees xs = Ok (trees_of view xs.0, xs.1)

  put_first : (x : A) (r : Result (List A × Remaining) Fault)
      → ((r >>= as_trees) >>= λ ts. let o : Result (Trees × Remaining) Fault = Ok (view x & ts.0, ts.1) in o)
      ≡ ((r >>= λ xs. let o : Result (List A × Remaining) Fault = Ok (x ∷ xs.0, xs.1) in o) >>= as_trees)
  put_first x (Ok xs) = refl
  put_first x (Err e) = refl

  one_more : (n : ℕ) → ((c : Remaining) → many_at f n c ≡ (items_at g n c >>= as_trees))
      → (r : Result (Tree × Remaining) Fault) (q : Result (A × Remaining) Fault)
      → r ≡ (q >>= λ x. Ok (view x.0, x.1))
      → (r >>= λ x. many_at f n x.1 >>= λ ts. let o : Result (Trees × Remaining) Fault = Ok (x.0 & ts.0, ts.1) in o)
      ≡ ((q >>= λ x. items_at g n x.1
      >>= λ xs. let o : Result (List A × Remaining) Fault = Ok (x.0 ∷ xs.0, xs.1) in o) >>= as_trees)
  one_more n fewer r (Ok x) e = rw (e, fewer x.1) (put_first x.0 (items_at g n x.1))
  one_more n fewer r (Err d) e = rw e refl

  pub many_as_items : (n : ℕ) (b : Remaining) → many_at f n b ≡ (items_at g n b >>= as_trees)
  many_as_items zero b = refl
  many_as_items (suc n) b = one_more n (λ c. many_as_items n c) (f b) (g b) (same b)

pub count-trees : {A : Type 0} (view : A → Tree) (xs : List A) → count_of (trees_of view xs) ≡ length xs
count-trees view [] = refl
count-trees view (x ∷ xs) = ap suc (count-trees view xs)
