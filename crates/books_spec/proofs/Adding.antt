-- Each entry, and each entered sample, is counted once.
use Rattle.std.proofs.Common.{◌≡◌, ℕ, ◌+◌, Bool, true, false, cond, ◌||◌, not, List, [], ◌∷◌, length, refl, sym, ap, ◌∙◌, arith}
use Rattle.std.specs.List.{filter_map, cons_option, count_by, sum_by}
use Rattle.std.proofs.lemmas.List.Sums.{sum_by-cons}
use Rattle.count_spec.proofs.Counts.{count_by-cons}
use Rattle.count_spec.specs.Boots.{Stamp, boots, stale_items}
use Rattle.count_spec.proofs.Restarts.{boots-count}
use Rattle.books_spec.specs.Items.{Sample, Of, Carrying, Other, Item, Got, Malformed, Stream, stream_of}
use Rattle.books_spec.specs.Listing.{same_stream, among, listed, unlisted, AreDistinct}
use Rattle.books_spec.specs.Books.{is_malformed, streams_of, own, is_other, Entered, source_of}
use Rattle.books_spec.proofs.Listings.{IsSame, symmetric, listed-distinct}

-- ---- keys

sum-zero : {K : Type 0} (keys : List K) → sum_by (λ (k : K). 0) keys ≡ 0
sum-zero [] = refl
sum-zero {K} (key ∷ more) = sum_by-cons (λ (k : K). 0) key more ∙ (rw (sum-zero more) refl)

sum-split : {K : Type 0} (f g : K → ℕ) (keys : List K)
    → sum_by (λ k. f k + g k) keys ≡ sum_by f keys + sum_by g keys
sum-split f g [] = refl
sum-split f g (key ∷ more) =
    let both = sum_by-cons (λ k. f k + g k) key more in
    let one = sum_by-cons f key more in
    let two = sum_by-cons g key more in
    let later = sum-split f g more in
    omega (arith, both, one, two, later)

module _ {K : Type 0} (same : K → K → Bool) (laws : IsSame same) where
  -- of distinct keys one at most is the same as this
  once : (keys : List K) (x : K) → AreDistinct same keys
      → sum_by (λ k. cond (same k x) 1 0) keys ≡ cond (among same keys x) 1 0
  once [] x d = refl
  once (key ∷ more) x d =
      let here = sum_by-cons (λ k. cond (same k x) 1 0) key more in
      here ∙ go (same key x) refl (once more x d.1)
    where
      go : (b : Bool) → same key x ≡ b
          → sum_by (λ k. cond (same k x) 1 0) more ≡ cond (among same more x) 1 0
          → cond (same key x) 1 0 + sum_by (λ k. cond (same k x) 1 0) more
          ≡ cond (same x key || among same more x) 1 0
      go true e later =
          let q : key ≡ x = laws.to key x e in
          let none : among same more x ≡ false = ap (among same more) (sym q) ∙ d.0 in
          let back : same x key ≡ true = ap (same x) q ∙ laws.self x in
          rw (e, back, later, none) refl
      go false e later =
          let back : same x key ≡ false = symmetric same laws key x e in
          rw (e, back, later) (zero_and (cond (among same more x) 1 0))
        where
          zero_and : (n : ℕ) → 0 + n ≡ n
          zero_and n = omega arith

  arrivals : (keys arrived : List K) → AreDistinct same keys
      → length arrived
      ≡ count_by (λ key. not (among same keys key)) arrived + sum_by (λ k. count_by (same k) arrived) keys
  arrivals keys [] d = let none = sum-zero keys in omega (arith, none)
  arrivals keys (x ∷ before) d =
      let later = arrivals keys before d in
      let missed = count_by-cons (λ key. not (among same keys key)) x before in
      let each : sum_by (λ k. count_by (same k) (x ∷ before)) keys
      ≡ sum_by (λ k. cond (same k x) 1 0 + count_by (same k) before) keys =
      λ j. sum_by (λ k. count_by-cons (same k) x before j) keys in
      let parts = sum-split (λ k. cond (same k x) 1 0) (λ k. count_by (same k) before) keys in
      let one = once keys x d in
      let either = either-way (among same keys x) in
      omega (arith, later, missed, each, parts, one, either)
    where
      either-way : (b : Bool) → cond (not b) 1 0 + cond b 1 0 ≡ 1
      either-way true = refl
      either-way false = refl

  pub arrivals-add_up : (limit : ℕ) (arrived : List K)
      → length arrived ≡ unlisted same limit arrived + sum_by (λ k. count_by (same k) arrived) (listed same limit arrived)
  arrivals-add_up limit arrived = arrivals (listed same limit arrived) arrived (listed-distinct same laws limit arrived)

-- ---- entries

entries-split : (items : List Item) → length items ≡ count_by is_malformed items + length (streams_of items)
entries-split [] = refl
entries-split (Got d ∷ before) =
    let later = entries-split before in
    let here = count_by-cons is_malformed (Got d) before in
    omega (arith, later, here)
entries-split (Malformed f ∷ before) =
    let later = entries-split before in
    let here = count_by-cons is_malformed (Malformed f) before in
    omega (arith, later, here)

own-count : (stream : Stream) (items : List Item) → length (own stream items) ≡ count_by (same_stream stream) (streams_of items)
own-count stream [] = refl
own-count stream (Malformed f ∷ before) = own-count stream before
own-count stream (Got d ∷ before) =
    let later = own-count stream before in
    go (same_stream stream (stream_of d)) later
    ∙ sym (count_by-cons (same_stream stream) (stream_of d) (streams_of before))
  where
    go : (b : Bool) → length (own stream before) ≡ count_by (same_stream stream) (streams_of before)
        → length (cond b (d ∷ own stream before) (own stream before))
        ≡ cond b 1 0 + count_by (same_stream stream) (streams_of before)
    go true later = omega (arith, later)
    go false later = omega (arith, later)

pub entries-add_up : (limit : ℕ) (items : List Item) (stream-same : IsSame same_stream)
    → length items ≡ count_by is_malformed items + unlisted same_stream limit (streams_of items)
    + sum_by (λ s. length (own s items)) (listed same_stream limit (streams_of items))
entries-add_up limit items stream-same =
    let split = entries-split items in
    let add = arrivals-add_up same_stream stream-same limit (streams_of items) in
    let each : sum_by (λ s. length (own s items)) (listed same_stream limit (streams_of items))
    ≡ sum_by (λ s. count_by (same_stream s) (streams_of items)) (listed same_stream limit (streams_of items)) =
    λ j. sum_by (λ s. own-count s items j) (listed same_stream limit (streams_of items)) in
    omega (arith, split, add, each)

-- ---- datagrams of a stream

count-all : {X : Type 0} (xs : List X) → count_by (λ (x : X). true) xs ≡ length xs
count-all [] = refl
count-all {X} (x ∷ more) =
    let here = count_by-cons (λ (y : X). true) x more in
    let later = count-all more in
    omega (arith, here, later)

pub boots-add_up : {X : Type 0} (stamp : X → Stamp) (slack width : ℕ) (items : List X)
    → length items ≡ sum_by length (boots stamp slack width items) + length (stale_items stamp slack width items)
boots-add_up {X} stamp slack width items =
    let all = boots-count stamp slack width (λ (x : X). true) items in
    let each : sum_by (count_by (λ (x : X). true)) (boots stamp slack width items)
    ≡ sum_by length (boots stamp slack width items) =
    λ j. sum_by (λ (boot : List X). count-all boot j) (boots stamp slack width items) in
    let stale = count-all (stale_items stamp slack width items) in
    let whole = count-all items in
    omega (arith, all, each, stale, whole)

-- ---- samples

pub samples-split : (es : List Entered)
    → length es ≡ count_by (λ (e : Entered). is_other e.sample) es + length (filter_map source_of es)
samples-split [] = refl
samples-split (e ∷ before) =
    let later = samples-split before in
    let here = count_by-cons (λ (x : Entered). is_other x.sample) e before in
    let one = kind e.sample in
    omega (arith, later, here, one)
  where
    kind : (s : Sample) → cond (is_other s) 1 0 + length (cons_option (source_of (record { stream = e.stream; sample = s })) (filter_map source_of before)) ≡ 1 + length (filter_map source_of before)
    kind Other = omega arith
    kind (Of id reading) = omega arith
    kind (Carrying id reading counters) = omega arith
