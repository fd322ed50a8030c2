-- Keys in order of first arrival, under a test that says which keys are the same.
use Rattle.std.proofs.Common.{◌≡◌, ℕ, zero, suc, ◌+◌, ◌<◌, ◌≤◌, min, Bool, true, false, cond, ◌||◌, not, List, [], ◌∷◌, ◌++◌, take, drop, length, length-take, length-append, refl, sym, ap, subst, ◌∙◌, true≢false, arith}
use Rattle.std.specs.List.{list_any, count_by}
use Rattle.std.proofs.lemmas.Bool.{or_left}
use Rattle.std.proofs.lemmas.List.{take-append-le, take-append-drop, take_all}
use Rattle.std.proofs.lemmas.List.Folds.{list_any-append}
use Rattle.count_spec.proofs.Counts.{count_by-cons}
use Rattle.books_spec.specs.Listing.{among, with_key, first_arrivals, listed, unlisted, AreDistinct}

-- the test finds equal keys
pub record IsSame {K : Type 0} (same : K → K → Bool) : Type 0 where
  pub to : (a b : K) → same a b ≡ true → a ≡ b
  pub self : (a : K) → same a a ≡ true

or-split : (a b : Bool) → (a || b) ≡ false → (a ≡ false) × (b ≡ false)
or-split true b h = absurd (true≢false h)
or-split false b h = (refl, h)

or-none : (a b : Bool) → a ≡ false → b ≡ false → (a || b) ≡ false
or-none a b p q = rw p q

-- the first so many of a list and another
take-front : {X : Type 0} (n : ℕ) (xs ys : List X) → (m : ℕ) × (take n (xs ++ ys) ≡ take n xs ++ take m ys)
take-front zero xs ys = (0, refl)
take-front (suc n) [] ys = (suc n, refl)
take-front (suc n) (x ∷ xs) ys =
    let more = take-front n xs ys in
    (more.0, ap (λ rest. x ∷ rest) more.1)

module _ {K : Type 0} (same : K → K → Bool) where
  -- ---- among the first so many

  pub among-take : (n : ℕ) (keys : List K) (key : K) → among same (take n keys) key ≡ true → among same keys key ≡ true
  among-take n keys key h =
      ap (list_any (same key)) (sym (take-append-drop n keys))
      ∙ list_any-append (same key) (take n keys) (drop n keys)
      ∙ or_left (list_any (same key) (take n keys)) (list_any (same key) (drop n keys)) h

  pub absent-take : (n : ℕ) (keys : List K) (key : K) → among same keys key ≡ false → among same (take n keys) key ≡ false
  absent-take n keys key none = go (among same (take n keys) key) refl
    where
      go : (b : Bool) → among same (take n keys) key ≡ b → among same (take n keys) key ≡ false
      go true e = absurd (true≢false (sym (among-take n keys key e) ∙ none))
      go false e = e

  pub listed-few : (limit : ℕ) (arrived : List K) → length (listed same limit arrived) ≤ limit
  listed-few limit arrived =
      let e : length (listed same limit arrived) ≡ min limit (length (first_arrivals same arrived)) =
      length-take limit (first_arrivals same arrived) in
      omega arith

  -- ---- one more arrival

  pub listed-known : (limit : ℕ) (arrived : List K) (key : K) → among same (listed same limit arrived) key ≡ true
      → listed same limit (key ∷ arrived) ≡ listed same limit arrived
  listed-known limit arrived key there =
      ap (λ b. take limit (cond b (first_arrivals same arrived) (first_arrivals same arrived ++ key ∷ [])))
      (among-take limit (first_arrivals same arrived) key there)

  -- where there is room, all are listed
  pub listed-all : (limit : ℕ) (arrived : List K) → length (listed same limit arrived) < limit
      → listed same limit arrived ≡ first_arrivals same arrived
  listed-all limit arrived room =
      let e : length (listed same limit arrived) ≡ min limit (length (first_arrivals same arrived)) =
      length-take limit (first_arrivals same arrived) in
      let few : length (first_arrivals same arrived) ≤ limit = omega arith in
      take_all limit (first_arrivals same arrived) few

  pub listed-new : (limit : ℕ) (arrived : List K) (key : K) → among same (listed same limit arrived) key ≡ false
      → length (listed same limit arrived) < limit
      → listed same limit (key ∷ arrived) ≡ listed same limit arrived ++ key ∷ []
  listed-new limit arrived key none room =
      let all = listed-all limit arrived room in
      let new : among same (first_arrivals same arrived) key ≡ false =
      ap (λ keys. among same keys key) (sym all) ∙ none in
      let longer : length (first_arrivals same arrived ++ key ∷ []) ≡ length (first_arrivals same arrived) + 1 =
      length-append (first_arrivals same arrived) (key ∷ []) in
      let before : length (listed same limit arrived) ≡ length (first_arrivals same arrived) = ap length all in
      let fits : length (first_arrivals same arrived ++ key ∷ []) ≤ limit = omega arith in
      ap (λ b. take limit (cond b (first_arrivals same arrived) (first_arrivals same arrived ++ key ∷ []))) new
      ∙ take_all limit (first_arrivals same arrived ++ key ∷ []) fits
      ∙ ap (λ keys. keys ++ key ∷ []) (sym all)

  full-either : (limit : ℕ) (keys : List K) (key : K) (b : Bool) → limit ≤ length keys
      → take limit (cond b keys (keys ++ key ∷ [])) ≡ take limit keys
  full-either limit keys key true full = refl
  full-either limit keys key false full = take-append-le limit keys (key ∷ []) full

  pub listed-full : (limit : ℕ) (arrived : List K) (key : K) → limit ≤ length (listed same limit arrived)
      → listed same limit (key ∷ arrived) ≡ listed same limit arrived
  listed-full limit arrived key full =
      let e : length (listed same limit arrived) ≡ min limit (length (first_arrivals same arrived)) =
      length-take limit (first_arrivals same arrived) in
      let many : limit ≤ length (first_arrivals same arrived) = omega arith in
      full-either limit (first_arrivals same arrived) key (among same (first_arrivals same arrived) key) many

  -- ---- what was among the keys stays there

  pub among-append : (keys more : List K) (key : K) → among same keys key ≡ true → among same (keys ++ more) key ≡ true
  among-append keys more key h =
      list_any-append (same key) keys more ∙ or_left (list_any (same key) keys) (list_any (same key) more) h

  pub with_key-keeps : (keys : List K) (one key : K) → among same keys key ≡ true
      → among same (with_key same keys one) key ≡ true
  with_key-keeps keys one key h = go (among same keys one)
    where
      go : (b : Bool) → among same (cond b keys (keys ++ one ∷ [])) key ≡ true
      go true = h
      go false = among-append keys (one ∷ []) key h

  -- what is listed stays listed
  pub listed-keeps : (limit : ℕ) (arrived : List K) (one key : K) → among same (listed same limit arrived) key ≡ true
      → among same (listed same limit (one ∷ arrived)) key ≡ true
  listed-keeps limit arrived one key h = go (among same (first_arrivals same arrived) one)
    where
      go : (b : Bool)
          → among same (take limit (cond b (first_arrivals same arrived) (first_arrivals same arrived ++ one ∷ []))) key
          ≡ true
      go true = h
      go false =
          let front = take-front limit (first_arrivals same arrived) (one ∷ []) in
          ap (λ keys. among same keys key) front.1
          ∙ among-append (listed same limit arrived) (take front.0 (one ∷ [])) key h

  -- another arrival lists no key but its own
  pub listed-other : (limit : ℕ) (arrived : List K) (one key : K) → same key one ≡ false
      → among same (listed same limit (one ∷ arrived)) key ≡ true → among same (listed same limit arrived) key ≡ true
  listed-other limit arrived one key other = go (among same (first_arrivals same arrived) one)
    where
      either : (a b : Bool) → b ≡ false → (a || b) ≡ true → a ≡ true
      either true b none h = refl
      either false b none h = absurd (true≢false (sym h ∙ none))

      go : (b : Bool)
          → among same (take limit (cond b (first_arrivals same arrived) (first_arrivals same arrived ++ one ∷ []))) key
          ≡ true
          → among same (listed same limit arrived) key ≡ true
      go true h = h
      go false h =
          let front = take-front limit (first_arrivals same arrived) (one ∷ []) in
          either (among same (listed same limit arrived) key) (among same (take front.0 (one ∷ [])) key)
          (absent-take front.0 (one ∷ []) key (or-none (same key one) false other refl))
          (sym (list_any-append (same key) (listed same limit arrived) (take front.0 (one ∷ [])))
          ∙ ap (λ keys. among same keys key) (sym front.1) ∙ h)

  -- a key that is listed just now didn't arrive before
  pub listed-just_now : (limit : ℕ) (arrived : List K) (key : K) → among same (listed same limit arrived) key ≡ false
      → among same (listed same limit (key ∷ arrived)) key ≡ true
      → among same (first_arrivals same arrived) key ≡ false
  listed-just_now limit arrived key none now = go (among same (first_arrivals same arrived) key) refl
    where
      go : (b : Bool) → among same (first_arrivals same arrived) key ≡ b
          → among same (first_arrivals same arrived) key ≡ false
      go true e = absurd (true≢false (sym now ∙ ap
          (λ b. among same (take limit (cond b (first_arrivals same arrived) (first_arrivals same arrived ++ key ∷ []))) key)
          e ∙ none))
      go false e = e

  -- ---- distinct keys

  module _ (laws : IsSame same) where
    pub symmetric : (a b : K) → same a b ≡ false → same b a ≡ false
    symmetric a b h = go (same b a) refl
      where
        go : (c : Bool) → same b a ≡ c → same b a ≡ false
        go true e =
            let q : a ≡ b = sym (laws.to b a e) in
            absurd (true≢false (sym (laws.self a) ∙ ap (same a) q ∙ h))
        go false e = e

    distinct-push : (keys : List K) (key : K) → AreDistinct same keys → among same keys key ≡ false
        → AreDistinct same (keys ++ key ∷ [])
    distinct-push [] key d none = (refl, tt)
    distinct-push (x ∷ keys) key d none =
        let parts = or-split (same key x) (list_any (same key) keys) none in (
          list_any-append (same x) keys (key ∷ [])
              ∙ or-none (list_any (same x) keys) (same x key || false) d.0
              (or-none (same x key) false (symmetric key x parts.0) refl),
          distinct-push keys key d.1 parts.1,
        )

    with_key-distinct : (keys : List K) (key : K) → AreDistinct same keys → AreDistinct same (with_key same keys key)
    with_key-distinct keys key d = go (among same keys key) refl
      where
        go : (b : Bool) → among same keys key ≡ b → AreDistinct same (cond b keys (keys ++ key ∷ []))
        go true e = d
        go false e = distinct-push keys key d e

    first_arrivals-distinct : (arrived : List K) → AreDistinct same (first_arrivals same arrived)
    first_arrivals-distinct [] = tt
    first_arrivals-distinct (key ∷ before) =
        with_key-distinct (first_arrivals same before) key (first_arrivals-distinct before)

    distinct-front : (keys more : List K) → AreDistinct same (keys ++ more) → AreDistinct same keys
    distinct-front [] more d = tt
    distinct-front (x ∷ keys) more d = (
      (or-split (list_any (same x) keys) (list_any (same x) more)
          (sym (list_any-append (same x) keys more) ∙ d.0)).0,
      distinct-front keys more d.1,
    )

    pub listed-distinct : (limit : ℕ) (arrived : List K) → AreDistinct same (listed same limit arrived)
    listed-distinct limit arrived =
        distinct-front (listed same limit arrived) (drop limit (first_arrivals same arrived))
        (let P : List K → Type 0 = λ keys. AreDistinct same keys in
        subst P (sym (take-append-drop limit (first_arrivals same arrived))) (first_arrivals-distinct arrived))

    -- ---- what arrived is among the first arrivals

    pub with_key-has : (keys : List K) (key : K) → among same (with_key same keys key) key ≡ true
    with_key-has keys key = go (among same keys key) refl
      where
        go : (b : Bool) → among same keys key ≡ b → among same (cond b keys (keys ++ key ∷ [])) key ≡ true
        go true e = e
        go false e = list_any-append (same key) keys (key ∷ []) ∙ (rw (e, laws.self key) refl)

    pub first_arrivals-all : (arrived : List K) (key : K) → among same arrived key ≡ true
        → among same (first_arrivals same arrived) key ≡ true
    first_arrivals-all [] key h = h
    first_arrivals-all (x ∷ before) key h = go (same key x) refl (first_arrivals-all before key)
      where
        go : (b : Bool) → same key x ≡ b
            → (among same before key ≡ true → among same (first_arrivals same before) key ≡ true)
            → among same (with_key same (first_arrivals same before) x) key ≡ true
        go true e earlier =
            let q : x ≡ key = sym (laws.to key x e) in
            let P : K → Type 0 = λ y. among same (with_key same (first_arrivals same before) x) y ≡ true in
            subst P q (with_key-has (first_arrivals same before) x)
        go false e earlier =
            let later : among same before key ≡ true = ap (λ b. b || among same before key) (sym e) ∙ h in
            with_key-keeps (first_arrivals same before) x key (earlier later)

    -- where all are listed, none is unlisted
    none-unlisted : (keys arrived : List K) → ((key : K) → among same arrived key ≡ true → among same keys key ≡ true)
        → count_by (λ key. not (among same keys key)) arrived ≡ 0
    none-unlisted keys [] all = refl
    none-unlisted keys (x ∷ before) all =
        let here : among same keys x ≡ true = all x (ap (λ b. b || among same before x) (laws.self x)) in
        let more = none-unlisted keys before (λ key h. all key (later key h (same key x))) in
        count_by-cons (λ key. not (among same keys key)) x before ∙ (rw (here, more) refl)
      where
        later : (key : K) → among same before key ≡ true → (b : Bool) → (b || among same before key) ≡ true
        later key h true = refl
        later key h false = h

    pub unlisted-room : (limit : ℕ) (arrived : List K) → length (listed same limit arrived) < limit
        → unlisted same limit arrived ≡ 0
    unlisted-room limit arrived room =
        let all = listed-all limit arrived room in
        rw all (none-unlisted (first_arrivals same arrived) arrived (first_arrivals-all arrived))

    pub unlisted-known : (limit : ℕ) (arrived : List K) (key : K) → among same (listed same limit arrived) key ≡ true
        → unlisted same limit (key ∷ arrived) ≡ unlisted same limit arrived
    unlisted-known limit arrived key there =
        ap (λ keys. count_by (λ k. not (among same keys k)) (key ∷ arrived)) (listed-known limit arrived key there)
        ∙ count_by-cons (λ k. not (among same (listed same limit arrived) k)) key arrived
        ∙ (rw there (omega arith))

    pub unlisted-full : (limit : ℕ) (arrived : List K) (key : K) → among same (listed same limit arrived) key ≡ false
        → limit ≤ length (listed same limit arrived)
        → unlisted same limit (key ∷ arrived) ≡ unlisted same limit arrived + 1
    unlisted-full limit arrived key none full =
        ap (λ keys. count_by (λ k. not (among same keys k)) (key ∷ arrived)) (listed-full limit arrived key full)
        ∙ count_by-cons (λ k. not (among same (listed same limit arrived) k)) key arrived
        ∙ (rw none (omega arith))

    pub unlisted-new : (limit : ℕ) (arrived : List K) (key : K) → among same (listed same limit arrived) key ≡ false
        → length (listed same limit arrived) < limit
        → unlisted same limit (key ∷ arrived) ≡ 0
    unlisted-new limit arrived key none room =
        let all = listed-all limit arrived room in
        let new = listed-new limit arrived key none room in
        let grown : listed same limit (key ∷ arrived) ≡ first_arrivals same (key ∷ arrived) =
        new ∙ ap (λ keys. keys ++ key ∷ []) all
        ∙ ap (λ b. cond b (first_arrivals same arrived) (first_arrivals same arrived ++ key ∷ []))
        (sym (ap (λ keys. among same keys key) (sym all) ∙ none)) in
        ap (λ keys. count_by (λ k. not (among same keys k)) (key ∷ arrived)) grown
        ∙ none-unlisted (first_arrivals same (key ∷ arrived)) (key ∷ arrived) (first_arrivals-all (key ∷ arrived))
