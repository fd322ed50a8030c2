-- The headers that count are as many as the samples of flow sources that came in time.
use Rattle.std.proofs.Common.{◌≡◌, ℕ, suc, ◌+◌, ◌<◌, ◌≤◌, inl, inr, Bool, true, false, cond, not, ◌&&◌, ◌||◌, List, [], ◌∷◌, ◌++◌, length, map, ℤ, arith, refl, sym, ap, subst, ◌∙◌}
use Rattle.std.specs.List.{AllByRecursion, filter, list_any, sum_by}
use Rattle.std.proofs.lemmas.Bool.{cases_order, ltb-true, ltb-false}
use Rattle.std.proofs.lemmas.List.{length-append, length-map}
use Rattle.std.proofs.lemmas.List.Sums.{sum_by-cons}
use Rattle.count_spec.specs.Stretches.{placed}
use Rattle.count_spec.specs.TrueStretches.{newest_index, is_past, stretch_of, true_stretches}
use Rattle.count_spec.specs.declared.stretch_place.StretchPlace.TheVariants.{Current}
use Rattle.count_spec.proofs.TrueStretches.{AreNumbered, true_stretches-step}
use Rattle.books_spec.specs.declared.limits.Limits.{Limits}
use Rattle.books_spec.specs.Items.{SourceId, Stream, Source}
use Rattle.books_spec.specs.Listing.{same_stream, same_id, same_source, among, AreDistinct}
use Rattle.books_spec.specs.Books.{onto}
use Rattle.books_spec.specs.SampledHeaders.{FirstHeader, header_from}
use Rattle.books_spec.proofs.Keys.{stream-same, id-same, source-same, and-split}
use Rattle.books_spec.proofs.Listings.{IsSame}
use Rattle.agent_spec.specs.Samples.{Sample}
use Rattle.account_spec.specs.Deliveries.{Delivery, boot_of, number_of, deliveries_of, id_in, reading_shown}
use Rattle.account_spec.specs.Arrivals.{Arrived, is_first_in_time, arrived_from, arrived, arrived_of}
use Rattle.account_spec.specs.Accounts.{is_delivered, source_in, sources_with, sample_sources}
use Rattle.account_laws.proofs.Parts.{place-past, place-later, place-same, none-yet, HasCurrent, current}
use Rattle.delivered_items.specs.PacketHeaders.{sample_headers}
use Rattle.delivered_items.specs.AccountHeaders.{is_of, is_in_time, headers_with, headers_each, number_shown, account_headers}
use Rattle.delivered_items.proofs.InTimeCounts.{in_time_count}

-- ---- sums over keys

module _ {K : Type 0} where
  sum-each : (a b c e : K → ℕ) → ((k : K) → a k + b k ≡ c k + e k) → (ks : List K)
      → sum_by a ks + sum_by b ks ≡ sum_by c ks + sum_by e ks
  sum-each a b c e same [] = refl
  sum-each a b c e same (k ∷ ks) =
      let p = sum_by-cons a k ks in
      let q = sum_by-cons b k ks in
      let r = sum_by-cons c k ks in
      let s = sum_by-cons e k ks in
      let here = same k in
      let later = sum-each a b c e same ks in
      omega (arith, p, q, r, s, here, later)

  sum-same : (a b : K → ℕ) → ((k : K) → a k ≡ b k) → (ks : List K) → sum_by a ks ≡ sum_by b ks
  sum-same a b same [] = refl
  sum-same a b same (k ∷ ks) =
      let p = sum_by-cons a k ks in
      let q = sum_by-cons b k ks in
      let here = same k in
      let later = sum-same a b same ks in
      omega (arith, p, q, here, later)

  sum-none : (a : K → ℕ) → ((k : K) → a k ≡ 0) → (ks : List K) → sum_by a ks ≡ 0
  sum-none a none [] = refl
  sum-none a none (k ∷ ks) =
      let p = sum_by-cons a k ks in
      let here = none k in
      let later = sum-none a none ks in
      omega (arith, p, here, later)

  module _ (same : K → K → Bool) (laws : IsSame same) (key : K) (m : ℕ) (f g : K → ℕ)
      (more-at : (k : K) → g k ≡ f k + cond (same key k) m 0) where
    sum-absent : (ks : List K) → list_any (same key) ks ≡ false → sum_by g ks ≡ sum_by f ks
    sum-absent [] none = refl
    sum-absent (k ∷ ks) none =
        let parts = or-none (same key k) (list_any (same key) ks) none in
        let p = sum_by-cons g k ks in
        let q = sum_by-cons f k ks in
        let here : g k ≡ f k + 0 = more-at k ∙ ap (λ (b : Bool). f k + cond b m 0) parts.0 in
        let later = sum-absent ks parts.1 in
        omega (arith, p, q, here, later)
      where
        or-none : (a b : Bool) → (a || b) ≡ false → (a ≡ false) × (b ≡ false)
        or-none true b e = let bad : true ≡ false = e in absurd cc
        or-none false b e = (refl, e)

    -- one key has so many more
    sum-at : (ks : List K) → AreDistinct same ks → list_any (same key) ks ≡ true → sum_by g ks ≡ sum_by f ks + m
    sum-at [] distinct there = let bad : false ≡ true = there in absurd cc
    sum-at (k ∷ ks) distinct there = go (same key k) refl there (λ t. sum-at ks distinct.1 t)
      where
        p : sum_by g (k ∷ ks) ≡ g k + sum_by g ks
        p = sum_by-cons g k ks

        q : sum_by f (k ∷ ks) ≡ f k + sum_by f ks
        q = sum_by-cons f k ks

        go : (b : Bool) → same key k ≡ b → (b || list_any (same key) ks) ≡ true
            → (list_any (same key) ks ≡ true → sum_by g ks ≡ sum_by f ks + m) → sum_by g (k ∷ ks) ≡ sum_by f (k ∷ ks) + m
        go true e t more =
            let here : g k ≡ f k + m = more-at k ∙ ap (λ (b : Bool). f k + cond b m 0) e in
            let later = sum-absent ks (ap (λ (z : K). list_any (same z) ks) (laws.to key k e) ∙ distinct.0) in
            omega (arith, p, q, here, later)
        go false e t more =
            let here : g k ≡ f k + 0 = more-at k ∙ ap (λ (b : Bool). f k + cond b m 0) e in
            let later = more t in
            omega (arith, p, q, here, later)

-- ---- the samples of a datagram

-- a sample of a flow source has one header, and others have none
abbrev pub HasOwn : Sample → Type 0
HasOwn y = ◌≡◌ {A = ℕ} (length (sample_headers y)) (cond (id_in y).flow 1 0)

-- how many of these samples are of this flow source of the stream and in time
abbrev held_of : ℕ → Stream → List Arrived → Source → ℕ
held_of width stream xs k = cond (k.id.flow && same_stream stream k.stream) (in_time_count width (filter (is_of k.id) xs)) 0

-- what is known of a sample of the datagram
record IsCounted (stream : Stream) (ks : List Source) (x : Arrived) : Type 0 where
  own : HasOwn x.sample
  there : among same_source ks (source_in stream x.sample) ≡ true

module _ (width : ℕ) (stream : Stream) (shown : ℕ) (ks : List Source) (distinct : AreDistinct same_source ks) where
  abbrev held : List Arrived → Source → ℕ
  held xs k = held_of width stream xs k

  module _ (x : Arrived) (acc : List Arrived) (own : HasOwn x.sample) where
    abbrev id : SourceId
    id = id_in x.sample

    abbrev key : Source
    key = source_in stream x.sample

    abbrev bit : Bool
    bit = is_in_time width (filter (is_of id) acc) x

    abbrev m : ℕ
    m = length (cond bit (headers_with shown x.sample) [])

    m-is : m ≡ cond bit (cond id.flow 1 0) 0
    m-is = go bit
      where
        go : (b : Bool) → ◌≡◌ {A = ℕ} (length (cond b (headers_with shown x.sample) [])) (cond b (cond id.flow 1 0) 0)
        go true = length-map (sample_headers x.sample) (header_from shown id (reading_shown x.sample)) ∙ own
        go false = refl

    -- of its own source
    at-key : held (x ∷ acc) key ≡ held acc key + m
    at-key =
        let s : same_id id id ≡ true = IsSame.self id-same id in
        let t : same_stream stream stream ≡ true = IsSame.self stream-same stream in
        let F : List Arrived = filter (is_of id) acc in
        let a : held (x ∷ acc) key ≡ cond (id.flow && true) (cond bit 1 0 + in_time_count width F) 0 =
        λ j. cond (id.flow && t j) (in_time_count width (cond (s j) (x ∷ F) F)) 0 in
        let b : held acc key ≡ cond (id.flow && true) (in_time_count width F) 0 =
        λ j. cond (id.flow && t j) (in_time_count width F) 0 in
        let c = counts id.flow bit (in_time_count width F) in
        let d = m-is in
        omega (arith, a, b, c, d)
      where
        counts : (flow b : Bool) (n : ℕ) → ◌≡◌ {A = ℕ} (cond (flow && true) (cond b 1 0 + n) 0) (cond (flow && true) n 0 + cond b (cond flow 1 0) 0)
        counts true true n = omega arith
        counts true false n = omega arith
        counts false true n = omega arith
        counts false false n = omega arith

    elsewhere : (k : Source) → same_source key k ≡ false → held (x ∷ acc) k ≡ held acc k + 0
    elsewhere k other = go (same_stream stream k.stream) refl (same_id k.id id) refl
      where
        F : List Arrived
        F = filter (is_of k.id) acc

        go : (b : Bool) → same_stream stream k.stream ≡ b → (e : Bool) → same_id k.id id ≡ e
            → cond (k.id.flow && b) (in_time_count width (cond e (x ∷ F) F)) 0 ≡ cond (k.id.flow && b) (in_time_count width F) 0 + 0
        go true s true i =
            let same : id ≡ k.id = sym (IsSame.to id-same k.id id i) in
            let there : same_source key k ≡ true =
            ap (λ (z : Bool). z && same_id id k.id) s ∙ ap (λ (z : SourceId). same_id id z) (sym same) ∙ IsSame.self id-same id in
            let bad : true ≡ false = sym there ∙ other in absurd cc
        go true s false i = omega arith
        go false s e i = none k.id.flow (in_time_count width (cond e (x ∷ F) F)) (in_time_count width F)
          where
            none : (flow : Bool) (n o : ℕ) → ◌≡◌ {A = ℕ} (cond (flow && false) n 0) (cond (flow && false) o 0 + 0)
            none true n o = omega arith
            none false n o = omega arith

    at-each : (k : Source) → held (x ∷ acc) k ≡ held acc k + cond (same_source key k) m 0
    at-each k = go (same_source key k) refl
      where
        go : (b : Bool) → same_source key k ≡ b → held (x ∷ acc) k ≡ held acc k + cond b m 0
        go true e = subst (λ (z : Source). held (x ∷ acc) z ≡ held acc z + m) (IsSame.to source-same key k e) at-key
        go false e = elsewhere k e

    one-sample : among same_source ks key ≡ true → sum_by (held (x ∷ acc)) ks ≡ sum_by (held acc) ks + m
    one-sample there = sum-at same_source source-same key m (held acc) (held (x ∷ acc)) at-each ks distinct there

  all-samples : (xs acc : List Arrived) → AllByRecursion (IsCounted stream ks) xs
      → length (headers_each width shown acc xs) + sum_by (held acc) ks ≡ sum_by (held (onto xs acc)) ks
  all-samples [] acc h = omega arith
  all-samples (x ∷ xs) acc h =
      let a = one-sample x acc h.0.own h.0.there in
      let b = all-samples xs (x ∷ acc) h.1 in
      let c = length-append (cond (is_in_time width (filter (is_of (id_in x.sample)) acc) x) (headers_with shown x.sample) [])
      (headers_each width shown (x ∷ acc) xs) in
      omega (arith, a, b, c)

-- ---- the boots of a sub-agent with a delivery more

-- a sum over boots, where a delivery that isn't past joins its boot
grown : (f : List Delivery → ℕ) → f [] ≡ 0 → (d : Delivery) (own : List Delivery) → AreNumbered boot_of (d ∷ own)
    → newest_index boot_of own ≤ boot_of d
    → sum_by f (true_stretches boot_of (d ∷ own)) + f (stretch_of boot_of d.boot own)
    ≡ sum_by f (true_stretches boot_of own) + f (d ∷ stretch_of boot_of d.boot own)
grown f none d own numbered top =
    elim (cases_order (boot_of d) (newest_index boot_of own)) [
      | inl same ↦ on_same own numbered same
      | inr other ↦ elim other [
        | inl earlier ↦ absurd (omega arith)
        | inr later ↦ on_later later
      ]
    ]
  where
    on_later : newest_index boot_of own < boot_of d
        → sum_by f (true_stretches boot_of (d ∷ own)) + f (stretch_of boot_of d.boot own)
        ≡ sum_by f (true_stretches boot_of own) + f (d ∷ stretch_of boot_of d.boot own)
    on_later later =
        let s = ap (sum_by f) (true_stretches-step boot_of d own numbered
        ∙ ap (λ p. placed p d (true_stretches boot_of own)) (place-later boot_of d own later)) in
        let e = sum_by-cons f (d ∷ []) (true_stretches boot_of own) in
        let a = ap f (none-yet boot_of d.boot own later) in
        let b = ap (λ (ds : List Delivery). f (d ∷ ds)) (none-yet boot_of d.boot own later) in
        omega (arith, s, e, a, b, none)

    on_same : (us : List Delivery) → AreNumbered boot_of (d ∷ us) → boot_of d ≡ newest_index boot_of us
        → sum_by f (true_stretches boot_of (d ∷ us)) + f (stretch_of boot_of d.boot us)
        ≡ sum_by f (true_stretches boot_of us) + f (d ∷ stretch_of boot_of d.boot us)
    on_same [] n same = let one : 1 ≤ boot_of d = n.0 in absurd (omega arith)
    on_same (y ∷ more) n same =
        let us : List Delivery = y ∷ more in
        let c : HasCurrent boot_of us = current boot_of y more n.1 in
        let is : c.head ∷ c.tail ≡ stretch_of boot_of d.boot us = c.is ∙ ap (λ (i : ℕ). stretch_of boot_of i us) (sym same) in
        let s = ap (sum_by f) (true_stretches-step boot_of d us n
        ∙ ap (λ p. placed p d (true_stretches boot_of us)) (place-same boot_of d us same)
        ∙ ap (λ ss. placed Current d ss) c.are) in
        let e = sum_by-cons f (d ∷ c.head ∷ c.tail) c.closed in
        let t = ap (sum_by f) c.are in
        let g = sum_by-cons f (c.head ∷ c.tail) c.closed in
        let a = ap f is in
        let b = ap (λ (ds : List Delivery). f (d ∷ ds)) is in
        omega (arith, s, e, t, g, a, b)

-- a past one changes nothing
passed : (f : List Delivery → ℕ) (d : Delivery) (own : List Delivery) → AreNumbered boot_of (d ∷ own)
    → boot_of d < newest_index boot_of own → sum_by f (true_stretches boot_of (d ∷ own)) ≡ sum_by f (true_stretches boot_of own)
passed f d own numbered earlier =
    ap (sum_by f) (true_stretches-step boot_of d own numbered
    ∙ ap (λ p. placed p d (true_stretches boot_of own)) (place-past boot_of d own earlier))

-- ---- all deliveries

module _ (l : Limits) where
  abbrev w : ℕ
  w = l.datagram_width

  -- how many samples of the source came in time in this boot
  abbrev of_boot : SourceId → List Delivery → ℕ
  of_boot id boot = in_time_count l.sample_width (arrived_of w id boot)

  abbrev pub of_source : List Delivery → Source → ℕ
  of_source ds k = sum_by (of_boot k.id) (true_stretches boot_of (deliveries_of k.stream ds))

  abbrev pub of_flow : List Delivery → Source → ℕ
  of_flow ds k = cond k.id.flow (of_source ds k) 0

  abbrev pub AreNumberedAll : List Delivery → Type 0
  AreNumberedAll ds = (stream : Stream) → AreNumbered boot_of (deliveries_of stream ds)

  module _ (d : Delivery) (before : List Delivery) (numbered : AreNumberedAll (d ∷ before)) where
    abbrev own : List Delivery
    own = deliveries_of d.stream before

    abbrev boot : List Delivery
    boot = stretch_of boot_of d.boot own

    abbrev held_now : List Arrived → Source → ℕ
    held_now xs k = held_of l.sample_width d.stream xs k

    numbered-own : AreNumbered boot_of (d ∷ own)
    numbered-own = subst (λ (b : Bool). AreNumbered boot_of (cond b (d ∷ own) own)) (IsSame.self stream-same d.stream) (numbered d.stream)

    -- of a source of its stream
    of-own : (id : SourceId) → of_source (d ∷ before) (record { stream = d.stream; id = id })
        ≡ sum_by (of_boot id) (true_stretches boot_of (d ∷ own))
    of-own id = ap (λ (b : Bool). sum_by (of_boot id) (true_stretches boot_of (cond b (d ∷ own) own))) (IsSame.self stream-same d.stream)

    -- of another one
    other : (k : Source) → same_stream d.stream k.stream ≡ false → of_source (d ∷ before) k ≡ of_source before k
    other k apart = go (same_stream k.stream d.stream) refl
      where
        go : (b : Bool) → same_stream k.stream d.stream ≡ b
            → sum_by (of_boot k.id) (true_stretches boot_of (cond b (d ∷ deliveries_of k.stream before) (deliveries_of k.stream before)))
            ≡ of_source before k
        go true e =
            let bad : true ≡ false = sym (IsSame.self stream-same d.stream)
            ∙ ap (λ (z : Stream). same_stream d.stream z) (sym (IsSame.to stream-same k.stream d.stream e)) ∙ apart in absurd cc
        go false e = refl

    -- ---- one that is the first in time of its datagram

    module _ (now : is_delivered w own d ≡ true) where
      top : newest_index boot_of own ≤ boot_of d
      top = ltb-false d.boot (newest_index boot_of own)
          (not-true (is_past boot_of own d) (and-split (not (is_past boot_of own d)) (is_first_in_time w boot d) now).0)
        where
          not-true : (b : Bool) → not b ≡ true → b ≡ false
          not-true true e = let bad : false ≡ true = e in absurd cc
          not-true false e = refl

      abbrev Gains : Source → Type 0
      Gains k = of_flow (d ∷ before) k + held_now (arrived w boot) k ≡ of_flow before k + held_now (arrived w (d ∷ boot)) k

      gains-own : (id : SourceId) → Gains (record { stream = d.stream; id = id })
      gains-own id = go id.flow
        where
          k : Source
          k = record { stream = d.stream; id = id }

          n : List Delivery → ℕ
          n ds = of_boot id ds

          go : (flow : Bool)
              → cond flow (of_source (d ∷ before) k) 0 + cond (flow && same_stream d.stream d.stream) (of_boot id boot) 0
              ≡ cond flow (of_source before k) 0 + cond (flow && same_stream d.stream d.stream) (of_boot id (d ∷ boot)) 0
          go false = refl
          go true =
              let s : same_stream d.stream d.stream ≡ true = IsSame.self stream-same d.stream in
              let a : cond (same_stream d.stream d.stream) (of_boot id boot) 0 ≡ of_boot id boot = ap (λ (b : Bool). cond b (of_boot id boot) 0) s in
              let b : cond (same_stream d.stream d.stream) (of_boot id (d ∷ boot)) 0 ≡ of_boot id (d ∷ boot) =
              ap (λ (b : Bool). cond b (of_boot id (d ∷ boot)) 0) s in
              let e = of-own id in
              let g = grown (of_boot id) refl d own numbered-own top in
              omega (arith, a, b, e, g)

      gains : (k : Source) → Gains k
      gains k = go (same_stream d.stream k.stream) refl
        where
          none : (flow b : Bool) (n o : ℕ) → b ≡ false → cond (flow && b) n 0 ≡ cond (flow && b) o 0
          none true b n o e = ap (λ (c : Bool). cond c n 0) e ∙ sym (ap (λ (c : Bool). cond c o 0) e)
          none false b n o e = refl

          go : (b : Bool) → same_stream d.stream k.stream ≡ b → Gains k
          go true e = subst (λ (z : Stream). Gains (record { stream = z; id = k.id })) (IsSame.to stream-same d.stream k.stream e) (gains-own k.id)
          go false e =
              let a : of_flow (d ∷ before) k ≡ of_flow before k = ap (λ (n : ℕ). cond k.id.flow n 0) (other k e) in
              let b = none k.id.flow (same_stream d.stream k.stream) (of_boot k.id boot) (of_boot k.id (d ∷ boot)) e in
              omega (arith, a, b)

    -- ---- one that isn't

    module _ (late : is_delivered w own d ≡ false) where
      same-own : (id : SourceId) → sum_by (of_boot id) (true_stretches boot_of (d ∷ own)) ≡ sum_by (of_boot id) (true_stretches boot_of own)
      same-own id = go (is_past boot_of own d) refl
        where
          go : (b : Bool) → is_past boot_of own d ≡ b
              → sum_by (of_boot id) (true_stretches boot_of (d ∷ own)) ≡ sum_by (of_boot id) (true_stretches boot_of own)
          go true e = passed (of_boot id) d own numbered-own (ltb-true d.boot (newest_index boot_of own) e)
          go false e =
              let first : is_first_in_time w boot d ≡ false = sym (ap (λ (b : Bool). not b && is_first_in_time w boot d) e) ∙ late in
              let a : of_boot id (d ∷ boot) ≡ of_boot id boot =
              ap (λ (b : Bool). in_time_count l.sample_width (filter (is_of id) (onto (cond b (arrived_from d.boot (number_of d) 0 d.datagram.samples) []) (arrived w boot)))) first in
              let g = grown (of_boot id) refl d own numbered-own (ltb-false d.boot (newest_index boot_of own) e) in
              omega (arith, a, g)

      stays : (k : Source) → of_flow (d ∷ before) k ≡ of_flow before k
      stays k = go (same_stream d.stream k.stream) refl
        where
          go : (b : Bool) → same_stream d.stream k.stream ≡ b → of_flow (d ∷ before) k ≡ of_flow before k
          go true e = subst (λ (z : Stream). of_flow (d ∷ before) (record { stream = z; id = k.id }) ≡ of_flow before (record { stream = z; id = k.id }))
              (IsSame.to stream-same d.stream k.stream e) (ap (λ (n : ℕ). cond k.id.flow n 0) (of-own k.id ∙ same-own k.id))
          go false e = ap (λ (n : ℕ). cond k.id.flow n 0) (other k e)

  -- ---- all of them

  module _ (ks : List Source) (distinct : AreDistinct same_source ks) where
    abbrev AreThere : List Source → Type 0
    AreThere sources = AllByRecursion (λ (k : Source). among same_source ks k ≡ true) sources

    there-parts : (xs ys : List Source) → AreThere (onto xs ys) → AreThere xs × AreThere ys
    there-parts [] ys h = (tt, h)
    there-parts (x ∷ xs) ys h = let r = there-parts xs (x ∷ ys) h in ((r.1.0, r.0), r.1.1)

    counted-from : (stream : Stream) (number : ℕ) (n : ℤ) (i : ℕ) (ys : List Sample) → AllByRecursion HasOwn ys → AreThere (map (source_in stream) ys)
        → AllByRecursion (IsCounted stream ks) (arrived_from number n i ys)
    counted-from stream number n i [] a b = tt
    counted-from stream number n i (y ∷ ys) a b = (record { own = a.0; there = b.0 }, counted-from stream number n (suc i) ys a.1 b.1)

    pub all-counted : (ds : List Delivery) → AreNumberedAll ds → AllByRecursion (λ (d : Delivery). AllByRecursion HasOwn d.datagram.samples) ds
        → AreThere (sample_sources w ds) → length (account_headers l ds) ≡ sum_by (of_flow ds) ks
    all-counted [] numbered owns there = sym (sum-none (of_flow []) (λ k. zero k.id.flow) ks)
      where
        zero : (b : Bool) → ◌≡◌ {A = ℕ} (cond b 0 0) 0
        zero true = refl
        zero false = refl
    all-counted (d ∷ before) numbered owns there =
        go (is_delivered w (deliveries_of d.stream before) d) refl
        (all-counted before (λ stream. less stream (numbered stream)) owns.1
        (there-parts (sources_with (is_delivered w (deliveries_of d.stream before) d) d) (sample_sources w before) there).1)
      where
        less : (stream : Stream) → AreNumbered boot_of (deliveries_of stream (d ∷ before)) → AreNumbered boot_of (deliveries_of stream before)
        less stream = go (same_stream stream d.stream)
          where
            go : (b : Bool) → AreNumbered boot_of (cond b (d ∷ deliveries_of stream before) (deliveries_of stream before))
                → AreNumbered boot_of (deliveries_of stream before)
            go true h = h.1
            go false h = h

        boot : List Delivery
        boot = stretch_of boot_of d.boot (deliveries_of d.stream before)

        new : List FirstHeader
        new = headers_each l.sample_width (number_shown before d) (arrived w boot) (arrived_from d.boot (number_of d) 0 d.datagram.samples)

        go : (b : Bool) → is_delivered w (deliveries_of d.stream before) d ≡ b
            → length (account_headers l before) ≡ sum_by (of_flow before) ks
            → length (account_headers l before ++ cond b new []) ≡ sum_by (of_flow (d ∷ before)) ks
        go false late earlier =
            let a = length-append (account_headers l before) [] in
            let b = sum-same (of_flow (d ∷ before)) (of_flow before) (stays d before numbered late) ks in
            omega (arith, a, b, earlier)
        go true now earlier =
            let a = length-append (account_headers l before) new in
            let here : AreThere (map (source_in d.stream) d.datagram.samples) =
            (there-parts (map (source_in d.stream) d.datagram.samples) (sample_sources w before)
            (subst (λ (b : Bool). AreThere (onto (sources_with b d) (sample_sources w before))) now there)).0 in
            let c = all-samples l.sample_width d.stream (number_shown before d) ks distinct
            (arrived_from d.boot (number_of d) 0 d.datagram.samples) (arrived w boot)
            (counted-from d.stream d.boot (number_of d) 0 d.datagram.samples owns.0 here) in
            let first = (and-split (not (is_past boot_of (deliveries_of d.stream before) d)) (is_first_in_time w boot d) now).1 in
            let e : arrived w (d ∷ boot) ≡ onto (arrived_from d.boot (number_of d) 0 d.datagram.samples) (arrived w boot) =
            ap (λ (b : Bool). onto (cond b (arrived_from d.boot (number_of d) 0 d.datagram.samples) []) (arrived w boot)) first in
            let f = ap (λ (xs : List Arrived). sum_by (held_of l.sample_width d.stream xs) ks) e in
            let g = sum-each (of_flow (d ∷ before)) (held_of l.sample_width d.stream (arrived w boot)) (of_flow before)
            (held_of l.sample_width d.stream (arrived w (d ∷ boot))) (gains d before numbered now) ks in
            omega (arith, a, c, f, g, earlier)
