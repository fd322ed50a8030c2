-- A datagram that is passed behind others.
use Rattle.std.proofs.Common.{◌≡◌, inl, inr, ℕ, zero, suc, ◌+◌, ◌<◌, ◌&&◌, Bool, true, false, not, cond, if◌then◌else◌, List, [], ◌∷◌, ◌++◌, map, length, take, Option, Some, None, slice_get, refl, sym, ap, subst, ◌∙◌, arith, length-append}
use Rattle.std.specs.List.{filter}
use Rattle.std.proofs.lemmas.List.{append_assoc, append-nil}
use Rattle.datagram_links.specs.Receivers.{ReceiverSeen, ReceiverTold, passed_one, failed_receiver}
use Rattle.relay_out.specs.declared.progress.Progress.{Progress}
use Rattle.relay_out.specs.Routes.{Route, AgentDatagram, takes, by_route}
use Rattle.relay_out.specs.Relays.{Goes, Passed, TookAll, TookSome, Took, Relayed, PassedEach, RelayedEach, passed_all}

-- ---- lists

take_front : {A : Type 0} (xs ys : List A) → take (length xs) (xs ++ ys) ≡ xs
take_front [] [] = refl
take_front [] (y ∷ ys) = refl
take_front (x ∷ xs) ys = ap (λ l. x ∷ l) (take_front xs ys)

take_within : {A : Type 0} (n : ℕ) (xs ys : List A) → n < length xs → take n (xs ++ ys) ≡ take n xs
take_within n [] ys lt = absurd (omega (arith, lt))
take_within zero (x ∷ xs) ys lt = refl
take_within (suc n) (x ∷ xs) ys lt = ap (λ l. x ∷ l) (take_within n xs ys (omega (arith, lt)))

pub by_route_more : (route : Route) (before : List AgentDatagram) (d : AgentDatagram)
    → by_route route (before ++ d ∷ []) ≡ by_route route before ++ (if takes route d.agent then d.bytes ∷ [] else [])
by_route_more route [] d = go (takes route d.agent)
  where
    go : (b : Bool) → map (λ (e : AgentDatagram). e.bytes) (cond b (d ∷ []) []) ≡ (if b then d.bytes ∷ [] else [])
    go true = refl
    go false = refl
by_route_more route (e ∷ before) d = go (takes route e.agent) (by_route_more route before d)
  where
    Bytes : Type 0
    Bytes = List (List ℕ)

    Rest : List AgentDatagram → List AgentDatagram
    Rest l = filter (λ d. takes route d.agent) l

    last : Bytes
    last = if takes route d.agent then d.bytes ∷ [] else []

    go : (b : Bool) → by_route route (before ++ d ∷ []) ≡ by_route route before ++ last
        → map (λ (e : AgentDatagram). e.bytes) (cond b (e ∷ Rest (before ++ d ∷ [])) (Rest (before ++ d ∷ [])))
        ≡ map (λ (e : AgentDatagram). e.bytes) (cond b (e ∷ Rest before) (Rest before)) ++ last
    go true others = ap (λ (l : Bytes). e.bytes ∷ l) others
    go false others = others

-- ---- what a receiver shows

pub none_more : (s : ReceiverSeen) → passed_all [] s ≡ s
none_more s = λ i. record { told = go s.told i; faults = s.faults }
  where
    go : (o : Option ReceiverTold) → (passed_all [] (record { told = o; faults = 0 })).told ≡ o
    go None = refl
    go (Some told) = ap (λ l. Some (record { place = told.place; taken = l })) (append-nil told.taken)

one_more : (pieces : List (List ℕ)) (bytes : List ℕ) (s : ReceiverSeen)
    → passed_one bytes (passed_all pieces s) ≡ passed_all (pieces ++ bytes ∷ []) s
one_more pieces bytes s = λ i. record { told = go s.told i; faults = s.faults }
  where
    go : (o : Option ReceiverTold) → (passed_one bytes (passed_all pieces (record { told = o; faults = 0 }))).told
        ≡ (passed_all (pieces ++ bytes ∷ []) (record { told = o; faults = 0 })).told
    go None = refl
    go (Some told) = ap (λ l. Some (record { place = told.place; taken = l })) (append_assoc told.taken pieces (bytes ∷ []))

module _ {X : Type 0} (seen : X → ReceiverSeen) (x : X) (was : Progress) (y : X) (mid : Progress) (z : X) (now : Progress) where
  -- one that is stopped stays
  stays : (b : Bool) (bytes : List ℕ) → mid.stopped ≡ true → Goes seen (not mid.stopped && b) bytes y mid z now → (z ≡ y) × (now ≡ mid)
  stays b bytes is goes = subst (λ s. Goes seen (not s && b) bytes y mid z now) is goes

  not_taken : (s : Bool) (bytes : List ℕ) → Goes seen (not s && false) bytes y mid z now → (z ≡ y) × (now ≡ mid)
  not_taken true bytes goes = goes
  not_taken false bytes goes = goes

  first_one : (bytes : List ℕ) → y ≡ x → mid ≡ was → Goes seen true bytes y mid z now → Took seen (bytes ∷ []) x was z now
  first_one bytes same kept (inl (took, count)) = inl (record {
    took = took ∙ ap (λ v. passed_one bytes (seen v)) same;
    count = count ∙ ap (λ (p : Progress). record p { passed = p.passed + 1 }) kept;
  })
  first_one bytes same kept (inr (failed, count)) =
      let number : mid.passed ≡ was.passed + 0 = omega (arith, ap (λ (p : Progress). p.passed) kept) in
      inr (record {
        many = 0;
        fewer = omega arith;
        took = failed ∙ ap (λ v. failed_receiver (seen v)) same ∙ ap failed_receiver (sym (none_more (seen x)));
        count = count ∙ λ i. record { passed = number i; stopped = true };
      })

  next_one : (p : List ℕ) (ps : List (List ℕ)) (bytes : List ℕ) → TookAll seen (p ∷ ps) x was y mid
      → Goes seen true bytes y mid z now → Took seen (p ∷ (ps ++ bytes ∷ [])) x was z now
  next_one p ps bytes all (inl (took, count)) =
      let number : mid.passed + 1 ≡ was.passed + length (p ∷ (ps ++ bytes ∷ [])) =
      omega (arith, ap (λ (p : Progress). p.passed) all.count, length-append ps (bytes ∷ [])) in
      inl (record {
        took = took ∙ ap (passed_one bytes) all.took ∙ one_more (p ∷ ps) bytes (seen x);
        count = count ∙ λ i. record { passed = number i; stopped = ap (λ (p : Progress). p.stopped) all.count i };
      })
  next_one p ps bytes all (inr (failed, count)) = inr (record {
    many = length (p ∷ ps);
    fewer = omega (arith, length-append ps (bytes ∷ []));
    took = failed ∙ ap failed_receiver (all.took ∙ ap (λ l. passed_all l (seen x)) (sym (take_front (p ∷ ps) (bytes ∷ []))));
    count = count ∙ λ i. record { passed = ap (λ (p : Progress). p.passed) all.count i; stopped = true };
  })

  stopped_one : (p : List ℕ) (ps : List (List ℕ)) (bytes : List ℕ) → TookSome seen (p ∷ ps) x was y mid
      → z ≡ y → now ≡ mid → Took seen (p ∷ (ps ++ bytes ∷ [])) x was z now
  stopped_one p ps bytes some same kept = inr (record {
    many = some.many;
    fewer = omega (arith, some.fewer, length-append ps (bytes ∷ []));
    took = ap seen same ∙ some.took ∙ ap (λ l. failed_receiver (passed_all l (seen x))) (sym (take_within some.many (p ∷ ps) (bytes ∷ []) some.fewer));
    count = kept ∙ some.count;
  })

  -- one that wasn't stopped before, and takes the datagram unless it failed since
  took_next : (pieces : List (List ℕ)) (bytes : List ℕ) → was.stopped ≡ false → Took seen pieces x was y mid
      → Goes seen (not mid.stopped && true) bytes y mid z now → Took seen (pieces ++ bytes ∷ []) x was z now
  took_next [] bytes free (same, kept) goes =
      first_one bytes same kept (subst (λ s. Goes seen (not s && true) bytes y mid z now) (ap (λ (p : Progress). p.stopped) kept ∙ free) goes)
  took_next (p ∷ ps) bytes free (inl all) goes =
      next_one p ps bytes all (subst (λ s. Goes seen (not s && true) bytes y mid z now) (ap (λ (p : Progress). p.stopped) all.count ∙ free) goes)
  took_next (p ∷ ps) bytes free (inr some) goes =
      let kept = stays true bytes (ap (λ (p : Progress). p.stopped) some.count) goes in
      stopped_one p ps bytes some kept.0 kept.1

  by_taking : (b : Bool) (pieces : List (List ℕ)) (bytes : List ℕ) → was.stopped ≡ false → Took seen pieces x was y mid
      → Goes seen (not mid.stopped && b) bytes y mid z now → Took seen (pieces ++ (if b then bytes ∷ [] else [])) x was z now
  by_taking true pieces bytes free took goes = took_next pieces bytes free took goes
  by_taking false pieces bytes free took goes =
      let kept = not_taken mid.stopped bytes goes in
      subst (λ l. Took seen l x was z now) (sym (append-nil pieces))
      (subst (λ v. Took seen pieces x was v now) (sym kept.0) (subst (λ q. Took seen pieces x was y q) (sym kept.1) took))

  by_stop : (s : Bool) (route : Route) (before : List AgentDatagram) (d : AgentDatagram) → was.stopped ≡ s
      → Took seen (if s then [] else by_route route before) x was y mid
      → Goes seen (not mid.stopped && takes route d.agent) d.bytes y mid z now
      → Took seen (if s then [] else by_route route (before ++ d ∷ [])) x was z now
  by_stop true route before d is (same, kept) goes =
      let after = stays (takes route d.agent) d.bytes (ap (λ (p : Progress). p.stopped) kept ∙ is) goes in
      (after.0 ∙ same, after.1 ∙ kept)
  by_stop false route before d is took goes =
      subst (λ l. Took seen l x was z now) (sym (by_route_more route before d))
      (by_taking (takes route d.agent) (by_route route before) d.bytes is took goes)

  relayed_next : (o : Option Route) (before : List AgentDatagram) (d : AgentDatagram)
      → Relayed seen before o x was y mid → Passed seen d o y mid z now → Relayed seen (before ++ d ∷ []) o x was z now
  relayed_next None before d rel one = (one.0 ∙ rel.0, one.1 ∙ rel.1)
  relayed_next (Some route) before d rel one = by_stop was.stopped route before d refl rel one

module _ {X : Type 0} (seen : X → ReceiverSeen) (routes : List Route) (xs : List X) (was : List Progress) (ys : List X) (mid : List Progress)
    (zs : List X) (now : List Progress) where
  -- a datagram is relayed behind those before it
  pub follows : (before : List AgentDatagram) (d : AgentDatagram) → RelayedEach seen before routes xs was ys mid
      → PassedEach seen d routes ys mid zs now → RelayedEach seen (before ++ d ∷ []) routes xs was zs now
  follows before d rel one = record {
    many = one.many ∙ rel.many;
    each = λ place x at.
        let first = rel.each place x at in
        let next = one.each place first.0 first.1 in
        (next.0, next.1, relayed_next seen x _ first.0 _ next.0 _ (slice_get routes place) before d first.2 next.2);
  }

  pub none_relayed : (o : Option Route) (x : X) (p : Progress) → Relayed seen [] o x p x p
  none_relayed None x p = (refl, refl)
  none_relayed (Some route) x p = go p.stopped
    where
      go : (s : Bool) → Took seen (if s then [] else []) x p x p
      go true = (refl, refl)
      go false = (refl, refl)
