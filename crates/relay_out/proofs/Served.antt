-- Receivers in a run: they are aimed, and then one datagram more goes on.
use Rattle.std.proofs.Common.{◌≡◌, inl, inr, ℕ, ◌+◌, ◌<◌, ◌≤◌, ◌&&◌, Bool, true, false, not, if◌then◌else◌, List, [], ◌∷◌, ◌++◌, length, Option, Some, None, slice_get, refl, sym, ap, subst, ◌∙◌, arith, length-append}
use Rattle.std.specs.Prelude.{option_map}
use Rattle.std.specs.List.{filter}
use Rattle.std.proofs.lemmas.List.{append_assoc, append-nil, length-map}
use Rattle.std.proofs.lemmas.List.Sums.{length-filter, count_by-le-length}
use Rattle.byte_ends.specs.Seen.{next_count}
use Rattle.datagram_links.specs.Receivers.{ReceiverSeen, ReceiverTold, aimed_at, passed_one}
use Rattle.relay_out.specs.declared.progress.Progress.{Progress}
use Rattle.relay_out.specs.Routes.{Route, AgentDatagram, takes, by_route}
use Rattle.relay_out.specs.Relays.{progress_at, AimedBy, Aimed, Goes, Passed, AimedEach, PassedEach}
use Rattle.relay_out.specs.Runs.{took_of, place_of, HasServed, Serves, RunServed}
use Rattle.relay_out.proofs.Followed.{by_route_more}
use Rattle.relay_out.proofs.Steps.{element}

-- ---- what a receiver tells

abbrev Taken : Type 0
Taken = Option (List (List ℕ))

none_behind : (o : Taken) → o ≡ option_map (λ (l : List (List ℕ)). l ++ []) o
none_behind None = refl
none_behind (Some l) = ap Some (sym (append-nil l))

both_behind : (first more : List (List ℕ)) (o : Taken)
    → option_map (λ (l : List (List ℕ)). l ++ more) (option_map (λ (l : List (List ℕ)). l ++ first) o)
    ≡ option_map (λ (l : List (List ℕ)). l ++ (first ++ more)) o
both_behind first more None = refl
both_behind first more (Some l) = ap Some (append_assoc l first more)

-- an aim leaves the list
aimed_list : (place : List ℕ) (s : ReceiverSeen) → took_of (aimed_at place s) ≡ took_of s
aimed_list place s = go s.told
  where
    go : (o : Option ReceiverTold) → took_of (aimed_at place (record { told = o; faults = 0 })) ≡ took_of (record { told = o; faults = 0 })
    go None = refl
    go (Some told) = refl

aimed_place : (place : List ℕ) (s : ReceiverSeen)
    → place_of (aimed_at place s) ≡ option_map (λ (_ : Option (List ℕ)). Some place) (place_of s)
aimed_place place s = go s.told
  where
    go : (o : Option ReceiverTold) → place_of (aimed_at place (record { told = o; faults = 0 }))
        ≡ option_map (λ (_ : Option (List ℕ)). Some place) (place_of (record { told = o; faults = 0 }))
    go None = refl
    go (Some told) = refl

-- a pass puts the bytes behind the list, and leaves the place
passed_list : (bytes : List ℕ) (s : ReceiverSeen)
    → took_of (passed_one bytes s) ≡ option_map (λ (l : List (List ℕ)). l ++ bytes ∷ []) (took_of s)
passed_list bytes s = go s.told
  where
    go : (o : Option ReceiverTold) → took_of (passed_one bytes (record { told = o; faults = 0 }))
        ≡ option_map (λ (l : List (List ℕ)). l ++ bytes ∷ []) (took_of (record { told = o; faults = 0 }))
    go None = refl
    go (Some told) = refl

passed_place : (bytes : List ℕ) (s : ReceiverSeen) → place_of (passed_one bytes s) ≡ place_of s
passed_place bytes s = go s.told
  where
    go : (o : Option ReceiverTold) → place_of (passed_one bytes (record { told = o; faults = 0 })) ≡ place_of (record { told = o; faults = 0 })
    go None = refl
    go (Some told) = refl

-- ---- one receiver

-- its count of faults, where it was this many before
abbrev count_by : ℕ → Bool → ℕ
count_by before stopped = if stopped then next_count before else before

module _ {X : Type 0} (seen : X → ReceiverSeen) (place : List ℕ) (x : X) where
  aimed_one : (y : X) (now : Progress) → AimedBy seen place x y now → HasServed seen place [] x y now
  aimed_one y now (inl (aimed, start)) = record {
    took = [];
    missed = [];
    whole = refl;
    list = ap took_of aimed ∙ aimed_list place (seen x) ∙ none_behind (took_of (seen x));
    number = ap (λ (p : Progress). p.passed) start;
    faults = ap (λ (s : ReceiverSeen). s.faults) aimed ∙ sym (ap (λ (p : Progress). count_by (seen x).faults p.stopped) start);
    all = λ _. refl;
    aimed = λ _. ap place_of aimed ∙ aimed_place place (seen x);
  }
  aimed_one y now (inr (failed, start)) = record {
    took = [];
    missed = [];
    whole = refl;
    list = ap took_of failed ∙ none_behind (took_of (seen x));
    number = ap (λ (p : Progress). p.passed) start;
    faults = ap (λ (s : ReceiverSeen). s.faults) failed ∙ sym (ap (λ (p : Progress). count_by (seen x).faults p.stopped) start);
    all = λ _. refl;
    aimed = λ free.
        let bad : true ≡ false = sym (ap (λ (p : Progress). p.stopped) start) ∙ free in
        absurd cc;
  }

  module _ (due : List (List ℕ)) (y : X) (mid : Progress) (served : HasServed seen place due x y mid) where
    -- it is as it was
    rests : (z : X) (now : Progress) → z ≡ y → now ≡ mid → HasServed seen place due x z now
    rests z now same kept =
        subst (λ v. HasServed seen place due x v now) (sym same) (subst (λ p. HasServed seen place due x y p) (sym kept) served)

    -- what goes past one that is stopped is missed
    stopped_more : (bytes : List ℕ) → mid.stopped ≡ true → HasServed seen place (due ++ bytes ∷ []) x y mid
    stopped_more bytes held = record {
      took = served.took;
      missed = served.missed ++ bytes ∷ [];
      whole = ap (λ (l : List (List ℕ)). l ++ bytes ∷ []) served.whole ∙ append_assoc served.took served.missed (bytes ∷ []);
      list = served.list;
      number = served.number;
      faults = served.faults;
      all = λ free. let bad : true ≡ false = sym held ∙ free in absurd cc;
      aimed = λ free. let bad : true ≡ false = sym held ∙ free in absurd cc;
    }

    -- one that isn't stopped took all
    took_all : mid.stopped ≡ false → due ≡ served.took
    took_all free = served.whole ∙ ap (λ (l : List (List ℕ)). served.took ++ l) (served.all free) ∙ append-nil served.took

    none_failed : mid.stopped ≡ false → (seen y).faults ≡ (seen x).faults
    none_failed free = served.faults ∙ ap (count_by (seen x).faults) free

    went : (bytes : List ℕ) (z : X) (now : Progress) → mid.stopped ≡ false → Goes seen true bytes y mid z now
        → HasServed seen place (due ++ bytes ∷ []) x z now
    went bytes z now free (inl (took, count)) =
        let one : now.passed ≡ mid.passed + 1 = ap (λ (p : Progress). p.passed) count in
        let before : mid.passed ≡ length served.took = served.number in
        record {
          took = served.took ++ bytes ∷ [];
          missed = [];
          whole = ap (λ (l : List (List ℕ)). l ++ bytes ∷ []) (took_all free) ∙ sym (append-nil (served.took ++ bytes ∷ []));
          list = ap took_of took ∙ passed_list bytes (seen y)
              ∙ ap (option_map (λ (l : List (List ℕ)). l ++ bytes ∷ [])) served.list
              ∙ both_behind served.took (bytes ∷ []) (took_of (seen x));
          number = omega (arith, length-append served.took (bytes ∷ []));
          faults = ap (λ (s : ReceiverSeen). s.faults) took ∙ served.faults
              ∙ sym (ap (λ (p : Progress). count_by (seen x).faults p.stopped) count);
          all = λ _. refl;
          aimed = λ _. ap place_of took ∙ passed_place bytes (seen y) ∙ served.aimed free;
        }
    went bytes z now free (inr (failed, count)) = record {
      took = served.took;
      missed = bytes ∷ [];
      whole = ap (λ (l : List (List ℕ)). l ++ bytes ∷ []) (took_all free);
      list = ap took_of failed ∙ served.list;
      number = ap (λ (p : Progress). p.passed) count ∙ served.number;
      faults = ap (λ (s : ReceiverSeen). s.faults) failed ∙ ap next_count (none_failed free)
          ∙ sym (ap (λ (p : Progress). count_by (seen x).faults p.stopped) count);
      all = λ loose.
          let bad : true ≡ false = sym (ap (λ (p : Progress). p.stopped) count) ∙ loose in
          absurd cc;
      aimed = λ loose.
          let bad : true ≡ false = sym (ap (λ (p : Progress). p.stopped) count) ∙ loose in
          absurd cc;
    }

    not_taken : (s : Bool) (bytes : List ℕ) (z : X) (now : Progress) → Goes seen (not s && false) bytes y mid z now
        → (z ≡ y) × (now ≡ mid)
    not_taken true bytes z now goes = goes
    not_taken false bytes z now goes = goes

    by_stop : (s : Bool) (bytes : List ℕ) (z : X) (now : Progress) → mid.stopped ≡ s → Goes seen (not s && true) bytes y mid z now
        → HasServed seen place (due ++ bytes ∷ []) x z now
    by_stop true bytes z now held (same, kept) =
        subst (λ v. HasServed seen place (due ++ bytes ∷ []) x v now) (sym same)
        (subst (λ p. HasServed seen place (due ++ bytes ∷ []) x y p) (sym kept) (stopped_more bytes held))
    by_stop false bytes z now free goes = went bytes z now free goes

    one_more : (b : Bool) (bytes : List ℕ) (z : X) (now : Progress) → Goes seen (not mid.stopped && b) bytes y mid z now
        → HasServed seen place (due ++ (if b then bytes ∷ [] else [])) x z now
    one_more true bytes z now goes = by_stop mid.stopped bytes z now refl goes
    one_more false bytes z now goes =
        let kept = not_taken mid.stopped bytes z now goes in
        subst (λ l. HasServed seen place l x z now) (sym (append-nil due)) (rests z now kept.0 kept.1)

-- ---- all receivers

-- a route takes no more than there are
fewer : (route : Route) (datagrams : List AgentDatagram) → length (by_route route datagrams) ≤ length datagrams
fewer route datagrams =
    let taken : List AgentDatagram = filter (λ d. takes route d.agent) datagrams in
    omega (
      arith,
      length-map taken (λ (d : AgentDatagram). d.bytes),
      length-filter (λ (d : AgentDatagram). takes route d.agent) datagrams,
      count_by-le-length (λ (d : AgentDatagram). takes route d.agent) datagrams,
    )

module _ {X : Type 0} (seen : X → ReceiverSeen) where
  aimed_at_route : (o : Option Route) (x : X) (was : Progress) (y : X) (now : Progress) → Aimed seen o x was y now → Serves seen [] o x y now
  aimed_at_route None x was y now aim = aim
  aimed_at_route (Some route) x was y now aim = aimed_one seen route.place x y now aim

  passed_by_route : (before : List AgentDatagram) (d : AgentDatagram) (o : Option Route) (x y : X) (mid : Progress) (z : X) (now : Progress)
      → Serves seen before o x y mid → Passed seen d o y mid z now → Serves seen (before ++ d ∷ []) o x z now
  passed_by_route before d None x y mid z now served one = (one.0 ∙ served.0, one.1 ∙ served.1)
  passed_by_route before d (Some route) x y mid z now served one =
      subst (λ l. HasServed seen route.place l x z now) (sym (by_route_more route before d))
      (one_more seen route.place x (by_route route before) y mid served (takes route d.agent) d.bytes z now one)

  module _ (routes : List Route) (xs : List X) where
    -- a run begins
    pub begins : (was : List Progress) (ys : List X) (now : List Progress) → AimedEach seen routes xs was ys now
        → RunServed seen [] routes xs ys now
    begins was ys now aim = record {
      many = aim.many;
      each = λ place x at.
          let first = aim.each place x at in
          (first.0, first.1, aimed_at_route (slice_get routes place) x _ first.0 _ first.2);
    }

    -- and goes on
    pub serves : (before : List AgentDatagram) (d : AgentDatagram) (ys : List X) (mid : List Progress) (zs : List X) (now : List Progress)
        → RunServed seen before routes xs ys mid → PassedEach seen d routes ys mid zs now
        → RunServed seen (before ++ d ∷ []) routes xs zs now
    serves before d ys mid zs now served one = record {
      many = one.many ∙ served.many;
      each = λ place x at.
          let first = served.each place x at in
          let next = one.each place first.0 first.1 in
          (next.0, next.1, passed_by_route before d (slice_get routes place) x first.0 _ next.0 _ first.2 next.2);
    }

    -- a number is at most how many datagrams have gone on
    pub counted : (before : List AgentDatagram) (ys : List X) (now : List Progress) → RunServed seen before routes xs ys now
        → (at : ℕ) → at < length routes → at < length ys → (progress_at now at).passed ≤ length before
    counted before ys now served at in_routes inside =
        let same = served.many in
        let there : at < length xs = omega arith in
        let one = element xs at there in
        let route = element routes at in_routes in
        let after = served.each at one.0 one.1 in
        let here : HasServed seen route.0.place (by_route route.0 before) one.0 after.0 (progress_at now at) =
        subst (λ o. Serves seen before o one.0 after.0 (progress_at now at)) route.1 after.2 in
        omega (
          arith,
          here.number,
          ap length here.whole,
          length-append here.took here.missed,
          fewer route.0 before,
        )
