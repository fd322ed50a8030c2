-- The receiver at the next place does its part.
use Rattle.std.proofs.Common.{◌≡◌, ℕ, zero, suc, ◌+◌, ◌<◌, ◌≤◌, ◌&&◌, not, Bool, List, [], ◌∷◌, Some, length, get_or, set, take, replicate, slice_get, refl, sym, ap, subst, ◌∙◌, arith}
use Rattle.std.specs.Prelude.{IfSome}
use Rattle.std.proofs.lemmas.Option.{same_Some, slice_get_read}
use Rattle.std.proofs.lemmas.List.{take_all}
use Rattle.datagram_links.specs.Receivers.{ReceiverSeen}
use Rattle.relay_out.specs.declared.progress.Progress.{Progress}
use Rattle.relay_out.specs.Routes.{Route, AgentDatagram, takes}
use Rattle.relay_out.specs.Relays.{at_start, progress_at, AimedBy, Aimed, Goes, Passed, AimedEach, PassedEach}
use Rattle.relay_out.proofs.Places.{none_yet, further}

pub element : {X : Type 0} (xs : List X) (n : ℕ) → n < length xs → (x : X) × (slice_get xs n ≡ Some x)
element [] n lt = absurd (omega (arith, lt))
element (x ∷ xs) zero lt = (x, refl)
element (x ∷ xs) (suc n) lt = element xs n (omega (arith, lt))

started : (many place : ℕ) → get_or (replicate many at_start) place at_start ≡ at_start
started zero place = refl
started (suc many) zero = refl
started (suc many) (suc place) = started many place

module _ {X : Type 0} (seen : X → ReceiverSeen) (routes : List Route) (xs : List X) (was : List Progress) where
  fresh : AimedEach seen [] xs was xs (replicate 8 at_start)
  fresh = record { many = refl; each = λ place x at. (x, at, (refl, started 8 place)) }

  pub none_aimed : (p : Progress) → p ≡ at_start → AimedEach seen [] xs was xs (replicate 8 p)
  none_aimed p is = subst (λ v. AimedEach seen [] xs was xs (replicate 8 v)) (sym is) fresh

  pub none_passed : (d : AgentDatagram) → PassedEach seen d [] xs was xs was
  none_passed d = record { many = refl; each = λ place x at. (x, at, (refl, refl)) }

  module _ (ys : List X) (now : List Progress) (n : ℕ) where
    pub not_aimed_yet : AimedEach seen (take n routes) xs was ys now → n < length xs → progress_at now n ≡ at_start
    not_aimed_yet so_far lt =
        let there = element xs n lt in
        let before = so_far.each n there.0 there.1 in
        (subst (λ o. Aimed seen o there.0 (progress_at was n) before.0 (progress_at now n)) (none_yet routes n) before.2).1

    pub not_passed_yet : (d : AgentDatagram) → PassedEach seen d (take n routes) xs was ys now → n < length xs
        → progress_at now n ≡ progress_at was n
    not_passed_yet d so_far lt =
        let there = element xs n lt in
        let before = so_far.each n there.0 there.1 in
        (subst (λ o. Passed seen d o there.0 (progress_at was n) before.0 (progress_at now n)) (none_yet routes n) before.2).1

    module _ (y z : X) (q : Progress) (in_routes : n < length routes) (inside : n < length ys) (counted : n < length now)
        (read : y ≡ get_or ys n y) where
      stands : slice_get ys n ≡ Some y
      stands = slice_get_read ys (length ys) n y refl inside read

      pub aim_next : (place : List ℕ) → IfSome (slice_get routes n) (λ r. place ≡ r.place)
          → AimedEach seen (take n routes) xs was ys now → AimedBy seen place y z q
          → AimedEach seen (take (n + 1) routes) xs was (set ys n z) (set now n q)
      aim_next place goes so_far aimed =
          let there = element routes n in_routes in
          let to_place : place ≡ there.0.place = subst (λ o. IfSome o (λ r. place ≡ r.place)) there.1 goes in
          further (Aimed seen) routes xs was ys now n z q inside counted so_far
          (λ x v at stood before.
          let same : y ≡ x = same_Some _ _ (sym stands ∙ stood) ∙ before.0 in
          subst (λ o. Aimed seen o x (progress_at was n) z q) (sym there.1)
          (subst (λ l. AimedBy seen l x z q) to_place (subst (λ u. AimedBy seen place u z q) same aimed)))

      pub pass_next : (d : AgentDatagram) (p : Progress) (taken goes : Bool) → p ≡ progress_at now n
          → IfSome (slice_get routes n) (λ r. taken ≡ takes r d.agent) → goes ≡ (not p.stopped && taken)
          → PassedEach seen d (take n routes) xs was ys now → Goes seen goes d.bytes y p z q
          → PassedEach seen d (take (n + 1) routes) xs was (set ys n z) (set now n q)
      pass_next d p taken goes is takes_it whether so_far passed =
          let there = element routes n in_routes in
          let by : taken ≡ takes there.0 d.agent = subst (λ o. IfSome o (λ r. taken ≡ takes r d.agent)) there.1 takes_it in
          let just : goes ≡ (not p.stopped && takes there.0 d.agent) = whether ∙ ap (λ t. not p.stopped && t) by in
          further (Passed seen d) routes xs was ys now n z q inside counted so_far
          (λ x v at stood before.
          let same : y ≡ x = same_Some _ _ (sym stands ∙ stood) ∙ before.0 in
          let kept : p ≡ progress_at was n = is ∙ before.1 in
          subst (λ o. Passed seen d o x (progress_at was n) z q) (sym there.1)
          (subst (λ u. Goes seen (not u.stopped && takes there.0 d.agent) d.bytes x u z q) kept
          (subst (λ u. Goes seen (not p.stopped && takes there.0 d.agent) d.bytes u p z q) same
          (subst (λ b. Goes seen b d.bytes y p z q) just passed))))

  pub all_aimed : (n : ℕ) (ys : List X) (now : List Progress) → length routes ≤ n
      → AimedEach seen (take n routes) xs was ys now → AimedEach seen routes xs was ys now
  all_aimed n ys now all done = subst (λ l. AimedEach seen l xs was ys now) (take_all n routes all) done

  pub all_passed : (d : AgentDatagram) (n : ℕ) (ys : List X) (now : List Progress) → length routes ≤ n
      → PassedEach seen d (take n routes) xs was ys now → PassedEach seen d routes xs was ys now
  all_passed d n ys now all done = subst (λ l. PassedEach seen d l xs was ys now) (take_all n routes all) done
