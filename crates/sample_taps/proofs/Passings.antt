-- Briefs that pass after others.
use Rattle.std.proofs.Common.{◌≡◌, ℕ, ◌+◌, ◌<◌, Bool, List, [], ◌∷◌, ◌++◌, length, map, take, get_or, refl, sym, ap, subst, ◌∙◌}
use Rattle.std.proofs.lemmas.List.{append_assoc, append-nil, map-append, take_more}
use Rattle.header_lanes.specs.declared.header.HeaderFacts.{HeaderFacts}
use Rattle.sample_taps.specs.declared.brief.Brief.{Brief}
use Rattle.sample_taps.specs.declared.class_totals.ClassTotals.{ClassTotals}
use Rattle.sample_taps.specs.Briefs.{facts_in}
use Rattle.sample_taps.specs.Classes.{with_header, with_headers}
use Rattle.sample_taps.specs.Feeding.{Held}
use Rattle.sample_taps.specs.Passing.{BriefingState, Passes}
use Rattle.sample_taps.proofs.Feedings.{held_more}

pub headers_more : (t : ClassTotals) (xs ys : List HeaderFacts) → with_headers t (xs ++ ys) ≡ with_headers (with_headers t xs) ys
headers_more t [] ys = refl
headers_more t (x ∷ xs) ys = headers_more (with_header t x) xs ys

briefs_more : (t : ClassTotals) (xs ys : List Brief)
    → with_headers t (map facts_in (xs ++ ys)) ≡ with_headers (with_headers t (map facts_in xs)) (map facts_in ys)
briefs_more t xs ys = ap (with_headers t) (map-append facts_in xs ys) ∙ headers_more t (map facts_in xs) (map facts_in ys)

-- one more brief of a list
briefs_next : (t : ClassTotals) (bs : List Brief) (n : ℕ) (d : Brief) → n < length bs
    → with_header (with_headers t (map facts_in (take n bs))) (facts_in (get_or bs n d)) ≡ with_headers t (map facts_in (take (n + 1) bs))
briefs_next t bs n d lt =
    sym (ap (λ l. with_headers t (map facts_in l)) (take_more bs n d lt) ∙ briefs_more t (take n bs) (get_or bs n d ∷ []))

pub next_counted : (t now new : ClassTotals) (bs : List Brief) (n : ℕ) (d : Brief) → n < length bs
    → now ≡ with_headers t (map facts_in (take n bs)) → new ≡ with_header now (facts_in (get_or bs n d))
    → new ≡ with_headers t (map facts_in (take (n + 1) bs))
next_counted t now new bs n d lt so_far one =
    one ∙ ap (λ v. with_header v (facts_in (get_or bs n d))) so_far ∙ briefs_next t bs n d lt

module _ {X : Type 0} (step : X → Brief → X → Type 0) (done : X → Bool) where
  pub passes_none : (s : BriefingState) (xs : List X) → Passes step done s xs [] s xs
  passes_none s xs = record {
    gone = [];
    in_order = sym (append-nil s.pending);
    held = refl;
    totals = refl;
  }

  pub passes_more : (was mid now : BriefingState) (xs ys zs : List X) (bs cs : List Brief)
      → Passes step done was xs bs mid ys → Passes step done mid ys cs now zs → Passes step done was xs (bs ++ cs) now zs
  passes_more was mid now xs ys zs bs cs first more = record {
    gone = first.gone ++ more.gone;
    in_order = append_assoc first.gone more.gone now.pending
        ∙ ap (λ l. first.gone ++ l) more.in_order
        ∙ sym (append_assoc first.gone mid.pending cs)
        ∙ ap (λ l. l ++ cs) first.in_order
        ∙ append_assoc was.pending bs cs;
    held = held_more step done first.gone more.gone xs ys zs first.held more.held;
    totals = more.totals ∙ ap (λ t. with_headers t (map facts_in more.gone)) first.totals
        ∙ sym (briefs_more was.totals first.gone more.gone);
  }

  -- where none is pending before and behind, all were fed and counted
  pub record All (was : BriefingState) (xs : List X) (bs : List Brief) (now : BriefingState) (ys : List X) : Type 0 where
    pub held : Held step done bs xs ys
    pub totals : now.totals ≡ with_headers was.totals (map facts_in bs)

  pub passes_all : (was now : BriefingState) (xs ys : List X) (bs : List Brief) → was.pending ≡ [] → now.pending ≡ []
      → Passes step done was xs bs now ys → All was xs bs now ys
  passes_all was now xs ys bs none_before none_behind passes =
      let all : passes.gone ≡ bs =
      sym (append-nil passes.gone) ∙ ap (λ l. passes.gone ++ l) (sym none_behind) ∙ passes.in_order ∙ ap (λ l. l ++ bs) none_before in
      record {
        held = subst (λ l. Held step done l xs ys) all passes.held;
        totals = passes.totals ∙ ap (λ l. with_headers was.totals (map facts_in l)) all;
      }
