-- Briefs after briefs.
use Rattle.std.proofs.Common.{◌≡◌, ℕ, ◌+◌, ◌<◌, Bool, true, false, not, cond, List, [], ◌∷◌, ◌++◌, length, take, drop, get_or, refl, sym, ap, subst, ◌∙◌, arith}
use Rattle.std.proofs.lemmas.List.{take_more, take-append-drop}
use Rattle.std.specs.List.{AllZip, filter}
use Rattle.sample_taps.specs.Feeding.{Fed, Held}

differ : true ≡ false → ⊥
differ e = cc

append_none : {A : Type 0} (xs : List A) → xs ++ [] ≡ xs
append_none [] = refl
append_none (x ∷ xs) = ap (λ l. x ∷ l) (append_none xs)

module _ {X B : Type 0} (step : X → B → X → Type 0) (done : X → Bool) where
  -- one that is done stays
  done_stays : (bs : List B) (x y : X) → done x ≡ true → Fed step done bs x y → y ≡ x
  done_stays [] x y is fed = fed
  done_stays (b ∷ bs) x y is fed = fed.0 is

  fed_more : (bs cs : List B) (x y z : X) → Fed step done bs x y → Fed step done cs y z → Fed step done (bs ++ cs) x z
  fed_more [] cs x y z first more = subst (λ v. Fed step done cs v z) first more
  fed_more (b ∷ bs) cs x y z first more = (
    λ is. done_stays cs y z (ap done (first.0 is) ∙ is) more ∙ first.0 is,
    λ still. let step_one = first.1 still in (step_one.0, step_one.1, fed_more bs cs step_one.0 y z step_one.2 more),
  )

  stays : (bs : List B) (x : X) → done x ≡ true → Fed step done bs x x
  stays [] x is = refl
  stays (b ∷ bs) x is = (λ _. refl, λ still. absurd (differ (sym is ∙ still)))

  -- one that isn't done takes the next brief of a list
  pub fed_next : (bs : List B) (n : ℕ) (d : B) (x y z : X) → n < length bs → Fed step done (take n bs) x y → done y ≡ false
      → step y (get_or bs n d) z → Fed step done (take (n + 1) bs) x z
  fed_next bs n d x y z lt first still took =
      rw (take_more bs n d lt) (fed_more (take n bs) (get_or bs n d ∷ []) x y z first
      (λ is. absurd (differ (sym is ∙ still)), λ _. (z, took, refl)))

  -- one that is done after some briefs of a list stays so for the others
  pub fed_early : (bs : List B) (n : ℕ) (x y : X) → Fed step done (take n bs) x y → done y ≡ true → Fed step done bs x y
  fed_early bs n x y first is =
      subst (λ l. Fed step done l x y) (take-append-drop n bs) (fed_more (take n bs) (drop n bs) x y y first (stays (drop n bs) y is))

  -- what those that were held become, with those that had gone
  pub record Joined (bs : List B) (xs outs : List X) : Type 0 where
    pub afters : List X
    pub fed : AllZip (Fed step done bs) xs afters
    pub same : filter (λ y. not (done y)) afters ≡ filter (λ y. not (done y)) outs

  -- one more of those handed in, which the first briefs leave done or not
  joined_more : (bs cs : List B) (x m : X) (xs mids outs : List X) (d : Bool) → Fed step done bs x m → done m ≡ d
      → ((outs : List X) → AllZip (Fed step done cs) (filter (λ y. not (done y)) mids) outs → Joined (bs ++ cs) xs outs)
      → AllZip (Fed step done cs) (cond (not d) (m ∷ filter (λ y. not (done y)) mids) (filter (λ y. not (done y)) mids)) outs
      → Joined (bs ++ cs) (x ∷ xs) outs
  joined_more bs cs x m xs mids outs true fed is others more =
      let rest = others outs more in
      record {
        afters = m ∷ rest.afters;
        fed = (fed_more bs cs x m m fed (stays cs m is), rest.fed);
        same = ap (λ v. cond (not v) (m ∷ filter (λ y. not (done y)) rest.afters) (filter (λ y. not (done y)) rest.afters)) is ∙ rest.same;
      }
  joined_more bs cs x m xs mids [] false fed is others more = absurd more
  joined_more bs cs x m xs mids (o ∷ outs) false fed is others more =
      let rest = others outs more.1 in
      record {
        afters = o ∷ rest.afters;
        fed = (fed_more bs cs x m o fed more.0, rest.fed);
        same = ap (λ l. cond (not (done o)) (o ∷ l) l) rest.same;
      }

  join : (bs cs : List B) (xs mids outs : List X) → AllZip (Fed step done bs) xs mids
      → AllZip (Fed step done cs) (filter (λ y. not (done y)) mids) outs → Joined (bs ++ cs) xs outs
  join bs cs [] [] [] first more = record { afters = []; fed = tt; same = refl }
  join bs cs [] [] (o ∷ outs) first more = absurd more
  join bs cs [] (m ∷ mids) outs first more = absurd first
  join bs cs (x ∷ xs) [] outs first more = absurd first
  join bs cs (x ∷ xs) (m ∷ mids) outs first more =
      joined_more bs cs x m xs mids outs (done m) first.0 refl (λ others. join bs cs xs mids others first.1) more

  pub held_more : (bs cs : List B) (xs ys zs : List X) → Held step done bs xs ys → Held step done cs ys zs → Held step done (bs ++ cs) xs zs
  held_more [] cs xs ys zs first more = subst (λ v. Held step done cs v zs) first more
  held_more (b ∷ bs) [] xs ys zs first more = rw (append_none bs) (rw more first)
  held_more (b ∷ bs) (c ∷ cs) xs ys zs first more =
      let joined = join (b ∷ bs) (c ∷ cs) xs first.0 more.0 first.1 (subst (λ v. AllZip (Fed step done (c ∷ cs)) v more.0) first.2 more.1) in
      (joined.afters, joined.fed, more.2 ∙ sym joined.same)

  -- those that are held after some briefs
  pub held_all : (bs : List B) (xs afters ys : List X) → 0 < length bs → AllZip (Fed step done bs) xs afters
      → ys ≡ filter (λ y. not (done y)) afters → Held step done bs xs ys
  held_all [] xs afters ys some fed same = absurd (omega (arith, some))
  held_all (b ∷ bs) xs afters ys some fed same = (afters, fed, same)

-- what briefs make of a value, they make of that which holds the value
module _ {X V B : Type 0} (step : V → B → V → Type 0) (done : V → Bool) (held_step : X → B → X → Type 0) (held_done : X → Bool)
    (hold : V → X) (same : (v : V) → held_done (hold v) ≡ done v) (takes : (v : V) (b : B) (w : V) → step v b w → held_step (hold v) b (hold w)) where
  pub fed_within : (bs : List B) (v w : V) → Fed step done bs v w → Fed held_step held_done bs (hold v) (hold w)
  fed_within [] v w fed = ap hold fed
  fed_within (b ∷ bs) v w fed = (
    λ is. ap hold (fed.0 (sym (same v) ∙ is)),
    λ still. let one = fed.1 (sym (same v) ∙ still) in (hold one.0, takes v b one.0 one.1, fed_within bs one.0 w one.2),
  )
