-- What is pending after each move of the bits.
use Rattle.std.proofs.Common.{◌≡◌, ℕ, zero, suc, ◌+◌, ◌-◌, ◌<◌, ◌≤◌, inl, inr, Bool, true, false, cond, ◌&&◌, ◌||◌, not, refl, sym, ◌∙◌, ap, arith}
use Rattle.std.specs.Prelude.{◌==◌, nat_le, min}
use Rattle.std.proofs.lemmas.Bool.{cases_eq, eq-eqb, ne_eqb, le-leb, lt-leb, false≢true}
use Rattle.late_window.specs.Distances.{count_below}
use Rattle.late_window.specs.Settled.{IsSettled}
use Rattle.late_window.proofs.Tallies.{count-zero, count-same, count-all, count-split, count-first, count-one}

-- the bits moved on by this step, and the newest is counted
abbrev pub Moved : (ℕ → Bool) → (ℕ → Bool) → ℕ → ℕ → Type 0
Moved old new width step = (k : ℕ) → k < width → new k ≡ (k == 0 || (nat_le step k && old (k - step)))

pub moved-newest : (old new : ℕ → Bool) (width step : ℕ) → Moved old new width step → 1 ≤ width → new 0 ≡ true
moved-newest old new width step m one = m 0 (omega arith)

pub moved-passed : (old new : ℕ → Bool) (width step k : ℕ) → Moved old new width step → suc k < step → suc k < width
    → new (suc k) ≡ false
moved-passed old new width step k m passed within =
    m (suc k) within ∙ (rw (ne_eqb (suc k) 0 (not_zero k), lt-leb step (suc k) passed) refl)
  where
    not_zero : (k : ℕ) → suc k ≡ 0 → ⊥
    not_zero k e = omega arith

pub moved-kept : (old new : ℕ → Bool) (width step k : ℕ) → Moved old new width step → 0 < step → step + k < width
    → new (step + k) ≡ old k
moved-kept old new width step k m ahead within =
    let back : step + k - step ≡ k = omega arith in
    m (step + k) within
    ∙ (rw (ne_eqb (step + k) 0 (λ e. not_zero step k ahead e), le-leb step (step + k) (omega arith), back) refl)
  where
    not_zero : (step k : ℕ) → 0 < step → step + k ≡ 0 → ⊥
    not_zero step k ahead e = omega arith

-- of so many numbers from a newest one that is counted, the others being missing, all but one are missing
all-but_newest : (new : ℕ → Bool) (n : ℕ) → 0 < n → new 0 ≡ true → ((k : ℕ) → suc k < n → new (suc k) ≡ false)
    → count_below (λ k. not (new k)) n + 1 ≡ n
all-but_newest new zero some newest out = absurd (omega arith)
all-but_newest new (suc n) some newest out =
    let rest = count-all (λ k. not (new (suc k))) n (λ k b. ap not (out k (omega arith))) in
    rw (count-first (λ k. not (new k)) n, newest, rest) (omega arith)

-- where the width is passed, all below the newest is missing
pub pending-far : (old new : ℕ → Bool) (width span step : ℕ) → Moved old new width step → 1 ≤ width → width ≤ step
    → width - 1 ≡ count_below (λ k. not (new k)) (min (span + step) width)
pending-far old new width span step m one far =
    let whole : min (span + step) width ≡ width = omega arith in
    let all = all-but_newest new width (omega arith) (moved-newest old new width step m one)
    (λ k b. moved-passed old new width step k m (omega arith) b) in
    rw whole (omega (arith, all))

-- else what is passed is missing, and what falls out of the width is no longer pending
pub pending-near : (old new : ℕ → Bool) (width span step reach kept : ℕ) → Moved old new width step → 0 < step
    → step < width → reach ≡ min span width → kept ≡ min reach (width - step)
    → count_below (λ k. not (new k)) (min (span + step) width)
    + count_below (λ k. not (old (kept + k))) (reach - kept)
    ≡ (step - 1) + count_below (λ k. not (old k)) reach
pending-near old new width span step reach kept m ahead near r e =
    let whole : min (span + step) width ≡ step + kept = omega arith in
    let passed = all-but_newest new step ahead (moved-newest old new width step m (omega arith))
    (λ k b. moved-passed old new width step k m b (omega arith)) in
    let same = count-same (λ k. not (new (step + k))) (λ k. not (old k)) kept
    (λ k b. ap not (moved-kept old new width step k m ahead (omega arith))) in
    let now = count-split (λ k. not (new k)) step kept in
    let before = count-split (λ k. not (old k)) kept (reach - kept) in
    let parts : reach ≡ kept + (reach - kept) = omega arith in
    let split : count_below (λ k. not (old k)) reach
    ≡ count_below (λ k. not (old k)) kept + count_below (λ k. not (old (kept + k))) (reach - kept) =
    ap (count_below (λ k. not (old k))) parts ∙ before in
    rw whole (omega (arith, now, passed, same, split))

-- the bits where the width is passed
pub moved-far : (old mid new : ℕ → Bool) (slots width step : ℕ) → width ≤ step → width ≤ slots
    → ((k : ℕ) → k < slots → mid k ≡ (nat_le width k && old (k - width)))
    → ((k : ℕ) → k < slots → new k ≡ (k == 0 || mid k)) → Moved old new width step
moved-far old mid new slots width step far room moved set k within =
    set k (omega arith)
    ∙ (rw (moved k (omega arith), lt-leb width k within, lt-leb step k (omega arith)) refl)

-- and where it isn't
pub moved-near : (old mid new : ℕ → Bool) (slots width step : ℕ) → width ≤ slots
    → ((k : ℕ) → k < slots → mid k ≡ (nat_le step k && old (k - step)))
    → ((k : ℕ) → k < slots → new k ≡ (k == 0 || mid k)) → Moved old new width step
moved-near old mid new slots width step room moved set k within =
    set k (omega arith) ∙ (rw (moved k (omega arith)) refl)

pub settled-moved : (old new : ℕ → Bool) (width span step pending now : ℕ) → IsSettled old width span pending
    → Moved old new width step → 0 < step → 1 ≤ width
    → now ≡ count_below (λ k. not (new k)) (min (span + step) width)
    → IsSettled new width (span + step) now
settled-moved old new width span step pending now s m ahead one e = record {
  newest = moved-newest old new width step m one;
  least = λ within.
      let order : step + span ≡ span + step = omega arith in
      ap new (sym order) ∙ moved-kept old new width step span m ahead (omega arith) ∙ s.least (omega arith);
  beyond = λ k past within.
      let order : step + (k - step) ≡ k = omega arith in
      ap new (sym order) ∙ moved-kept old new width step (k - step) m ahead (omega arith)
      ∙ s.beyond (k - step) (omega arith) (omega arith);
  missing = e;
}

-- ---- one more number, at some distance below the newest

abbrev pub Added : (ℕ → Bool) → (ℕ → Bool) → ℕ → ℕ → Type 0
Added old new width back = (k : ℕ) → k < width → new k ≡ (k == back || old k)

pub added-there : (old new : ℕ → Bool) (width back : ℕ) → Added old new width back → back < width → new back ≡ true
added-there old new width back a within = a back within ∙ (rw (eq-eqb back back refl) refl)

pub added-other : (old new : ℕ → Bool) (width back k : ℕ) → Added old new width back → k < width → (k ≡ back → ⊥)
    → new k ≡ old k
added-other old new width back k a within apart = a k within ∙ (rw (ne_eqb k back apart) refl)

or-true : (a : Bool) → (a || true) ≡ true
or-true true = refl
or-true false = refl

-- what was counted stays so
pub added-kept : (old new : ℕ → Bool) (width back k : ℕ) → Added old new width back → k < width → old k ≡ true
    → new k ≡ true
added-kept old new width back k a within e = a k within ∙ (rw e (or-true (k == back)))

-- the first number of all
pub settled-first : (new : ℕ → Bool) (width : ℕ) → ((k : ℕ) → k < width → new k ≡ (k == 0)) → 1 ≤ width
    → IsSettled new width 0 0
settled-first new width first one = record {
  newest = first 0 (omega arith);
  least = λ within. first 0 (omega arith);
  beyond = λ k past within. first k within ∙ ne_eqb k 0 (λ e. not_zero k past e);
  missing = sym (ap (count_below (λ k. not (new k))) (none width) ∙ count-zero (λ k. not (new k)));
}
  where
    not_zero : (k : ℕ) → 0 < k → k ≡ 0 → ⊥
    not_zero k past e = omega arith

    none : (w : ℕ) → min 0 w ≡ 0
    none w = omega arith

-- a number that wasn't counted lies neither at the newest nor at the least one
inner : (old : ℕ → Bool) (width span pending back : ℕ) → IsSettled old width span pending → back < width
    → back ≤ span → old back ≡ false → back < min span width
inner old width span pending back s within low out =
    elim (cases_eq span back) [
      | inl e ↦ absurd (false≢true (sym out ∙ ap old (sym e) ∙ s.least (omega arith)))
      | inr apart ↦ strict apart
    ]
  where
    strict : (span ≡ back → ⊥) → back < min span width
    strict apart = omega arith

-- one that was pending comes
pub pending-filled : (old new : ℕ → Bool) (width span pending back : ℕ) → IsSettled old width span pending
    → Added old new width back → back < width → back ≤ span → old back ≡ false
    → pending ≡ count_below (λ k. not (new k)) (min span width) + 1
pending-filled old new width span pending back s a within low out =
    s.missing ∙ count-one (λ k. not (new k)) (λ k. not (old k)) back (min span width)
    (inner old width span pending back s within low out)
    (ap not (added-there old new width back a within)) (ap not out)
    (λ k b apart. ap not (added-other old new width back k a (omega arith) apart))

pub settled-filled : (old new : ℕ → Bool) (width span pending back now : ℕ) → IsSettled old width span pending
    → Added old new width back → back < width → back ≤ span → old back ≡ false → now ≡ pending - 1
    → IsSettled new width span now
settled-filled old new width span pending back now s a within low out e = record {
  newest = added-kept old new width back 0 a (omega arith) s.newest;
  least = λ b. added-kept old new width back span a b (s.least b);
  beyond = λ k past b. added-other old new width back k a b (λ q. above k past q) ∙ s.beyond k past b;
  missing =
      let one = pending-filled old new width span pending back s a within low out in
      omega (arith, one);
}
  where
    above : (k : ℕ) → span < k → k ≡ back → ⊥
    above k past q = omega arith

-- one comes from below the least: those between are missing now
pub pending-extended : (old new : ℕ → Bool) (width span pending back : ℕ) → IsSettled old width span pending
    → Added old new width back → back < width → span < back
    → pending + (back - span - 1) ≡ count_below (λ k. not (new k)) (min back width)
pending-extended old new width span pending back s a within low =
    let whole : min back width ≡ span + suc (back - span - 1) = omega arith in
    let old_whole : min span width ≡ span = omega arith in
    let before : count_below (λ k. not (new k)) span ≡ count_below (λ k. not (old k)) span =
    count-same (λ k. not (new k)) (λ k. not (old k)) span
    (λ k b. ap not (added-other old new width back k a (omega arith) (λ e. under k b e))) in
    let split = count-split (λ k. not (new k)) span (suc (back - span - 1)) in
    let first = count-first (λ k. not (new (span + k))) (back - span - 1) in
    let at : span + 0 ≡ span = omega arith in
    let there : new (span + 0) ≡ true =
    ap new at ∙ added-kept old new width back span a (omega arith) (s.least (omega arith)) in
    let rest = count-all (λ k. not (new (span + suc k))) (back - span - 1)
    (λ k b. ap not (added-other old new width back (span + suc k) a (omega arith) (λ e. short k b e)
    ∙ s.beyond (span + suc k) (omega arith) (omega arith))) in
    let head : cond {A = ℕ} (not (new (span + 0))) 1 0 ≡ 0 = rw there refl in
    let was : pending ≡ count_below (λ k. not (old k)) span = s.missing ∙ ap (count_below (λ k. not (old k))) old_whole in
    rw whole (omega (arith, split, first, rest, head, before, was))
  where
    under : (k : ℕ) → k < span → k ≡ back → ⊥
    under k b e = omega arith

    short : (k : ℕ) → k < back - span - 1 → span + suc k ≡ back → ⊥
    short k b e = omega arith

pub settled-extended : (old new : ℕ → Bool) (width span pending back now : ℕ) → IsSettled old width span pending
    → Added old new width back → back < width → span < back → now ≡ pending + (back - span - 1)
    → IsSettled new width back now
settled-extended old new width span pending back now s a within low e = record {
  newest = added-kept old new width back 0 a (omega arith) s.newest;
  least = λ b. added-there old new width back a within;
  beyond = λ k past b. added-other old new width back k a b (λ q. above k past q) ∙ s.beyond k (omega arith) b;
  missing = e ∙ pending-extended old new width span pending back s a within low;
}
  where
    above : (k : ℕ) → back < k → k ≡ back → ⊥
    above k past q = omega arith
