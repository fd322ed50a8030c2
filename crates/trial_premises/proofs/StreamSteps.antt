-- One delivery more of a sub-agent, with its samples.
use Rattle.std.proofs.Common.{◌≡◌, ◌∙◌, ◌≤◌, ◌<◌, ℕ, inl, inr, Bool, true, false, cond, not, ◌&&◌, ◌||◌, Option, Some, None, List, [], ◌∷◌, map, max, ℤ, pos, refl, sym, ap, subst, arith}
use Rattle.std.specs.Prelude.{◌==◌, nat_lt, int_lt, option_map}
use Rattle.std.specs.List.{AllByRecursion}
use Rattle.std.proofs.lemmas.Option.{same_Some}
use Rattle.std.proofs.lemmas.Bool.{cases_lt, lt-ltb, le-ltb, ltb-true, eqb-true, false≢true}
use Rattle.count_spec.specs.Windows.{has}
use Rattle.count_spec.specs.Stretches.{placed}
use Rattle.count_spec.specs.TrueStretches.{newest_index, is_past, true_stretches, true_place}
use Rattle.count_spec.specs.declared.stretch_place.StretchPlace.{StretchPlace}
use Rattle.count_spec.specs.declared.stretch_place.StretchPlace.TheVariants.{Current, Next, Stale}
use Rattle.count_spec.proofs.TrueStretches.{true_stretches-step}
use Rattle.books_spec.specs.declared.limits.Limits.{Limits}
use Rattle.books_spec.specs.Items.{SourceId}
use Rattle.books_spec.specs.Books.{onto}
use Rattle.account_spec.specs.Deliveries.{Delivery, boot_of, number_of, numbers_of}
use Rattle.account_spec.specs.TrueNumbers.{is_late, in_time}
use Rattle.account_spec.specs.Arrivals.{Arrived, arrived_from, arrived, arrived_of, is_first_in_time, source_boots}
use Rattle.trial_spec.specs.VisibleTests.{NewestBoot, begun_by, followed_by, newest_boot}
use Rattle.trial_premises.specs.declared.delivered.TrueDatagram.{TrueDatagram}
use Rattle.trial_premises.specs.Delivered.{IsOf, newest_shown}
use Rattle.trial_premises.specs.Boots.{newest_of_boots, newest_among}
use Rattle.trial_premises.specs.Boots as boots
use Rattle.trial_premises.specs.Window.{WindowState}
use Rattle.trial_premises.specs.Window as window
use Rattle.trial_premises.specs.Samples.{SourceState}
use Rattle.trial_premises.specs.Sources.{current_of}
use Rattle.trial_premises.specs.Sources as sources
use Rattle.trial_premises.specs.Streams.{StreamState, StandsFor, SourcesStand, samples_of}
use Rattle.trial_premises.proofs.Pairs.{each-like}

-- ---- the newest boot

follow-boot : (n : NewestBoot) (d : Delivery) → (followed_by n d).boot ≡ max (boot_of d) n.boot
follow-boot n d = go (nat_lt n.boot (boot_of d)) (boot_of d == n.boot) (int_lt n.number (number_of d)) refl refl
  where
    go : (a b k : Bool) → nat_lt n.boot (boot_of d) ≡ a → (boot_of d == n.boot) ≡ b
        → (cond (a || (b && k)) (begun_by d) n).boot ≡ max (boot_of d) n.boot
    go true b k e f = let less : n.boot < boot_of d = ltb-true n.boot (boot_of d) e in omega arith
    go false true true e f = let same : boot_of d ≡ n.boot = eqb-true (boot_of d) n.boot f in omega arith
    go false true false e f = let same : boot_of d ≡ n.boot = eqb-true (boot_of d) n.boot f in omega arith
    go false false k e f = elim (cases_lt n.boot (boot_of d)) [
      | inl less ↦ absurd (false≢true (sym e ∙ lt-ltb n.boot (boot_of d) less))
      | inr not_less ↦ omega arith
    ]

newest-boot : (d : Delivery) (before : List Delivery) → (newest_boot d before).boot ≡ newest_index boot_of (d ∷ before)
newest-boot d [] = omega arith
newest-boot d (e ∷ before) =
    follow-boot (newest_boot e before) d ∙ ap (λ (n : ℕ). max (boot_of d) n) (newest-boot e before)

pub newest-is : (o : Option TrueDatagram) (ds : List Delivery) → option_map newest_shown o ≡ newest_among ds
    → newest_of_boots o ≡ newest_index boot_of ds
newest-is None [] e = refl
newest-is None (d ∷ before) e = absurd cc
newest-is (Some t) [] e = absurd cc
newest-is (Some t) (d ∷ before) e =
    let same : newest_shown t ≡ newest_boot d before = same_Some (newest_shown t) (newest_boot d before) e in
    ap (λ (n : NewestBoot). n.boot) same ∙ newest-boot d before

-- ---- stretches of deliveries

abbrev AreNumbered : List Delivery → Type 0
AreNumbered ds = AllByRecursion (λ (d : Delivery). 1 ≤ boot_of d) ds

-- there is a current boot
record HasCurrent (ds : List Delivery) : Type 0 where
  current : List Delivery
  closed : List (List Delivery)
  are : true_stretches boot_of ds ≡ current ∷ closed

place-is : (ds : List Delivery) (d : Delivery) (p q : Bool) → is_past boot_of ds d ≡ p
    → nat_lt (newest_index boot_of ds) (boot_of d) ≡ q → true_place boot_of ds d ≡ cond p Stale (cond q Next Current)
place-is ds d p q e f = λ j. cond (e j) Stale (cond (f j) Next Current)

step-by : (ds : List Delivery) (d : Delivery) (p q : Bool) → AreNumbered (d ∷ ds) → is_past boot_of ds d ≡ p
    → nat_lt (newest_index boot_of ds) (boot_of d) ≡ q
    → true_stretches boot_of (d ∷ ds) ≡ placed (cond p Stale (cond q Next Current)) d (true_stretches boot_of ds)
step-by ds d p q numbered e f = true_stretches-step boot_of d ds numbered
    ∙ ap (λ (x : StretchPlace). placed x d (true_stretches boot_of ds)) (place-is ds d p q e f)

has-current : (d : Delivery) (ds : List Delivery) → AreNumbered (d ∷ ds) → HasCurrent (d ∷ ds)
has-current d [] numbered = record {
  current = d ∷ [];
  closed = [];
  are = step-by [] d false true numbered (le-ltb (boot_of d) 0 (omega arith)) (lt-ltb 0 (boot_of d) numbered.0);
}
has-current d (f ∷ more) numbered =
    go (is_past boot_of (f ∷ more) d) (nat_lt (newest_index boot_of (f ∷ more)) (boot_of d)) refl refl
    (has-current f more numbered.1)
  where
    current : (ss : List (List Delivery)) → true_stretches boot_of (d ∷ f ∷ more) ≡ placed Current d ss
        → HasCurrent (d ∷ f ∷ more)
    current [] e = record { current = d ∷ []; closed = []; are = e }
    current (c ∷ closed) e = record { current = d ∷ c; closed = closed; are = e }

    go : (p q : Bool) → is_past boot_of (f ∷ more) d ≡ p → nat_lt (newest_index boot_of (f ∷ more)) (boot_of d) ≡ q
        → HasCurrent (f ∷ more) → HasCurrent (d ∷ f ∷ more)
    go true q e g c =
        record { current = c.current; closed = c.closed; are = step-by (f ∷ more) d true q numbered e g ∙ c.are }
    go false true e g c = record {
      current = d ∷ [];
      closed = true_stretches boot_of (f ∷ more);
      are = step-by (f ∷ more) d false true numbered e g;
    }
    go false false e g c = current (true_stretches boot_of (f ∷ more)) (step-by (f ∷ more) d false false numbered e g)

-- ---- what stands for these boots

-- of these stretches, the current boot of this number first
abbrev SourcesOver : Limits → List SourceId → ℕ → List SourceState → List (List Delivery) → Type 0
SourcesOver l ids boot states stretches = SourcesStand l.sample_width boot
    (λ (id : SourceId). map (arrived_of l.datagram_width id) stretches) ids states

-- a stream stands where its window and its sources do for its stretches
stands-over : (l : Limits) (ids : List SourceId) (now : StreamState) (ds : List Delivery) (boot : ℕ)
    (stretches : List (List Delivery)) → boots.StandsFor l.boot_slack now.boots ds → AreNumbered ds
    → now.window.width ≡ l.datagram_width → newest_index boot_of ds ≡ boot → true_stretches boot_of ds ≡ stretches
    → window.StandsFor now.window (numbers_of (current_of stretches)) → SourcesOver l ids boot now.sources stretches
    → StandsFor l ids now ds
stands-over l ids now ds boot stretches stand numbered width top are counted sources_stand = record {
  boots_stand = stand;
  numbered = numbered;
  width_is = width;
  window_stands = subst (λ (ss : List (List Delivery)). window.StandsFor now.window (numbers_of (current_of ss))) (sym are) counted;
  sources_stand = subst (λ (ss : List (List Delivery)). SourcesOver l ids (newest_index boot_of ds) now.sources ss) (sym are)
      (subst (λ (b : ℕ). SourcesOver l ids b now.sources stretches) (sym top) sources_stand);
}

-- ---- a delivery of an earlier boot

pub stream-past : (l : Limits) (ids : List SourceId) (s now : StreamState) (t : TrueDatagram) (d : Delivery)
    (before : List Delivery) → IsOf t d → boot_of d < newest_index boot_of before
    → boots.StandsFor l.boot_slack now.boots (d ∷ before) → now.window ≡ s.window → now.sources ≡ s.sources
    → StandsFor l ids s before → StandsFor l ids now (d ∷ before)
stream-past l ids s now t d before h less stand same_window same_sources st =
    stands-over l ids now (d ∷ before) (newest_index boot_of before) (true_stretches boot_of before) stand numbered
    (ap (λ (w : WindowState). w.width) same_window ∙ st.width_is) (omega arith)
    (step-by before d true false numbered (lt-ltb (boot_of d) (newest_index boot_of before) less)
    (le-ltb (newest_index boot_of before) (boot_of d) (omega arith)))
    (subst (λ (w : WindowState). window.StandsFor w (numbers_of (current_of (true_stretches boot_of before))))
    (sym same_window) st.window_stands)
    (subst (λ (xs : List SourceState). SourcesOver l ids (newest_index boot_of before) xs (true_stretches boot_of before))
    (sym same_sources) st.sources_stand)
  where
    numbered : AreNumbered (d ∷ before)
    numbered = (subst (λ (b : ℕ). 1 ≤ b) (sym h.boot) h.counted, st.numbered)

-- ---- a delivery of the newest boot, which may begin with it

-- the deliveries of its boot before it, and what stands for them
pub record Prepared (l : Limits) (ids : List SourceId) (s : StreamState) (d : Delivery) (before : List Delivery)
    (begins : Bool) : Type 0 where
  pub current : List Delivery
  pub closed : List (List Delivery)
  pub are : true_stretches boot_of (d ∷ before) ≡ (d ∷ current) ∷ closed
  pub sources_stand : SourcesStand l.sample_width (boot_of d)
      (λ (id : SourceId). arrived_of l.datagram_width id current ∷ map (arrived_of l.datagram_width id) closed) ids s.sources
  pub empty : begins ≡ true → numbers_of current ≡ []
  pub counted : begins ≡ false → window.StandsFor s.window (numbers_of current)

begins-source : (width from boot : ℕ) (s : SourceState) (bs : List (List Arrived)) → from < boot
    → sources.StandsFor width from s bs → sources.StandsFor width boot s ([] ∷ bs)
begins-source width from boot s bs less st = record {
  close_is = st.close_is;
  apparent_is = st.apparent_is;
  boot_to = omega (arith, st.boot_to);
  shows = λ some same. absurd (omega (arith, st.boot_to));
  none = λ low. refl;
}

pub prepared : (l : Limits) (ids : List SourceId) (s : StreamState) (t : TrueDatagram) (d : Delivery) (before : List Delivery)
    (begins : Bool) → IsOf t d → nat_lt (newest_index boot_of before) (boot_of d) ≡ begins
    → newest_index boot_of before ≤ boot_of d → StandsFor l ids s before → Prepared l ids s d before begins
prepared l ids s t d before true h e not_past st = record {
  current = [];
  closed = true_stretches boot_of before;
  are = step-by before d false true numbered (le-ltb (boot_of d) (newest_index boot_of before) not_past) e;
  sources_stand = each-like
      (λ (id : SourceId) (x : SourceState). sources.StandsFor l.sample_width (newest_index boot_of before) x
      (source_boots l.datagram_width id before))
      (λ (id : SourceId) (x : SourceState). sources.StandsFor l.sample_width (boot_of d) x
      ([] ∷ source_boots l.datagram_width id before)) ids s.sources
      (λ id x old. begins-source l.sample_width (newest_index boot_of before) (boot_of d) x
      (source_boots l.datagram_width id before) (ltb-true (newest_index boot_of before) (boot_of d) e) old) st.sources_stand;
  empty = λ q. refl;
  counted = λ q. absurd (false≢true (sym q));
}
  where
    numbered : AreNumbered (d ∷ before)
    numbered = (subst (λ (b : ℕ). 1 ≤ b) (sym h.boot) h.counted, st.numbered)
prepared l ids s t d [] false h e not_past st =
    let some : 1 ≤ boot_of d = subst (λ (b : ℕ). 1 ≤ b) (sym h.boot) h.counted in
    absurd (false≢true (sym e ∙ lt-ltb 0 (boot_of d) some))
prepared l ids s t d (f ∷ before) false h e not_past st =
    let c : HasCurrent (f ∷ before) = has-current f before st.numbered in
    record {
      current = c.current;
      closed = c.closed;
      are = step-by (f ∷ before) d false false numbered
          (le-ltb (boot_of d) (newest_index boot_of (f ∷ before)) not_past) e
          ∙ ap (λ (ss : List (List Delivery)). placed Current d ss) c.are;
      sources_stand = subst (λ (ss : List (List Delivery)). SourcesOver l ids (boot_of d) s.sources ss) c.are
          (subst (λ (b : ℕ). SourcesOver l ids b s.sources (true_stretches boot_of (f ∷ before))) same st.sources_stand);
      empty = λ q. absurd (false≢true q);
      counted = λ q. subst (λ (ss : List (List Delivery)). window.StandsFor s.window (numbers_of (current_of ss))) c.are
          st.window_stands;
    }
  where
    numbered : AreNumbered (d ∷ f ∷ before)
    numbered = (subst (λ (b : ℕ). 1 ≤ b) (sym h.boot) h.counted, st.numbered)

    same : newest_index boot_of (f ∷ before) ≡ boot_of d
    same = elim (cases_lt (newest_index boot_of (f ∷ before)) (boot_of d)) [
      | inl less ↦ absurd (false≢true (sym e ∙ lt-ltb (newest_index boot_of (f ∷ before)) (boot_of d) less))
      | inr not_less ↦ omega arith
    ]

-- whether it is the first in time of its datagram
abbrev pub answer_to : ℕ → List ℤ → ℕ → Bool
answer_to width numbers n = not (is_late width numbers (pos n)) && not (has (in_time width numbers) (pos n))

-- what it brings
abbrev pub brings : Bool → List Arrived → List Arrived → List Arrived
brings first samples old = onto (cond first samples []) old

module _ (l : Limits) (ids : List SourceId) (s now : StreamState) (t : TrueDatagram) (d : Delivery) (before : List Delivery)
    (begins : Bool) (h : IsOf t d) (p : Prepared l ids s d before begins) (not_past : newest_index boot_of before ≤ boot_of d)
    (stand : boots.StandsFor l.boot_slack now.boots (d ∷ before)) (width : now.window.width ≡ l.datagram_width)
    (counted : window.StandsFor now.window (pos t.number ∷ numbers_of p.current)) (st : StandsFor l ids s before) where
  abbrev given : List Arrived
  given = arrived_from (boot_of d) (number_of d) 0 d.datagram.samples

  pub first-is : (first : Bool) → first ≡ answer_to l.datagram_width (numbers_of p.current) t.number
      → is_first_in_time l.datagram_width p.current d ≡ first
  first-is first e = ap (λ (n : ℕ). answer_to l.datagram_width (numbers_of p.current) n) h.number ∙ sym e

  -- where its sources stand for what it brings
  pub stream-more : (first : Bool) → first ≡ answer_to l.datagram_width (numbers_of p.current) t.number
      → SourcesStand l.sample_width (boot_of d) (λ (id : SourceId).
      samples_of id (brings first given (arrived l.datagram_width p.current))
      ∷ map (arrived_of l.datagram_width id) p.closed) ids now.sources
      → StandsFor l ids now (d ∷ before)
  stream-more first e sources_stand =
      stands-over l ids now (d ∷ before) (boot_of d) ((d ∷ p.current) ∷ p.closed) stand
      (subst (λ (b : ℕ). 1 ≤ b) (sym h.boot) h.counted, st.numbered) width (omega arith) p.are
      (subst (λ (n : ℕ). window.StandsFor now.window (pos n ∷ numbers_of p.current)) (sym h.number) counted)
      (subst (λ (f : Bool). SourcesStand l.sample_width (boot_of d) (λ (id : SourceId).
      samples_of id (brings f given (arrived l.datagram_width p.current))
      ∷ map (arrived_of l.datagram_width id) p.closed) ids now.sources) (sym (first-is first e)) sources_stand)
