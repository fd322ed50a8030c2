-- A window that shows some counted numbers shows, after a further mark, those and the mark's; and its answer is
-- that of the definition.
use Rattle.std.proofs.Common.{◌≡◌, ◌≢◌, ℕ, suc, ◌+◌, ◌-◌, ◌<◌, ◌≤◌, inl, inr, Bool, true, false, ◌&&◌, ◌||◌, List, [], ◌∷◌, length, ℤ, pos, ◌+ℤ◌, ◌-ℤ◌, ◌≤ℤ◌, ◌<ℤ◌, arith, refl, sym, ◌∙◌, ap}
use Rattle.std.specs.Prelude.{◌==◌, nat_le}
use Rattle.std.proofs.lemmas.Int.{ints, clamps}
use Rattle.std.proofs.lemmas.Bool.{cases_eq, cases_lt, cases_Bool, eq-eqb, ne_eqb, le-leb, lt-leb, false≢true}
use Rattle.count_spec.specs.Windows.{near, greatest, least, has, answer, counting}
use Rattle.count_spec.specs.declared.entered.Place.TheVariants.{Only, Newest, Inside, Least}
use Rattle.count_spec.specs.declared.entered.Entered.{Entered}
use Rattle.count_spec.specs.declared.entered.Entered.TheVariants.{First, Repeat, Late}
use Rattle.count_spec.proofs.Integers.{int_eq-same, int_eq-other}
use Rattle.count_spec.proofs.Sets.{has-greatest-bound, has-least-bound, has-greatest}
use Rattle.count_spec.proofs.Answers.{number_answer-cases, place-cases}
use Rattle.late_window.specs.States.{WindowState, is_recent, Shows}
use Rattle.late_window.specs.Steps.{Begins, Advances, Fills, Passes}

-- ---- the answer to a number, by where it is

pub answer-newest : (width mark : ℕ) (n : ℤ) (more : List ℤ) (m : ℤ) → near mark (greatest (n ∷ more)) ≡ m
    → greatest (n ∷ more) <ℤ m → answer width (n ∷ more) mark ≡ First Newest m
answer-newest width mark n more m is above =
    rw is (number_answer-cases (λ a. a ≡ First Newest m) width (n ∷ more) m
    (λ late. absurd (omega (arith, ints)))
    (λ up member. absurd (let b = has-greatest-bound n more m member in omega (arith, ints)))
    (λ up out. ap (λ p. First p m) (place-cases (λ p. p ≡ Newest) (n ∷ more) m
    (λ a. refl) (λ a b. absurd (omega (arith, ints))) (λ a b. absurd (omega (arith, ints))))))

pub answer-late : (width mark : ℕ) (n : ℤ) (more : List ℤ) (m : ℤ) → near mark (greatest (n ∷ more)) ≡ m
    → m ≤ℤ (greatest (n ∷ more) -ℤ pos width) → answer width (n ∷ more) mark ≡ Late
answer-late width mark n more m is below =
    rw is (number_answer-cases (λ a. a ≡ Late) width (n ∷ more) m
    (λ late. refl)
    (λ up member. absurd (omega (arith, ints)))
    (λ up out. absurd (omega (arith, ints))))

pub answer-repeat : (width mark : ℕ) (n : ℤ) (more : List ℤ) (m : ℤ) → near mark (greatest (n ∷ more)) ≡ m
    → (greatest (n ∷ more) -ℤ pos width) <ℤ m → has (n ∷ more) m ≡ true → answer width (n ∷ more) mark ≡ Repeat
answer-repeat width mark n more m is up member =
    rw is (number_answer-cases (λ a. a ≡ Repeat) width (n ∷ more) m
    (λ late. absurd (omega (arith, ints)))
    (λ u in_set. refl)
    (λ u out. absurd (false≢true (sym out ∙ member))))

pub answer-least : (width mark : ℕ) (n : ℤ) (more : List ℤ) (m : ℤ) → near mark (greatest (n ∷ more)) ≡ m
    → (greatest (n ∷ more) -ℤ pos width) <ℤ m → has (n ∷ more) m ≡ false → m <ℤ least (n ∷ more)
    → m ≤ℤ greatest (n ∷ more) → answer width (n ∷ more) mark ≡ First Least m
answer-least width mark n more m is up out low high =
    rw is (number_answer-cases (λ a. a ≡ First Least m) width (n ∷ more) m
    (λ late. absurd (omega (arith, ints)))
    (λ u member. absurd (false≢true (sym out ∙ member)))
    (λ u o. ap (λ p. First p m) (place-cases (λ p. p ≡ Least) (n ∷ more) m
    (λ a. absurd (omega (arith, ints))) (λ a b. refl) (λ a b. absurd (omega (arith, ints))))))

pub answer-inside : (width mark : ℕ) (n : ℤ) (more : List ℤ) (m : ℤ) → near mark (greatest (n ∷ more)) ≡ m
    → (greatest (n ∷ more) -ℤ pos width) <ℤ m → has (n ∷ more) m ≡ false → least (n ∷ more) ≤ℤ m
    → m ≤ℤ greatest (n ∷ more) → answer width (n ∷ more) mark ≡ First Inside m
answer-inside width mark n more m is up out low high =
    rw is (number_answer-cases (λ a. a ≡ First Inside m) width (n ∷ more) m
    (λ late. absurd (omega (arith, ints)))
    (λ u member. absurd (false≢true (sym out ∙ member)))
    (λ u o. ap (λ p. First p m) (place-cases (λ p. p ≡ Inside) (n ∷ more) m
    (λ a. absurd (omega (arith, ints))) (λ a b. absurd (omega (arith, ints))) (λ a b. refl))))

-- ---- what is counted near the newest number

-- of a number alone
only-bits : (m : ℤ) (k : ℕ) → (k == 0) ≡ has (m ∷ []) (m -ℤ pos k)
only-bits m k =
    elim (cases_eq k 0) [
      | inl e ↦
          let same : (m -ℤ pos k) ≡ m = omega (arith, ints) in
          rw (same, int_eq-same m, eq-eqb k 0 e) refl
      | inr e ↦
          let apart : m ≢ (m -ℤ pos k) = λ q. e (omega (arith, ints)) in
          rw (int_eq-other m (m -ℤ pos k) apart, ne_eqb k 0 e) refl
    ]

-- with a number above them all
above-bits : (set : List ℤ) (g : ℤ) (step k : ℕ) (bit : Bool) → 0 < step
    → ((j : ℤ) → has set j ≡ true → j ≤ℤ g)
    → (step ≤ k → bit ≡ has set (g -ℤ pos (k - step)))
    → (k == 0 || (nat_le step k && bit)) ≡ has ((g +ℤ pos step) ∷ set) ((g +ℤ pos step) -ℤ pos k)
above-bits set g step k bit ahead bound old =
    let m : ℤ = g +ℤ pos step in
    elim (cases_eq k 0) [
      | inl e ↦
          let same : (m -ℤ pos k) ≡ m = omega (arith, ints) in
          rw (same, int_eq-same m, eq-eqb k 0 e) refl
      | inr e ↦
          let apart : m ≢ (m -ℤ pos k) = λ q. e (omega (arith, ints)) in
          rw (int_eq-other m (m -ℤ pos k) apart, ne_eqb k 0 e) (elim (cases_lt k step) [
            | inl passed ↦ rw (lt-leb step k passed) (sym (none passed))
            | inr reached ↦
                let at : (m -ℤ pos k) ≡ (g -ℤ pos (k - step)) = omega (arith, ints) in
                rw (le-leb step k reached, at) (old reached)
          ])
    ]
  where
    none : k < step → has set ((g +ℤ pos step) -ℤ pos k) ≡ false
    none passed = elim (cases_Bool (has set ((g +ℤ pos step) -ℤ pos k))) [
      | inl member ↦ absurd (let b = bound _ member in omega (arith, ints))
      | inr out ↦ out
    ]

-- with a number at some distance below
within-bits : (set : List ℤ) (g : ℤ) (back k : ℕ) (bit : Bool) → bit ≡ has set (g -ℤ pos k)
    → (k == back || bit) ≡ has ((g -ℤ pos back) ∷ set) (g -ℤ pos k)
within-bits set g back k bit old =
    elim (cases_eq k back) [
      | inl e ↦
          let same : (g -ℤ pos k) ≡ (g -ℤ pos back) = omega (arith, ints) in
          rw (same, int_eq-same (g -ℤ pos back), eq-eqb k back e) refl
      | inr e ↦
          let apart : (g -ℤ pos back) ≢ (g -ℤ pos k) = λ q. e (omega (arith, ints)) in
          rw (int_eq-other (g -ℤ pos back) (g -ℤ pos k) apart, ne_eqb k back e) old
    ]

-- ---- a further mark

-- the answer is this one, and the window shows what is counted then
pub record Goes (old new : WindowState) (set : List ℤ) (mark : ℕ) (a : Entered) : Type 0 where
  pub answers : answer old.width set mark ≡ a
  pub shows : Shows new (counting a set)

pub goes-begins : (old new : WindowState) (set : List ℤ) (mark : ℕ) → Shows old set → old.received ≡ 0
    → Begins old new mark → Goes old new set mark (First Only (pos mark))
goes-begins old new [] mark shows none b = record {
  answers = refl;
  shows = record {
    all_received = b.received;
    newest_is = b.newest;
    least_is = rw (b.newest, b.span) (omega (arith, ints));
    recent_are = λ k l. b.recent k l ∙ (rw b.newest (only-bits (pos mark) k));
  };
}
goes-begins old new (n ∷ more) mark shows none b =
    let r : old.received ≡ suc (length more) = shows.all_received in absurd (omega arith)

pub goes-advances : (old new : WindowState) (set : List ℤ) (mark step : ℕ) → Shows old set → 0 < old.received
    → 0 < step → near mark old.newest ≡ (old.newest +ℤ pos step) → Advances old new step
    → Goes old new set mark (First Newest new.newest)
goes-advances old new [] mark step shows some ahead is a =
    let r : old.received ≡ 0 = shows.all_received in absurd (omega arith)
goes-advances old new (n ∷ more) mark step shows some ahead is a =
    let set : List ℤ = n ∷ more in
    let g : old.newest ≡ greatest set = shows.newest_is in
    let l : (old.newest -ℤ pos old.span) ≡ least set = shows.least_is in
    let t : new.newest ≡ (old.newest +ℤ pos step) = a.newest in
    let s : new.span ≡ old.span + step = a.span in
    let up : greatest set <ℤ new.newest = omega (arith, ints) in
    let r : old.received ≡ suc (length more) = shows.all_received in
    record {
      answers = answer-newest old.width mark n more new.newest (rw (← g) (is ∙ sym t)) up;
      shows = record {
        all_received = a.received ∙ ap (λ c. c + 1) r ∙ (omega arith);
        newest_is = omega (arith, ints, clamps);
        least_is =
            let order : least set ≤ℤ greatest set = has-least-bound n more (greatest set) (has-greatest n more) in
            omega (arith, ints, clamps);
        recent_are = λ k b. a.recent k b ∙ (rw t (above-bits set old.newest step k (is_recent old (k - step)) ahead
            (λ j e. let u = has-greatest-bound n more j e in omega (arith, ints))
            (λ reached. shows.recent_are (k - step) (let w : new.width ≡ old.width = a.width in omega arith))));
      };
    }

-- where the number isn't counted yet and is within the width
pub goes-extends : (old new : WindowState) (set : List ℤ) (mark back : ℕ) → Shows old set → 0 < old.received
    → back < old.width → near mark old.newest ≡ (old.newest -ℤ pos back) → is_recent old back ≡ false
    → old.span < back → Fills old new back back
    → Goes old new set mark (First Least (old.newest -ℤ pos back))
goes-extends old new [] mark back shows some within is out low f =
    let r : old.received ≡ 0 = shows.all_received in absurd (omega arith)
goes-extends old new (n ∷ more) mark back shows some within is out low f =
    let set : List ℤ = n ∷ more in
    let g : old.newest ≡ greatest set = shows.newest_is in
    let l : (old.newest -ℤ pos old.span) ≡ least set = shows.least_is in
    let t : new.newest ≡ old.newest = f.newest in
    let s : new.span ≡ back = f.span_is in
    let r : old.received ≡ suc (length more) = shows.all_received in
    let m : ℤ = old.newest -ℤ pos back in
    record {
      answers = answer-least old.width mark n more m (rw (← g) is) (omega (arith, ints))
          (sym (shows.recent_are back within) ∙ out) (omega (arith, ints)) (omega (arith, ints));
      shows = record {
        all_received = f.received ∙ ap (λ c. c + 1) r ∙ (omega arith);
        newest_is = omega (arith, ints, clamps);
        least_is = omega (arith, ints, clamps);
        recent_are = λ k b. f.recent k b ∙ (rw t (within-bits set old.newest back k (is_recent old k)
            (shows.recent_are k (let w : new.width ≡ old.width = f.width in omega arith))));
      };
    }

pub goes-fills : (old new : WindowState) (set : List ℤ) (mark back : ℕ) → Shows old set → 0 < old.received
    → back < old.width → near mark old.newest ≡ (old.newest -ℤ pos back) → is_recent old back ≡ false
    → back ≤ old.span → Fills old new back old.span
    → Goes old new set mark (First Inside (old.newest -ℤ pos back))
goes-fills old new [] mark back shows some within is out low f =
    let r : old.received ≡ 0 = shows.all_received in absurd (omega arith)
goes-fills old new (n ∷ more) mark back shows some within is out low f =
    let set : List ℤ = n ∷ more in
    let g : old.newest ≡ greatest set = shows.newest_is in
    let l : (old.newest -ℤ pos old.span) ≡ least set = shows.least_is in
    let t : new.newest ≡ old.newest = f.newest in
    let s : new.span ≡ old.span = f.span_is in
    let r : old.received ≡ suc (length more) = shows.all_received in
    let m : ℤ = old.newest -ℤ pos back in
    record {
      answers = answer-inside old.width mark n more m (rw (← g) is) (omega (arith, ints))
          (sym (shows.recent_are back within) ∙ out) (omega (arith, ints)) (omega (arith, ints));
      shows = record {
        all_received = f.received ∙ ap (λ c. c + 1) r ∙ (omega arith);
        newest_is = omega (arith, ints, clamps);
        least_is = omega (arith, ints, clamps);
        recent_are = λ k b. f.recent k b ∙ (rw t (within-bits set old.newest back k (is_recent old k)
            (shows.recent_are k (let w : new.width ≡ old.width = f.width in omega arith))));
      };
    }

shows-passes : (s : WindowState) (entered : ℕ) (set : List ℤ) → Shows s set
    → Shows (record s { entered = entered }) set
unfolding is_recent
shows-passes s entered set shows = record {
  all_received = shows.all_received;
  newest_is = shows.newest_is;
  least_is = shows.least_is;
  recent_are = shows.recent_are;
}

pub goes-late : (old new : WindowState) (set : List ℤ) (mark back : ℕ) → Shows old set → 0 < old.received
    → old.width ≤ back → near mark old.newest ≡ (old.newest -ℤ pos back) → Passes old new
    → Goes old new set mark Late
goes-late old new [] mark back shows some beyond is p =
    let r : old.received ≡ 0 = shows.all_received in absurd (omega arith)
goes-late old new (n ∷ more) mark back shows some beyond is p =
    let g : old.newest ≡ greatest (n ∷ more) = shows.newest_is in
    record {
      answers = answer-late old.width mark n more (old.newest -ℤ pos back) (rw (← g) is) (omega (arith, ints));
      shows = rw p (shows-passes old (old.entered + 1) (n ∷ more) shows);
    }

pub goes-repeat : (old new : WindowState) (set : List ℤ) (mark back : ℕ) → Shows old set → 0 < old.received
    → back < old.width → near mark old.newest ≡ (old.newest -ℤ pos back) → is_recent old back ≡ true
    → Passes old new → Goes old new set mark Repeat
goes-repeat old new [] mark back shows some within is member p =
    let r : old.received ≡ 0 = shows.all_received in absurd (omega arith)
goes-repeat old new (n ∷ more) mark back shows some within is member p =
    let g : old.newest ≡ greatest (n ∷ more) = shows.newest_is in
    record {
      answers = answer-repeat old.width mark n more (old.newest -ℤ pos back) (rw (← g) is) (omega (arith, ints))
          (sym (shows.recent_are back within) ∙ member);
      shows = rw p (shows-passes old (old.entered + 1) (n ∷ more) shows);
    }
