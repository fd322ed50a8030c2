-- A window that stands for some marks stands, after a further one, for that mark and those.
use Rattle.std.proofs.Common.{◌≡◌, ℕ, ◌+◌, ◌<◌, ◌≤◌, true, false, List, ◌∷◌, length, pos, ◌+ℤ◌, ◌-ℤ◌, sym, ◌∙◌, ap, subst, arith}
use Rattle.count_spec.specs.Windows.{near, answer, counting, counted}
use Rattle.count_spec.specs.declared.entered.Entered.{Entered}
use Rattle.count_spec.specs.declared.entered.Entered.TheVariants.{First, Repeat, Late}
use Rattle.count_spec.specs.declared.entered.Place.TheVariants.{Only, Newest, Inside as InsidePlace, Least}
use Rattle.late_window.specs.States.{WindowState, is_recent, Shows, StandsFor}
use Rattle.late_window.specs.Steps.{IsBeside, Begins, Advances, Fills, Passes}
use Rattle.late_window.specs.Fields.{held, window_state}
use Rattle.late_window.specs.declared.side.Side.TheVariants.{Above, Below}
use Rattle.late_window.specs.declared.window.Window.TheInside.{Inside}
use Rattle.late_window.proofs.Recent.{recent-held}
use Rattle.late_window.proofs.Shown.{Goes, goes-begins, goes-advances, goes-extends, goes-fills, goes-late, goes-repeat}

-- the window goes on from these states under this mark with this answer
pub record Enters (old new : WindowState) (mark : ℕ) (a : Entered) : Type 0 where
  pub stands : (marks : List ℕ) → StandsFor old marks → StandsFor new (mark ∷ marks)
  pub answers : (marks : List ℕ) → StandsFor old marks → a ≡ answer old.width (counted old.width marks) mark

stands-goes : (old new : WindowState) (mark : ℕ) (a : Entered) (marks : List ℕ) → StandsFor old marks
    → new.width ≡ old.width → new.entered ≡ old.entered + 1 → Goes old new (counted old.width marks) mark a
    → StandsFor new (mark ∷ marks)
stands-goes old new mark a marks st width entered goes =
    let before : old.entered ≡ length marks = st.all_entered in
    record {
      all_entered = omega arith;
      shows = subst (λ (w : ℕ). Shows new (counted w (mark ∷ marks))) (sym width)
          (subst (λ (b : Entered). Shows new (counting b (counted old.width marks))) (sym goes.answers) goes.shows);
    }

enters-goes : (old new : WindowState) (mark : ℕ) (a : Entered) → new.width ≡ old.width
    → new.entered ≡ old.entered + 1
    → ((marks : List ℕ) → StandsFor old marks → Goes old new (counted old.width marks) mark a)
    → Enters old new mark a
enters-goes old new mark a width entered goes = record {
  stands = λ marks st. stands-goes old new mark a marks st width entered (goes marks st);
  answers = λ marks st. sym (goes marks st).answers;
}

pub enters-begun : (old new : WindowState) (mark : ℕ) → old.received ≡ 0 → Begins old new mark
    → Enters old new mark (First Only (pos mark))
enters-begun old new mark none b = enters-goes old new mark (First Only (pos mark)) b.width b.entered
    (λ marks st. goes-begins old new (counted old.width marks) mark st.shows none b)

-- a bit of the state, as the window's fields have it
recent-now : (w : Inside) (s : WindowState) (k : ℕ) → window_state w ≡ s → k < w.width → is_recent s k ≡ held w k
recent-now w s k view within = ap (λ (t : WindowState). is_recent t k) (sym view) ∙ recent-held w k within

pub enters-advanced : (w : Inside) (old new : WindowState) (mark step : ℕ) → window_state w ≡ old → 0 < w.received
    → IsBeside (Above step) w.newest (near mark w.newest) → Advances old new step
    → Enters old new mark (First Newest new.newest)
enters-advanced w old new mark step view some beside a =
    let received : 0 < old.received = rw (← view) some in
    let is : near mark old.newest ≡ (old.newest +ℤ pos step) =
    subst (λ (s : WindowState). near mark s.newest ≡ (s.newest +ℤ pos step)) view beside.0 in
    enters-goes old new mark (First Newest new.newest) a.width a.entered
    (λ marks st. goes-advances old new (counted old.width marks) mark step st.shows received beside.1 is a)

-- the number so far below the newest, in terms of the state
below-is : (w : Inside) (old : WindowState) (mark back : ℕ) → window_state w ≡ old
    → IsBeside (Below back) w.newest (near mark w.newest) → near mark old.newest ≡ (old.newest -ℤ pos back)
below-is w old mark back view beside =
    subst (λ (s : WindowState). near mark s.newest ≡ (s.newest -ℤ pos back)) view beside.0

pub enters-late : (w : Inside) (old new : WindowState) (mark back : ℕ) → window_state w ≡ old → 0 < w.received
    → IsBeside (Below back) w.newest (near mark w.newest) → w.width ≤ back → Passes old new
    → Enters old new mark Late
enters-late w old new mark back view some beside beyond p =
    let received : 0 < old.received = rw (← view) some in
    let far : old.width ≤ back = rw (← view) beyond in
    enters-goes old new mark Late (ap (λ (s : WindowState). s.width) p) (ap (λ (s : WindowState). s.entered) p)
    (λ marks st. goes-late old new (counted old.width marks) mark back st.shows received far
    (below-is w old mark back view beside) p)

pub enters-repeat : (w : Inside) (old new : WindowState) (mark back : ℕ) → window_state w ≡ old → 0 < w.received
    → IsBeside (Below back) w.newest (near mark w.newest) → back < w.width → held w back ≡ true → Passes old new
    → Enters old new mark Repeat
enters-repeat w old new mark back view some beside within member p =
    let received : 0 < old.received = rw (← view) some in
    let near_it : back < old.width = rw (← view) within in
    enters-goes old new mark Repeat (ap (λ (s : WindowState). s.width) p) (ap (λ (s : WindowState). s.entered) p)
    (λ marks st. goes-repeat old new (counted old.width marks) mark back st.shows received near_it
    (below-is w old mark back view beside) (recent-now w old back view within ∙ member) p)

pub enters-extended : (w : Inside) (old new : WindowState) (mark back : ℕ) → window_state w ≡ old → 0 < w.received
    → IsBeside (Below back) w.newest (near mark w.newest) → back < w.width → held w back ≡ false → w.span < back
    → Fills old new back back → Enters old new mark (First Least (old.newest -ℤ pos back))
enters-extended w old new mark back view some beside within out low f =
    let received : 0 < old.received = rw (← view) some in
    let near_it : back < old.width = rw (← view) within in
    let beyond : old.span < back = rw (← view) low in
    enters-goes old new mark (First Least (old.newest -ℤ pos back)) f.width f.entered
    (λ marks st. goes-extends old new (counted old.width marks) mark back st.shows received near_it
    (below-is w old mark back view beside) (recent-now w old back view within ∙ out) beyond f)

pub enters-filled : (w : Inside) (old new : WindowState) (mark back : ℕ) → window_state w ≡ old → 0 < w.received
    → IsBeside (Below back) w.newest (near mark w.newest) → back < w.width → held w back ≡ false → back ≤ w.span
    → Fills old new back old.span → Enters old new mark (First InsidePlace (old.newest -ℤ pos back))
enters-filled w old new mark back view some beside within out low f =
    let received : 0 < old.received = rw (← view) some in
    let near_it : back < old.width = rw (← view) within in
    let between : back ≤ old.span = rw (← view) low in
    enters-goes old new mark (First InsidePlace (old.newest -ℤ pos back)) f.width f.entered
    (λ marks st. goes-fills old new (counted old.width marks) mark back st.shows received near_it
    (below-is w old mark back view beside) (recent-now w old back view within ∙ out) between f)
