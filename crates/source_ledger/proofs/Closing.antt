-- A ledger of marks that closes its current stretch, and what it shows.
use Rattle.std.proofs.Common.{◌≡◌, ℕ, ◌+◌, List, [], ◌∷◌, length, refl, sym, ◌∙◌, ap, arith}
use Rattle.std.specs.List.{sum_by}
use Rattle.std.proofs.lemmas.List.Sums.{sum_by-cons}
use Rattle.count_spec.specs.Windows.{repeat_count, late_count}
use Rattle.late_window.specs.States.{WindowState, parts_of, StandsFor as WindowStands}
use Rattle.books_spec.specs.Views.{Figures, figures_of, closing, sum_of, closed_figures, figures_over, view_with, plain_view}
use Rattle.books_spec.specs.declared.ledger_view.LedgerView.{LedgerView}
use Rattle.books_spec.proofs.Sums.{closing-over, closed-pending, sum_of-none}
use Rattle.source_ledger.specs.Stretches.{current_of, closed_of}
use Rattle.source_ledger.specs.Marks.{MarksState, StandsFor}
use Rattle.source_ledger.proofs.Trims.{closed-first}

-- these are the parts of what a window counted
pub record HasParts (w : WindowState) (issued received pending lost : ℕ) : Type 0 where
  pub issued_is : (marks : List ℕ) → WindowStands w marks → issued ≡ (parts_of w.width marks).issued
  pub received_is : (marks : List ℕ) → WindowStands w marks → received ≡ (parts_of w.width marks).received
  pub pending_is : (marks : List ℕ) → WindowStands w marks → pending ≡ (parts_of w.width marks).pending
  pub lost_is : (marks : List ℕ) → WindowStands w marks → lost ≡ (parts_of w.width marks).lost

-- what is in a ledger whose current stretch was closed, its window having had these parts
pub record Closes (old new : MarksState) (issued received pending lost : ℕ) : Type 0 where
  pub width_is : new.width ≡ old.width
  pub entered_is : new.entered ≡ old.entered
  pub issued_is : new.issued ≡ old.issued + issued
  pub received_is : new.received ≡ old.received + received
  pub lost_is : new.lost ≡ old.lost + (lost + pending)
  pub repeated_is : new.repeated ≡ old.repeated
  pub late_is : new.late ≡ old.late
  pub window_width : new.window.width ≡ new.width
  pub window_is : WindowStands new.window []

sum-empty : (f : List ℕ → ℕ) (closed : List (List ℕ)) → f [] ≡ 0 → sum_by f closed ≡ sum_by f ([] ∷ closed)
sum-empty f closed none = let sum = sum_by-cons f [] closed in omega (arith, sum, none)

pub stretch-closed : (old new : MarksState) (stretches : List (List ℕ)) (issued received pending lost : ℕ)
    → StandsFor old stretches → HasParts old.window issued received pending lost
    → Closes old new issued received pending lost → StandsFor new ([] ∷ stretches)
stretch-closed old new stretches issued received pending lost st has c =
    let current : List ℕ = current_of stretches in
    let figures : closed_figures old.width stretches
    ≡ sum_of (closing (figures_of old.width current)) (closed_figures old.width (closed_of stretches)) =
    closed-first old.width stretches in
    let i = has.issued_is current st.window_stands ∙ ap (λ (w : ℕ). (parts_of w current).issued) st.width_is in
    let r = has.received_is current st.window_stands ∙ ap (λ (w : ℕ). (parts_of w current).received) st.width_is in
    let p = has.pending_is current st.window_stands ∙ ap (λ (w : ℕ). (parts_of w current).pending) st.width_is in
    let l = has.lost_is current st.window_stands ∙ ap (λ (w : ℕ). (parts_of w current).lost) st.width_is in
    let fi = ap (λ (f : Figures). f.issued) figures in
    let fr = ap (λ (f : Figures). f.received) figures in
    let fl = ap (λ (f : Figures). f.lost) figures in
    let issued_is : new.issued ≡ (closed_figures old.width stretches).issued =
    (let a = c.issued_is in let b = st.issued_is in omega (arith, a, b, i, fi)) in
    let received_is : new.received ≡ (closed_figures old.width stretches).received =
    (let a = c.received_is in let b = st.received_is in omega (arith, a, b, r, fr)) in
    let lost_is : new.lost ≡ (closed_figures old.width stretches).lost =
    (let a = c.lost_is in let b = st.lost_is in omega (arith, a, b, p, l, fl)) in
    record {
      all_entered = c.entered_is ∙ st.all_entered ∙ sum-empty length stretches refl;
      width_is = c.window_width;
      window_stands = c.window_is;
      issued_is = issued_is ∙ ap (λ (w : ℕ). (closed_figures w stretches).issued) (sym c.width_is);
      received_is = received_is ∙ ap (λ (w : ℕ). (closed_figures w stretches).received) (sym c.width_is);
      lost_is = lost_is ∙ ap (λ (w : ℕ). (closed_figures w stretches).lost) (sym c.width_is);
      repeated_are = c.repeated_is ∙ st.repeated_are ∙ sum-empty (repeat_count old.width) stretches refl
          ∙ ap (λ (w : ℕ). sum_by (repeat_count w) ([] ∷ stretches)) (sym c.width_is);
      late_are = c.late_is ∙ st.late_are ∙ sum-empty (late_count old.width) stretches refl
          ∙ ap (λ (w : ℕ). sum_by (late_count w) ([] ∷ stretches)) (sym c.width_is);
    }

-- ---- views

figures-same : (i i' r r' p p' l l' s s' t t' : ℕ) → i ≡ i' → r ≡ r' → p ≡ p' → l ≡ l' → s ≡ s' → t ≡ t'
    → ◌≡◌ {A = Figures} (record { issued = i; received = r; pending = p; lost = l; repeated = s; late = t })
    (record { issued = i'; received = r'; pending = p'; lost = l'; repeated = s'; late = t' })
figures-same i i' r r' p p' l l' s s' t t' a b c d e f = rw (a, b, c, d, e, f) refl

closed-repeated : (width : ℕ) (stretches : List (List ℕ))
    → sum_by (repeat_count width) stretches ≡ (closed_figures width stretches).repeated
closed-repeated width [] = refl
closed-repeated width (stretch ∷ more) =
    let later = closed-repeated width more in
    let sum = sum_by-cons (repeat_count width) stretch more in
    omega (arith, later, sum)

closed-late : (width : ℕ) (stretches : List (List ℕ))
    → sum_by (late_count width) stretches ≡ (closed_figures width stretches).late
closed-late width [] = refl
closed-late width (stretch ∷ more) =
    let later = closed-late width more in
    let sum = sum_by-cons (late_count width) stretch more in
    omega (arith, later, sum)

-- a sum over stretches is that of the current one and of the closed ones
first-sum : (f : List ℕ → ℕ) (stretches : List (List ℕ)) → f [] ≡ 0
    → sum_by f stretches ≡ f (current_of stretches) + sum_by f (closed_of stretches)
first-sum f [] none = rw none refl
first-sum f (current ∷ closed) none = sum_by-cons f current closed

parted : (width : ℕ) (stretches : List (List ℕ))
    → sum_of (figures_of width (current_of stretches)) (closed_figures width (closed_of stretches))
    ≡ figures_over width stretches
parted width [] = refl
parted width (current ∷ closed) = refl

-- what a ledger shows whose window has these parts
pub view-is : (s : MarksState) (stretches : List (List ℕ)) (issued received pending lost : ℕ)
    → StandsFor s stretches → HasParts s.window issued received pending lost
    → view_with (record {
      issued = s.issued + issued;
      received = s.received + received;
      pending = pending;
      lost = s.lost + lost;
      repeated = s.repeated;
      late = s.late;
    }) 0 0 0 ≡ plain_view s.width stretches
view-is s stretches issued received pending lost st has =
    let current : List ℕ = current_of stretches in
    let closed : List (List ℕ) = closed_of stretches in
    let i = has.issued_is current st.window_stands ∙ ap (λ (w : ℕ). (parts_of w current).issued) st.width_is in
    let r = has.received_is current st.window_stands ∙ ap (λ (w : ℕ). (parts_of w current).received) st.width_is in
    let p = has.pending_is current st.window_stands ∙ ap (λ (w : ℕ). (parts_of w current).pending) st.width_is in
    let l = has.lost_is current st.window_stands ∙ ap (λ (w : ℕ). (parts_of w current).lost) st.width_is in
    let none = closed-pending s.width closed in
    let ci = st.issued_is in
    let cr = st.received_is in
    let cl = st.lost_is in
    let rs = first-sum (repeat_count s.width) stretches refl in
    let ro = closed-repeated s.width closed in
    let ra = st.repeated_are in
    let ls = first-sum (late_count s.width) stretches refl in
    let lo = closed-late s.width closed in
    let la = st.late_are in
    ap (λ (f : Figures). view_with f 0 0 0)
    (figures-same (s.issued + issued) _ (s.received + received) _ pending _ (s.lost + lost) _ s.repeated _ s.late _
    (omega (arith, i, ci)) (omega (arith, r, cr)) (omega (arith, p, none)) (omega (arith, l, cl))
    (omega (arith, rs, ro, ra)) (omega (arith, ls, lo, la))
    ∙ parted s.width stretches)

-- a view once the current stretch is closed
abbrev closing_view : LedgerView → LedgerView
closing_view v = record v { pending = 0; lost = v.lost + v.pending }

pub closed-view-is : (width : ℕ) (stretches : List (List ℕ)) (v : LedgerView) → v ≡ plain_view width stretches
    → closing_view v ≡ plain_view width ([] ∷ stretches)
closed-view-is width stretches v is =
    ap closing_view is
    ∙ ap (λ (f : Figures). view_with f 0 0 0)
    (sym (closing-over width stretches) ∙ sym (sum_of-none (closed_figures width stretches)))
