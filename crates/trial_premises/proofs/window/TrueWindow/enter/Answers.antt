use Rattle.std.proofs.Common.{◌≡◌, ◌∙◌, ◌%◌, ℕ, Bool, ℤ, List, ◌∷◌, pos, Some, sym, ap, subst, cond, not, ◌&&◌, true, false}
use Rattle.std.specs.Prelude.{◌==◌}
use Rattle.count_spec.specs.Windows.{has}
use Rattle.account_spec.specs.TrueNumbers.{is_late, in_time}
use Rattle.trial_premises.specs.ByIndex.{kept}
use Rattle.trial_premises.specs.Window.{WindowState, StandsFor, is_behind, is_kept}
use Rattle.trial_premises.proofs.WindowSteps.{behind-is, window-stays, window-counts}
use Rattle.trial_premises.proofs.window.TrueWindow.enter.Goals as goal

-- ---- a late number

pub returns-then-is_late-clause-stands : goal.returns-then-is_late-clause-stands
returns-then-is_late-clause-stands c = λ numbers st.
    window-stays c.args.self.now c.args.number numbers
    (sym (behind-is c.args.self.now.width c.args.self.now.newest numbers c.args.number st.newest_is)
    ∙ sym c.is_late.ensures ∙ c.if-is_late.true) st

pub returns-then-is_late-clause-answer : goal.returns-then-is_late-clause-answer
returns-then-is_late-clause-answer c = λ numbers st.
    let late : is_late c.args.self.now.width numbers (pos c.args.number) ≡ true =
    sym (behind-is c.args.self.now.width c.args.self.now.newest numbers c.args.number st.newest_is)
    ∙ sym c.is_late.ensures ∙ c.if-is_late.true in
    ap (λ (b : Bool). not b && not (has (in_time c.args.self.now.width numbers) (pos c.args.number))) (sym late)

-- ---- one that is in time

early : (c : goal.After-self-1) (s : WindowState) (numbers : List ℤ) → c.args.self.now ≡ s → StandsFor s numbers
    → is_late s.width numbers (pos c.args.number) ≡ false
early c s numbers is st =
    sym (behind-is s.width s.newest numbers c.args.number st.newest_is)
    ∙ ap (λ (w : WindowState). is_behind w.width w.newest c.args.number) (sym is)
    ∙ sym c.is_late.ensures ∙ c.if-is_late.false

slot : (c : goal.After-self-1) (s : WindowState) → c.args.self.now ≡ s → c.slot-slot.result ≡ c.args.number % s.width
slot c s is = c.slot-slot.ensures.value ∙ ap (λ (w : WindowState). c.args.number % w.width) is

pub returns-clause-stands : goal.returns-clause-stands
returns-clause-stands c = rw (← c.self.view_is) (λ numbers st.
    let was : WindowState = record {
      width = c.self.inside.width;
      newest = c.self.inside.newest;
      slots = c.self.inside.slots.slots.items;
    } in
    let P : ℕ → Type 0 = λ m. StandsFor (record {
      width = c.self.inside.width;
      newest = Some m;
      slots = c.set.new.self.slots.items;
    }) (pos c.args.number ∷ numbers) in
    subst P (sym c.newer.ensures) (window-counts was c.set.new.self.slots.items c.args.number numbers c.self.invariant.0
    (early c was numbers (sym c.self.view_is) st)
    (λ i. c.set.ensures.values i
    ∙ ap (λ (k : ℕ). cond (k == i) (Some c.args.number) (kept c.self.inside.slots.slots.items i)) (slot c was (sym c.self.view_is)))
    st))

pub returns-clause-answer : goal.returns-clause-answer
returns-clause-answer c = rw (← c.self.view_is) (λ numbers st.
    let was : WindowState = record {
      width = c.self.inside.width;
      newest = c.self.inside.newest;
      slots = c.self.inside.slots.slots.items;
    } in
    let e = early c was numbers (sym c.self.view_is) st in
    ap not (c.has_counted-is_new.ensures
    ∙ ap (λ o. is_kept o c.args.number) c.get.ensures
    ∙ ap (λ (k : ℕ). is_kept (kept c.self.inside.slots.slots.items k) c.args.number) (slot c was (sym c.self.view_is))
    ∙ st.counted_are c.args.number e)
    ∙ ap (λ (b : Bool). not b && not (has (in_time c.self.inside.width numbers) (pos c.args.number))) (sym e))
