-- Each step of a window keeps its invariant, and changes what is seen as it is said to.
use Rattle.std.proofs.Common.{◌≡◌, ℕ, ◌+◌, ◌-◌, ◌*◌, ◌^◌, ◌<◌, ◌≤◌, Bool, true, false, ◌&&◌, ◌||◌, not, refl, sym, ◌∙◌, ap, arith, pos, ◌+ℤ◌, ◌≤ℤ◌}
use Rattle.std.specs.Prelude.{◌==◌, nat_le, min}
use Rattle.std.proofs.lemmas.Int.{ints}
use Rattle.late_window.specs.Distances.{count_below}
use Rattle.late_window.specs.Settled.{IsEmpty}
use Rattle.late_window.specs.States.{is_recent}
use Rattle.late_window.specs.Steps.{Begins, Advances, Fills}
use Rattle.late_window.specs.Fields.{held, window_state, IsWindow}
use Rattle.late_window.specs.declared.TheConstants.{MAX_WIDTH}
use Rattle.late_window.specs.declared.window.Window.TheInside.{Inside}
use Rattle.late_window.proofs.Recent.{recent-held}
use Rattle.late_window.proofs.Pending.{Moved, Added, settled-first, settled-moved, settled-extended, settled-filled, pending-filled}

or-false : (a : Bool) → (a || false) ≡ a
or-false true = refl
or-false false = refl

-- a bit that was added to those below the width
narrowed : (old new : ℕ → Bool) (slots width back : ℕ) → width ≤ slots → Added old new slots back
    → Added old new width back
narrowed old new slots width back room a k within = a k (omega arith)

pub record KeepsAndBegins (old new : Inside) (mark : ℕ) : Type 0 where
  pub keeps : IsWindow new
  pub begins : Begins (window_state old) (window_state new) mark

pub begun : (old new : Inside) (mark : ℕ) → IsWindow old → mark < 2 ^ 32 → old.entered < 2 ^ 62 → old.received ≡ 0
    → new.width ≡ old.width → new.entered ≡ old.entered + 1 → new.received ≡ 1 → new.pending ≡ old.pending
    → new.newest ≡ pos mark → new.span ≡ old.span
    → new.recent.slots ≡ old.recent.slots → Added (held old) (held new) old.recent.slots 0
    → KeepsAndBegins old new mark
begun old new mark w small few none width entered received pending newest span slots added =
    let from : 1 ≤ old.width = w.width_from in
    let to : old.width ≤ MAX_WIDTH = w.width_to in
    let room : old.width ≤ old.recent.slots = w.room in
    let empty : IsEmpty (held old) old.width old.span old.pending old.entered = (w.empty none).1 in
    let no_span : new.span ≡ 0 = span ∙ empty.no_span in
    let no_pending : new.pending ≡ 0 = pending ∙ empty.no_pending in
    let first : (k : ℕ) → k < new.width → held new k ≡ (k == 0) = λ k within.
    added k (omega arith) ∙ (let out : held old k ≡ false = empty.none k (omega arith) in
    rw out (or-false (k == 0))) in
    record {
      keeps = record {
        width_from = omega arith;
        width_to = omega arith;
        room = omega arith;
        few = omega arith;
        received_few = omega arith;
        newest_from = omega (arith, ints);
        newest_to = omega (arith, ints);
        span_to = omega arith;
        empty = λ e. absurd (omega arith);
        settled = λ some. rw (no_span, no_pending) (settled-first (held new) new.width first (omega arith));
        sum = λ some. omega arith;
      };
      begins = record {
        width = width;
        entered = entered;
        received = received;
        newest = newest;
        span = no_span;
        recent = λ k within. recent-held new k within ∙ first k within;
      };
    }

pub record KeepsAndAdvances (old new : Inside) (step : ℕ) : Type 0 where
  pub keeps : IsWindow new
  pub advances : Advances (window_state old) (window_state new) step

pub advanced : (old new : Inside) (step : ℕ) → IsWindow old → old.entered < 2 ^ 62 → 0 < old.received → 0 < step
    → step < 2 ^ 31 → new.width ≡ old.width → new.entered ≡ old.entered + 1 → new.received ≡ old.received + 1
    → new.newest ≡ (old.newest +ℤ pos step) → new.span ≡ old.span + step
    → new.recent.slots ≡ old.recent.slots → Moved (held old) (held new) old.width step
    → new.pending ≡ count_below (λ k. not (held new k)) (min (old.span + step) old.width)
    → new.pending + 1 ≤ old.pending + step → KeepsAndAdvances old new step
advanced old new step w few some ahead near width entered received newest span slots moved pending rise =
    let from : 1 ≤ old.width = w.width_from in
    let to : old.width ≤ MAX_WIDTH = w.width_to in
    let room : old.width ≤ old.recent.slots = w.room in
    let up : pos 0 ≤ℤ old.newest = w.newest_from in
    let top : old.newest ≤ℤ pos (2 ^ 32 * old.entered) = w.newest_to in
    let far : old.span ≤ 2 ^ 31 * old.entered = w.span_to in
    let all : old.received + old.pending ≤ old.span + 1 = w.sum some in
    let counted : old.received ≤ old.entered = w.received_few in
    record {
      keeps = record {
        width_from = omega arith;
        width_to = omega arith;
        room = omega arith;
        few = omega arith;
        received_few = omega arith;
        newest_from = omega (arith, ints);
        newest_to = omega (arith, ints);
        span_to = omega arith;
        empty = λ e. absurd (omega arith);
        settled = λ more. rw (width, span) (settled-moved (held old) (held new) old.width old.span step old.pending
            new.pending (w.settled some) moved ahead from pending);
        sum = λ more. omega arith;
      };
      advances = record {
        width = width;
        entered = entered;
        received = received;
        newest = newest;
        span = span;
        recent = λ k within. recent-held new k within ∙ moved k (omega arith) ∙ before k (omega arith);
      };
    }
  where
    before : (k : ℕ) → k < old.width
        → (k == 0 || (nat_le step k && held old (k - step)))
        ≡ (k == 0 || (nat_le step k && is_recent (window_state old) (k - step)))
    before k within = ap (λ (b : Bool). k == 0 || (nat_le step k && b)) (sym (recent-held old (k - step) (omega arith)))

pub record KeepsAndFills (old new : Inside) (back span : ℕ) : Type 0 where
  pub keeps : IsWindow new
  pub fills : Fills (window_state old) (window_state new) back span

-- what is seen, where a bit was added
filled-recent : (old new : Inside) (back k : ℕ) → Added (held old) (held new) old.width back
    → new.width ≡ old.width → k < new.width
    → is_recent (window_state new) k ≡ (k == back || is_recent (window_state old) k)
filled-recent old new back k added width within =
    recent-held new k within ∙ added k (omega arith)
    ∙ ap (λ (b : Bool). k == back || b) (sym (recent-held old k (omega arith)))

pub extended : (old new : Inside) (back : ℕ) → IsWindow old → old.entered < 2 ^ 62 → 0 < old.received
    → back < old.width → old.span < back → new.width ≡ old.width → new.entered ≡ old.entered + 1
    → new.received ≡ old.received + 1 → new.newest ≡ old.newest → new.span ≡ back
    → new.recent.slots ≡ old.recent.slots → Added (held old) (held new) old.recent.slots back → new.pending ≡ old.pending + (back - old.span - 1)
    → KeepsAndFills old new back back
extended old new back w few some within beyond width entered received newest span slots added pending =
    let from : 1 ≤ old.width = w.width_from in
    let to : old.width ≤ MAX_WIDTH = w.width_to in
    let room : old.width ≤ old.recent.slots = w.room in
    let up : pos 0 ≤ℤ old.newest = w.newest_from in
    let top : old.newest ≤ℤ pos (2 ^ 32 * old.entered) = w.newest_to in
    let all : old.received + old.pending ≤ old.span + 1 = w.sum some in
    let counted : old.received ≤ old.entered = w.received_few in
    let near : Added (held old) (held new) old.width back = narrowed (held old) (held new) old.recent.slots old.width back room added in
    record {
      keeps = record {
        width_from = omega arith;
        width_to = omega arith;
        room = omega arith;
        few = omega arith;
        received_few = omega arith;
        newest_from = omega (arith, ints);
        newest_to = omega (arith, ints);
        span_to = omega arith;
        empty = λ e. absurd (omega arith);
        settled = λ more. rw (width, span) (settled-extended (held old) (held new) old.width old.span old.pending back
            new.pending (w.settled some) near within beyond pending);
        sum = λ more. omega arith;
      };
      fills = record {
        width = width;
        entered = entered;
        received = received;
        newest = newest;
        span_is = span;
        recent = λ k b. filled-recent old new back k near width b;
      };
    }

pub filled : (old new : Inside) (back : ℕ) → IsWindow old → old.entered < 2 ^ 62 → 0 < old.received
    → back < old.width → back ≤ old.span → held old back ≡ false → new.width ≡ old.width
    → new.entered ≡ old.entered + 1 → new.received ≡ old.received + 1 → new.newest ≡ old.newest
    → new.span ≡ old.span → new.recent.slots ≡ old.recent.slots → Added (held old) (held new) old.recent.slots back → new.pending ≡ old.pending - 1
    → KeepsAndFills old new back old.span
filled old new back w few some within low out width entered received newest span slots added pending =
    let from : 1 ≤ old.width = w.width_from in
    let to : old.width ≤ MAX_WIDTH = w.width_to in
    let room : old.width ≤ old.recent.slots = w.room in
    let up : pos 0 ≤ℤ old.newest = w.newest_from in
    let top : old.newest ≤ℤ pos (2 ^ 32 * old.entered) = w.newest_to in
    let far : old.span ≤ 2 ^ 31 * old.entered = w.span_to in
    let all : old.received + old.pending ≤ old.span + 1 = w.sum some in
    let counted : old.received ≤ old.entered = w.received_few in
    let near : Added (held old) (held new) old.width back = narrowed (held old) (held new) old.recent.slots old.width back room added in
    let one = pending-filled (held old) (held new) old.width old.span old.pending back (w.settled some) near within
    low out in
    record {
      keeps = record {
        width_from = omega arith;
        width_to = omega arith;
        room = omega arith;
        few = omega arith;
        received_few = omega arith;
        newest_from = omega (arith, ints);
        newest_to = omega (arith, ints);
        span_to = omega arith;
        empty = λ e. absurd (omega arith);
        settled = λ more. rw (width, span) (settled-filled (held old) (held new) old.width old.span old.pending back
            new.pending (w.settled some) near within low out pending);
        sum = λ more. omega (arith, one);
      };
      fills = record {
        width = width;
        entered = entered;
        received = received;
        newest = newest;
        span_is = span;
        recent = λ k b. filled-recent old new back k near width b;
      };
    }

-- one at least is pending where one comes that was missing
pub some-pending : (old : Inside) (back : ℕ) → IsWindow old → 0 < old.received → back < old.width → back ≤ old.span
    → held old back ≡ false → 1 ≤ old.pending
some-pending old back w some within low out =
    let one = pending-filled (held old) (λ k. k == back || held old k) old.width old.span old.pending back
    (w.settled some) (λ k b. refl) within low out in
    omega (arith, one)
