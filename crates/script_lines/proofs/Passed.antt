-- Lines that a reader passes over, and what comes next behind them.
use Rattle.std.proofs.Common.{◌≡◌, ◌∙◌, ◌+◌, ℕ, Bool, true, false, List, [], Option, Err, refl, ap}
use Rattle.std.specs.Prelude.{if◌then◌else◌}
use Rattle.wire_spec.specs.declared.input_kind.InputKind.TheVariants.{Script}
use Rattle.sflow_io.specs.declared.capture.ReadRefusal.{ReadRefusal}
use Rattle.sflow_io.specs.declared.capture.ReadRefusal.TheVariants.{BadInput}
use Rattle.script_spec.specs.Texts.{Shape, Says, texts_in}
use Rattle.script_spec.specs.Steps.{Ends, Fails, by_shape, next_in}
use Rattle.script_spec.proofs.NextLines.{begun_by}
use Rattle.script_lines.specs.Shown.{shown}
use Rattle.script_lines.specs.Fronts.{HasLine, HasShapeless, LeavesPart}
use Rattle.script_lines.specs.Readers.{Goes, GivesLine, LosesNone, Tells}
use Rattle.script_lines.specs.declared.line.ScriptLine.{ScriptLine}
use Rattle.script_lines.specs.declared.place.Place.{Place}

-- what comes next by the first line
by_first : (p : Place) (shape : Shape) (bytes : List ℕ) (new : Option (List ℕ)) (h : HasLine p.begun (p.count + 1) shape bytes new)
    → next_in p.begun p.count (texts_in bytes)
    ≡ by_shape p.begun (p.count + 1) (texts_in h.rest) (λ now. next_in now (p.count + 1) (texts_in h.rest)) shape
by_first p shape bytes new h =
    ap (next_in p.begun p.count) h.first
    ∙ ap (by_shape p.begun (p.count + 1) (texts_in h.rest) (λ now. next_in now (p.count + 1) (texts_in h.rest))) h.is

module _ (old p : Place) (bytes : List ℕ) (mid : Option (List ℕ)) (g : Goes old p bytes mid) where
  -- behind a line that says nothing
  pub goes_on : (q : Place) (shape : Shape) (new : Option (List ℕ)) → HasLine p.begun (p.count + 1) shape g.rest new
      → ((rest : List ℕ) → by_shape p.begun (p.count + 1) (texts_in rest) (λ now. next_in now (p.count + 1) (texts_in rest)) shape
      ≡ next_in q.begun q.count (texts_in rest))
      → Goes old q bytes new
  goes_on q shape new h on = record {
    rest = h.rest;
    left_is = h.left_is;
    same = g.same ∙ by_first p shape g.rest new h ∙ on h.rest;
  }

  pub goes_to_line : (line : ScriptLine) (new : Option (List ℕ)) → HasLine p.begun (p.count + 1) (Says (shown line)) g.rest new
      → GivesLine old (record { begun = p.begun; count = p.count + 1 }) line bytes new
  goes_to_line line new h = record {
    rest = h.rest;
    left_is = h.left_is;
    begun = begun_by p.begun (p.count + 1) h.text (shown line) h.is;
    next = g.same ∙ by_first p (Says (shown line)) g.rest new h;
  }

  pub goes_to_part : (left : Option (List ℕ)) → LeavesPart g.rest left → LosesNone old p bytes left
  goes_to_part left l = record {
    part = l.part;
    rest = l.rest;
    inside = l.inside;
    left_is = l.left_is;
    same = g.same ∙ ap (λ (b : List ℕ). next_in p.begun p.count (texts_in b)) l.whole;
  }

  pub goes_to_shapeless : HasShapeless p.begun (p.count + 1) g.rest
      → next_in old.begun old.count (texts_in bytes) ≡ Fails (p.count + 1)
  goes_to_shapeless h =
      g.same ∙ ap (next_in p.begun p.count) h.first
      ∙ ap (by_shape p.begun (p.count + 1) h.more (λ now. next_in now (p.count + 1) h.more)) h.is

  at_end : g.rest ≡ [] → next_in p.begun p.count (texts_in g.rest) ≡ (if p.begun then Ends else Fails (p.count + 1))
  unfolding texts_in
  at_end none = ap (λ (b : List ℕ). next_in p.begun p.count (texts_in b)) none

  pub goes_to_end : g.rest ≡ [] → p.begun ≡ true → next_in old.begun old.count (texts_in bytes) ≡ Ends
  goes_to_end none begun =
      g.same ∙ at_end none ∙ ap (λ (b : Bool). if b then Ends else Fails (p.count + 1)) begun

  pub goes_to_no_heading : g.rest ≡ [] → p.begun ≡ false → next_in old.begun old.count (texts_in bytes) ≡ Fails (p.count + 1)
  goes_to_no_heading none begun =
      g.same ∙ at_end none ∙ ap (λ (b : Bool). if b then Ends else Fails (p.count + 1)) begun

-- the refusal of a line is told where it fails
pub tells_broken : (old new : Place) (bytes : List ℕ) (more left : Option (List ℕ)) (number : ℕ) (e : ReadRefusal)
    → e ≡ BadInput number Script → next_in old.begun old.count (texts_in bytes) ≡ Fails number
    → Tells old new bytes more left (Err e)
tells_broken old new bytes more left number e is fails = rw is (fails, refl)
