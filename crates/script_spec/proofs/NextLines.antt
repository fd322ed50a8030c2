-- Lines that say nothing are passed over.
use Rattle.std.proofs.Common.{◌≡◌, ◌+◌, ℕ, Bool, true, false, List, [], ◌∷◌, reverse, Some, None, Ok, Err, refl, ap, if◌then◌else◌}
use Rattle.std.specs.Prelude.{bytes_eq}
use Rattle.script_spec.specs.Words.{Text}
use Rattle.script_spec.specs.Lines.{Line}
use Rattle.script_spec.specs.Texts.{Shape, Skipped, Heading, Says, Shapeless, shape_of, is_in_bounds, is_skipped, heading}
use Rattle.script_spec.specs.Rules.{may_follow}
use Rattle.script_spec.specs.Scripts.{Behind, behind_shape, behind_text, read_on, reading_behind}
use Rattle.script_spec.specs.Steps.{Ends, Fails, by_shape, next_in, behind_line, reading_after}

-- a line says something only behind the heading
choice : (a : Bool) (x y : Shape) (line : Line) → (if a then x else y) ≡ Says line
    → (x ≡ Says line → ⊥) → (y ≡ Says line → ⊥) → ⊥
choice true x y line e left right = left e
choice false x y line e left right = right e

unsaid : (number : ℕ) (text : Text) (line : Line) → shape_of false number text ≡ Says line → ⊥
unfolding shape_of
unsaid number text line e =
    choice (is_in_bounds number text) _ _ line e
    (λ inside. choice (is_skipped text) _ _ line inside (λ bad. absurd cc)
    (λ other. choice (bytes_eq text heading) _ _ line other (λ bad. absurd cc) (λ bad. absurd cc)))
    (λ bad. absurd cc)

pub begun_by : (begun : Bool) (number : ℕ) (text : Text) (line : Line) → shape_of begun number text ≡ Says line → begun ≡ true
begun_by true number text line e = refl
begun_by false number text line e = absurd (unsaid number text line e)

at_end : (begun : Bool) (b : Behind) → (if begun then Ok (reverse b.lines) else Err (b.count + 1))
    ≡ reading_after b (if begun then Ends else Fails (b.count + 1))
at_end true b = refl
at_end false b = refl

-- the reading goes on with what comes next
pub reads_next : (b : Behind) (texts : List Text) → reading_behind b texts ≡ reading_after b (next_in b.begun b.count texts)
unfolding behind_text
reads_next b [] = at_end b.begun b
reads_next b (text ∷ more) =
    go (shape_of b.begun (b.count + 1) text) refl (λ next. reads_next next more)
  where
    go : (shape : Shape) → shape_of b.begun (b.count + 1) text ≡ shape
        → ((next : Behind) → reading_behind next more ≡ reading_after next (next_in next.begun next.count more))
        → read_on b (behind_shape b shape) (λ next. reading_behind next more)
        ≡ reading_after b (by_shape b.begun (b.count + 1) more (λ now. next_in now (b.count + 1) more) shape)
    go Skipped is others = others (record { count = b.count + 1; begun = b.begun; lines = b.lines })
    go Heading is others = others (record { count = b.count + 1; begun = true; lines = b.lines })
    go (Says line) is others = said (may_follow b.lines line) b.begun (begun_by b.begun _ text line is)
      where
        said : (may begun : Bool) → begun ≡ true
            → read_on b (if may then Some (record { count = b.count + 1; begun = begun; lines = line ∷ b.lines }) else None)
            (λ next. reading_behind next more)
            ≡ (if may then reading_behind (behind_line b line (b.count + 1)) more else Err (b.count + 1))
        said true begun e =
            ap (λ now. reading_behind (record { count = b.count + 1; begun = now; lines = line ∷ b.lines }) more) e
        said false begun e = refl
    go Shapeless is others = refl
