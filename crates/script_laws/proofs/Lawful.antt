-- The lines of a script are lawful.
use Rattle.std.proofs.Common.{◌≡◌, ◌∙◌, ◌+◌, ℕ, Bool, true, false, List, [], ◌∷◌, reverse, Option, Some, None, refl, ap, sym, subst, if◌then◌else◌}
use Rattle.std.specs.Prelude.{bytes_eq, option_and_then}
use Rattle.std.proofs.lemmas.Option.{same_Some}
use Rattle.std.proofs.lemmas.List.{reverse-reverse}
use Rattle.script_spec.specs.Words.{Text}
use Rattle.script_spec.specs.Lines.{Line}
use Rattle.script_spec.specs.Forms.{line_in}
use Rattle.script_spec.specs.Texts.{Shape, Skipped, Heading, Says, Shapeless, shape_of, unskipped_shape, said, is_in_bounds, is_skipped, heading, texts_in}
use Rattle.script_spec.specs.Rules.{may_follow}
use Rattle.script_spec.specs.Scripts.{Behind, nothing_yet, behind_shape, behind_text, behind_texts}
use Rattle.script_laws.specs.Lawful.{AreLawful, ScriptsAreLawful}
use Rattle.script_laws.proofs.Lining.{line_said}

choice : (a : Bool) (x y : Shape) (line : Line) (P : Type 0) → (if a then x else y) ≡ Says line
    → (x ≡ Says line → P) → (y ≡ Says line → P) → P
choice true x y line P e left right = left e
choice false x y line P e left right = right e

said_line : (o : Option Line) (line : Line) → said o ≡ Says line → o ≡ Some line
said_line None line e = absurd cc
said_line (Some l) line e = ap (λ (s : Shape). Some (line_of s)) e
  where
    line_of : Shape → Line
    line_of Skipped = l
    line_of Heading = l
    line_of (Says x) = x
    line_of Shapeless = l

-- a line that says something was read
pub line_of_shape : (begun : Bool) (number : ℕ) (text : Text) (line : Line) → shape_of begun number text ≡ Says line
    → line_in text ≡ Some line
unfolding shape_of
line_of_shape begun number text line e =
    choice (is_in_bounds number text) _ _ line _ e
    (λ inside. choice (is_skipped text) _ _ line _ inside (λ bad. absurd cc) (go begun))
    (λ bad. absurd cc)
  where
    go : (b : Bool) → unskipped_shape b text ≡ Says line → line_in text ≡ Some line
    go true h = said_line (line_in text) line h
    go false h = choice (bytes_eq text heading) _ _ line _ h (λ bad. absurd cc) (λ bad. absurd cc)

pub lawful_shape : (b : Behind) (text : Text) (shape : Shape) (q : Behind) → AreLawful b.lines
    → shape_of b.begun (b.count + 1) text ≡ shape → behind_shape b shape ≡ Some q → AreLawful q.lines
lawful_shape b text Skipped q h is e = subst (λ (x : Behind). AreLawful x.lines) (same_Some _ _ e) h
lawful_shape b text Heading q h is e = subst (λ (x : Behind). AreLawful x.lines) (same_Some _ _ e) h
lawful_shape b text (Says line) q h is e = go (may_follow b.lines line) refl e
  where
    go : (may : Bool) → may_follow b.lines line ≡ may
        → (if may then Some (record { count = b.count + 1; begun = b.begun; lines = line ∷ b.lines }) else None) ≡ Some q
        → AreLawful q.lines
    go true may made =
        let written = (line_said text line (line_of_shape b.begun (b.count + 1) text line is)).may in
        subst (λ (x : Behind). AreLawful x.lines) (same_Some _ _ made) (written, may, h)
    go false may made = absurd cc
lawful_shape b text Shapeless q h is e = absurd cc

lawful_text : (b : Behind) (text : Text) (q : Behind) → AreLawful b.lines → behind_text b text ≡ Some q → AreLawful q.lines
unfolding behind_text
lawful_text b text q h e = lawful_shape b text (shape_of b.begun (b.count + 1) text) q h refl e

pub lawful_texts : (b : Behind) (texts : List Text) (q : Behind) → AreLawful b.lines → behind_texts b texts ≡ Some q
    → AreLawful q.lines
lawful_texts b [] q h e = subst (λ (x : Behind). AreLawful x.lines) (same_Some _ _ e) h
lawful_texts b (text ∷ more) q h e = go (behind_text b text) refl (λ next. lawful_texts next more q) e
  where
    go : (o : Option Behind) → behind_text b text ≡ o
        → ((next : Behind) → AreLawful next.lines → behind_texts next more ≡ Some q → AreLawful q.lines)
        → option_and_then (λ next. behind_texts next more) o ≡ Some q → AreLawful q.lines
    go None is others made = absurd cc
    go (Some next) is others made = others next (lawful_text b text next h is) made

pub lawful_scripts : ScriptsAreLawful
lawful_scripts bytes lines s =
    subst AreLawful (sym (ap reverse s.said ∙ reverse-reverse s.last.lines))
    (lawful_texts nothing_yet (texts_in bytes) s.last tt s.kept)
