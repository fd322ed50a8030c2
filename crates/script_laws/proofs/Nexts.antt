-- A line that comes next stands behind lines that say nothing.
use Rattle.std.proofs.Common.{◌≡◌, ◌∙◌, ◌+◌, ℕ, Bool, true, false, List, [], ◌∷◌, Option, Some, refl, ap, sym, if◌then◌else◌}
use Rattle.std.specs.Prelude.{option_and_then}
use Rattle.script_spec.specs.Words.{Text}
use Rattle.script_spec.specs.Lines.{Line}
use Rattle.script_spec.specs.Texts.{Shape, Skipped, Heading, Says, Shapeless, shape_of}
use Rattle.script_spec.specs.Scripts.{Behind, behind_shape, behind_text, behind_texts}
use Rattle.script_spec.specs.Steps.{Gives, Ends, Fails, by_shape, next_in}
use Rattle.script_spec.proofs.NextLines.{begun_by}
use Rattle.script_laws.specs.Given.{IsGiven}

end_gives : (begun : Bool) (count : ℕ) (line : Line) (number : ℕ) (more : List Text)
    → (if begun then Ends else Fails count) ≡ Gives line number more → ⊥
end_gives true count line number more e = absurd cc
end_gives false count line number more e = absurd cc

gives_line : (x y : Line) (m n : ℕ) (r s : List Text) → Gives x m r ≡ Gives y n s → x ≡ y
gives_line x y m n r s e = cc

gives_number : (x y : Line) (m n : ℕ) (r s : List Text) → Gives x m r ≡ Gives y n s → m ≡ n
gives_number x y m n r s e = cc

gives_more : (x y : Line) (m n : ℕ) (r s : List Text) → Gives x m r ≡ Gives y n s → r ≡ s
gives_more x y m n r s e = cc

one_passed : (b next : Behind) (text : Text) (rest : List Text) (line : Line) (number : ℕ) (more : List Text)
    → behind_text b text ≡ Some next → next.lines ≡ b.lines → IsGiven next rest line number more
    → IsGiven b (text ∷ rest) line number more
one_passed b next text rest line number more is same g = record {
  skipped = text ∷ g.skipped;
  text = g.text;
  last = g.last;
  whole = ap (λ (l : List Text). text ∷ l) g.whole;
  kept = ap (λ (o : Option Behind). option_and_then (λ n. behind_texts n g.skipped) o) is ∙ g.kept;
  lines = g.lines ∙ same;
  begun = g.begun;
  number_is = g.number_is;
  says = g.says;
}

pub given : (b : Behind) (texts : List Text) (line : Line) (number : ℕ) (more : List Text)
    → next_in b.begun b.count texts ≡ Gives line number more → IsGiven b texts line number more
unfolding behind_text
given b [] line number more e = absurd (end_gives b.begun (b.count + 1) line number more e)
given b (text ∷ rest) line number more e =
    go (shape_of b.begun (b.count + 1) text) refl (λ next. given next rest line number more) e
  where
    go : (shape : Shape) → shape_of b.begun (b.count + 1) text ≡ shape
        → ((next : Behind) → next_in next.begun next.count rest ≡ Gives line number more → IsGiven next rest line number more)
        → by_shape b.begun (b.count + 1) rest (λ now. next_in now (b.count + 1) rest) shape ≡ Gives line number more
        → IsGiven b (text ∷ rest) line number more
    go Skipped is others h =
        one_passed b (record { count = b.count + 1; begun = b.begun; lines = b.lines }) text rest line number more
        (ap (behind_shape b) is) refl (others (record { count = b.count + 1; begun = b.begun; lines = b.lines }) h)
    go Heading is others h =
        one_passed b (record { count = b.count + 1; begun = true; lines = b.lines }) text rest line number more
        (ap (behind_shape b) is) refl (others (record { count = b.count + 1; begun = true; lines = b.lines }) h)
    go (Says said) is others h =
        let begun : b.begun ≡ true = begun_by b.begun (b.count + 1) text said is in
        let count : b.count + 1 ≡ number = gives_number said line (b.count + 1) number rest more h in
        let same : said ≡ line = gives_line said line (b.count + 1) number rest more h in
        record {
          skipped = [];
          text = text;
          last = b;
          whole = ap (λ (l : List Text). text ∷ l) (gives_more said line (b.count + 1) number rest more h);
          kept = refl;
          lines = refl;
          begun = begun;
          number_is = sym count;
          says =
              ap (λ (n : ℕ). shape_of true n text) (sym count)
              ∙ ap (λ (x : Bool). shape_of x (b.count + 1) text) (sym begun) ∙ is ∙ ap (λ (l : Line). Says l) same;
        }
    go Shapeless is others h = absurd cc
