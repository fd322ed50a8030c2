use Rattle.std.proofs.Common.{◌≡◌, ◌∙◌, ◌+◌, ◌-◌, ◌∷◌, List, ℕ, Option, length, take, drop, ap, sym, arith, length-drop, Bor}
use Rattle.std.specs.Prelude.{option_map}
use Rattle.std.proofs.lemmas.List.{take_all}
use Rattle.script_spec.specs.Parts.{split_at}
use Rattle.script_words.specs.Taken.{words_in}
use Rattle.script_words.proofs.Splits.{split_first, split_last}
use Rattle.script_words.proofs.words.Words.next.Goals as goal

pub returns-then-at-text : goal.returns-then-at-text
returns-then-at-text c =
    let text : List ℕ = c.in_ok-text.text.now in
    let behind : ℕ = c.length_before-at.result + 1 in
    let whole : take (length text - behind) (drop behind text) ≡ drop behind text =
    take_all (length text - behind) (drop behind text) (omega (arith, length-drop behind text)) in
    let shown = ap (λ (l : Option (Bor (List ℕ))). words_in c.self.inside.separator (option_map (λ (t : Bor (List ℕ)). t.now) l)) c.in_ok-text.was in
    let split = split_first c.self.inside.separator c.length_before-at.result text c.length_before-at.ensures c.if-at-text.true in
    sym c.self.view_is ∙ shown ∙ split ∙ ap (λ rest. take c.length_before-at.result text ∷ split_at c.self.inside.separator rest) (sym whole)

pub returns-else-at-text : goal.returns-else-at-text
returns-else-at-text c =
    let shown = ap (λ (l : Option (Bor (List ℕ))). words_in c.self.inside.separator (option_map (λ (t : Bor (List ℕ)). t.now) l)) c.in_ok-text.was in
    sym c.self.view_is ∙ shown
    ∙ split_last c.self.inside.separator c.length_before-at.result c.in_ok-text.text.now c.length_before-at.ensures c.if-at-text.false
