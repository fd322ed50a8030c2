use Rattle.std.proofs.Common.{◌∙◌, List, ℕ, Option, Bor, ap, sym, arith}
use Rattle.std.specs.Prelude.{option_map}
use Rattle.script_words.specs.Taken.{words_in}
use Rattle.relay_out.proofs.Cuts.{cut_some, cut_none}
use Rattle.relay_out.proofs.parts.Parts.next.Goals as goal

pub returns-in-Some : goal.returns-in-Some
returns-in-Some c =
    let shown = ap (λ (l : Option (Bor (List ℕ))). words_in 59 (option_map (λ (t : Bor (List ℕ)). t.now) l)) c.in_ok-text.was in
    let cut = c.in-Some.ensures.byte (omega arith) (λ w o found. found) in
    sym c.self.view_is ∙ shown ∙ cut_some 59 c.in_ok-text.text.now c.in-Some.part.now c.in-Some.rest.now cut.0 cut.1 cut.2

pub returns-in-None : goal.returns-in-None
returns-in-None c =
    let shown = ap (λ (l : Option (Bor (List ℕ))). words_in 59 (option_map (λ (t : Bor (List ℕ)). t.now) l)) c.in_ok-text.was in
    let all = c.in-None.ensures.byte (omega arith) (λ w o found. found) in
    sym c.self.view_is ∙ shown ∙ cut_none 59 c.in_ok-text.text.now all
