use Rattle.std.proofs.Common.{◌≡◌, ◌∙◌, ap}
use Rattle.script_spec.specs.Words.{is_numeral}
use Rattle.script_words.specs.Taken.{value64}
use Rattle.script_words.proofs.Numerals.{numeral_parsed, numeral_is_text}
use Rattle.script_words.proofs.numbers.value_of.Goals as goal

pub returns-in-Ok : goal.returns-in-Ok
returns-in-Ok c =
    let same : c.in-Ok.text.now ≡ c.args.numeral.now = c.in-Ok.ensures.cases.0 in
    c.ok.ensures.value
    ∙ numeral_parsed c.in-Ok.text.now c.parse.result (ap is_numeral same ∙ c.requires) c.parse.ensures.value.0
    ∙ ap value64 same

pub returns-in-Err : goal.returns-in-Err
returns-in-Err c = absurd (c.in-Err.ensures.cases.0 (numeral_is_text c.args.numeral.now c.requires))
