use Rattle.std.proofs.Common.{◌∙◌}
use Rattle.command_words.proofs.Numerals.{numeral_parsed}
use Rattle.command_words.proofs.number.number_in.Goals as goal

pub returns-then-is_numeral : goal.returns-then-is_numeral
returns-then-is_numeral c =
    c.ok.ensures.value ∙ numeral_parsed 32 c.args.text.now c.parse.result c.if-is_numeral.ensures c.parse.ensures.value.0
