use Rattle.std.proofs.Common.{◌∙◌, sym}
use Rattle.std.proofs.lemmas.Option.{same_Some}
use Rattle.command_words.proofs.LawfulReading.{lawful_read, read_lawful}
use Rattle.command_words.proofs.laws.lawful_words_have_one_reading.Goals as goal

pub returns-clause-read : goal.returns-clause-read
returns-clause-read c rules words pieces fine =
    (λ read. read_lawful rules words pieces read, λ spelled. lawful_read rules words pieces fine spelled.0 spelled.1)

pub returns-clause-one : goal.returns-clause-one
returns-clause-one c rules words pieces others fine lawful spelled lawful-2 spelled-2 =
    same_Some _ _ (sym (lawful_read rules words pieces fine lawful spelled) ∙ lawful_read rules words others fine lawful-2 spelled-2)
