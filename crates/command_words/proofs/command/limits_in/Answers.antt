use Rattle.std.proofs.Common.{◌∙◌, codes, refl, ap}
use Rattle.command_words.specs.Limits.{limits_asked}
use Rattle.command_words.proofs.Asked.{same_texts}
use Rattle.command_words.proofs.command.limits_in.Goals as goal

pub returns : goal.returns
returns c = λ more pieces holds.
    c.limits.ensures
    ∙ ap limits_asked (c.in_matches.ensures
    ∙ same_texts (holds.options (codes "streams") refl) (holds.options (codes "sources") refl)
    (holds.options (codes "datagram-width") refl) (holds.options (codes "sample-width") refl)
    (holds.options (codes "boot-slack") refl))
