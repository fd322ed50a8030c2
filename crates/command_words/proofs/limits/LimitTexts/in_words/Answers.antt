use Rattle.command_words.proofs.Asked.{same_texts}
use Rattle.command_words.proofs.limits.LimitTexts.in_words.Goals as goal

pub returns : goal.returns
returns c = λ pieces are.
    same_texts (c.text.ensures pieces are) (c.text-2.ensures pieces are) (c.text-3.ensures pieces are)
    (c.text-4.ensures pieces are) (c.text-5.ensures pieces are)
