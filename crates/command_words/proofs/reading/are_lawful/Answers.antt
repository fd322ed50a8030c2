use Rattle.std.proofs.Common.{◌∙◌, string_bytes}
use Rattle.command_words.proofs.Counting.{lawful-counts, lawful-no_rules}
use Rattle.command_words.proofs.reading.are_lawful.Goals as goal

pub returns-then-is_empty : goal.returns-then-is_empty
returns-then-is_empty c =
    c.is_empty-then-is_empty.ensures
    ∙ lawful-no_rules string_bytes c.args.arguments.now c.args.words.now c.if-is_empty.ensures

pub returns-else-is_empty : goal.returns-else-is_empty
returns-else-is_empty c = c.all_stand.ensures ∙ lawful-counts c.args.arguments.now _ c.if-is_empty.ensures
