use Rattle.std.proofs.Common.{List, map, ap, ◌∙◌}
use Rattle.wire_spec.specs.Captures.{Entry}
use Rattle.delivered_items.specs.Readers.{entry_item}
use Rattle.delivered_items.proofs.Read.{all-good, all-items}
use Rattle.delivered_items.proofs.laws.entries_are_the_deliveries.Goals as goal

pub returns : goal.returns
returns c = λ read reads history ds entries r h k d.
    ap (λ (es : List Entry). map (entry_item reads) es) d.entries_are
    ∙ all-items read reads r history ds (all-good history ds h k d.sent)
