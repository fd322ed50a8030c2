use Rattle.std.proofs.Common.{List, map, ap, ◌∙◌}
use Rattle.wire_spec.specs.Captures.{Entry}
use Rattle.delivered_items.specs.PacketHeaders.{headered_entry}
use Rattle.delivered_items.proofs.Read.{all-good}
use Rattle.delivered_items.proofs.Headers.{all-headered}
use Rattle.delivered_items.proofs.laws.headers_are_those_of_the_packets.Goals as goal

pub returns : goal.returns
returns c = λ read reads records headers all_headers history ds entries r h is accepted d.
    ap (λ (es : List Entry). map (headered_entry reads all_headers) es) d.entries_are
    ∙ all-headered records headers all_headers h read reads r history ds (all-good history ds is accepted d.sent)
