use Rattle.std.proofs.Common.{ap, sym, ◌∙◌}
use Rattle.wire_spec.specs.Texts.{address_text}
use Rattle.data_format.specs.Addresses.{address_of}
use Rattle.text_lines.proofs.PageLaws.{prints_same}
use Rattle.text_lines.proofs.page.Page.put_address.Goals as goal

pub returns-in-V4 : goal.returns-in-V4
returns-in-V4 g c =
    let text = c.as_bytes.ensures.value ∙ c.as_str.ensures.value ∙ c.dotted.ensures in
    let address = ap (λ a. address_text (address_of a)) c.in-V4.is in
    prints_same _ _ _ _ _ _ _ (text ∙ sym address) c.put-in-V4.ensures

pub returns-in-V6 : goal.returns-in-V6
returns-in-V6 g c =
    let address = ap (λ a. address_text (address_of a)) c.in-V6.is in
    prints_same _ _ _ _ _ _ _ (c.grouped.ensures ∙ sym address) c.put-in-V6.ensures
