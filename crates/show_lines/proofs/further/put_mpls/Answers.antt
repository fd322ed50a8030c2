use Rattle.text_lines.proofs.PageLaws.{prints_first, prints_second}
use Rattle.show_lines.specs.FurtherLines.{mpls_front}
use Rattle.show_lines.proofs.further.put_mpls.Goals as goal

pub returns-in_err-put_hop : goal.returns-in_err-put_hop
unfolding mpls_front
returns-in_err-put_hop g c =
    prints_first _ _ _ _ _ _ _ _ c.from_residual.ensures.1 c.in_err-put_hop.ensures

pub returns-in_err-put_list : goal.returns-in_err-put_list
unfolding mpls_front
returns-in_err-put_list g c =
    prints_second _ _ _ _ _ _ _ _ _ c.in_ok-put_hop.ensures
    (prints_first _ _ _ _ _ _ _ _ c.from_residual-in_err-put_list.ensures.1 c.in_err-put_list.ensures)

pub returns-in_err-put_text : goal.returns-in_err-put_text
unfolding mpls_front
returns-in_err-put_text g c =
    prints_second _ _ _ _ _ _ _ _ _ c.in_ok-put_hop.ensures
    (prints_second _ _ _ _ _ _ _ _ _ c.in_ok-put_list.ensures
    (prints_first _ _ _ _ _ _ _ _ c.from_residual-in_err-put_text.ensures.1 c.in_err-put_text.ensures))

pub returns : goal.returns
unfolding mpls_front
returns g c =
    prints_second _ _ _ _ _ _ _ _ _ c.in_ok-put_hop.ensures
    (prints_second _ _ _ _ _ _ _ _ _ c.in_ok-put_list.ensures
    (prints_second _ _ _ _ _ _ _ _ _ c.in_ok-put_text.ensures c.put_list-2.ensures))
