use Rattle.text_lines.proofs.PageLaws.{prints_first, prints_second}
use Rattle.show_lines.specs.FlowLines.{gateway_front}
use Rattle.show_lines.proofs.extended.put_gateway.Goals as goal

pub returns-in_err-put_route : goal.returns-in_err-put_route
unfolding gateway_front
returns-in_err-put_route g c =
    prints_first _ _ _ _ _ _ _ _ c.from_residual.ensures.1 c.in_err-put_route.ensures

pub returns-in_err-put_text : goal.returns-in_err-put_text
unfolding gateway_front
returns-in_err-put_text g c =
    prints_second _ _ _ _ _ _ _ _ _ c.in_ok-put_route.ensures
    (prints_first _ _ _ _ _ _ _ _ c.from_residual-in_err-put_text.ensures.1 c.in_err-put_text.ensures)

pub returns-in_err-put_path : goal.returns-in_err-put_path
unfolding gateway_front
returns-in_err-put_path g c =
    prints_second _ _ _ _ _ _ _ _ _ c.in_ok-put_route.ensures
    (prints_second _ _ _ _ _ _ _ _ _ c.in_ok-put_text.ensures
    (prints_first _ _ _ _ _ _ _ _ c.from_residual-in_err-put_path.ensures.1
    (rw c.path.ensures at c.in_err-put_path.ensures)))

pub returns-in_err-put_text-2 : goal.returns-in_err-put_text-2
unfolding gateway_front
returns-in_err-put_text-2 g c =
    prints_second _ _ _ _ _ _ _ _ _ c.in_ok-put_route.ensures
    (prints_second _ _ _ _ _ _ _ _ _ c.in_ok-put_text.ensures
    (prints_second _ _ _ _ _ _ _ _ _ (rw c.path.ensures at c.in_ok-put_path.ensures)
    (prints_first _ _ _ _ _ _ _ _ c.from_residual-in_err-put_text-2.ensures.1 c.in_err-put_text-2.ensures)))

pub returns-in_err-put_list : goal.returns-in_err-put_list
unfolding gateway_front
returns-in_err-put_list g c =
    prints_second _ _ _ _ _ _ _ _ _ c.in_ok-put_route.ensures
    (prints_second _ _ _ _ _ _ _ _ _ c.in_ok-put_text.ensures
    (prints_second _ _ _ _ _ _ _ _ _ (rw c.path.ensures at c.in_ok-put_path.ensures)
    (prints_second _ _ _ _ _ _ _ _ _ c.in_ok-put_text-2.ensures
    (prints_first _ _ _ _ _ _ _ _ c.from_residual-in_err-put_list.ensures.1
    (rw c.communities.ensures at c.in_err-put_list.ensures)))))

pub returns : goal.returns
unfolding gateway_front
returns g c =
    prints_second _ _ _ _ _ _ _ _ _ c.in_ok-put_route.ensures
    (prints_second _ _ _ _ _ _ _ _ _ c.in_ok-put_text.ensures
    (prints_second _ _ _ _ _ _ _ _ _ (rw c.path.ensures at c.in_ok-put_path.ensures)
    (prints_second _ _ _ _ _ _ _ _ _ c.in_ok-put_text-2.ensures
    (prints_second _ _ _ _ _ _ _ _ _ (rw c.communities.ensures at c.in_ok-put_list.ensures)
    c.put_line.ensures))))
