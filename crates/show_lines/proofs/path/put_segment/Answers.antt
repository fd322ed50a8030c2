use Rattle.text_lines.proofs.PageLaws.{prints_first, prints_second}
use Rattle.show_lines.specs.Joined.{segment_text}
use Rattle.show_lines.proofs.path.put_segment.Goals as goal

pub returns-in_err-put_text : goal.returns-in_err-put_text
returns-in_err-put_text g c =
    prints_first _ _ _ _ _ _ _ _ c.from_residual.ensures.1 c.in_err-put_text.ensures

pub returns-in_err-put_text-2 : goal.returns-in_err-put_text-2
unfolding segment_text
returns-in_err-put_text-2 g c =
    prints_second _ _ _ _ _ _ _ _ _ c.in_ok-put_text.ensures
    (prints_first _ _ _ _ _ _ _ _ c.from_residual-in_err-put_text-2.ensures.1
    (rw c.name_of.ensures at c.in_err-put_text-2.ensures))

pub returns : goal.returns
unfolding segment_text
returns g c =
    prints_second _ _ _ _ _ _ _ _ _ c.in_ok-put_text.ensures
    (prints_second _ _ _ _ _ _ _ _ _ (rw c.name_of.ensures at c.in_ok-put_text-2.ensures)
    c.put_list.ensures)
