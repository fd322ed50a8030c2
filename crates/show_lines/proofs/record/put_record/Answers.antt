use Rattle.text_lines.proofs.PageLaws.{prints_first, prints_second}
use Rattle.show_lines.specs.Shown.{record_text}
use Rattle.show_lines.proofs.record.put_record.Goals as goal

pub returns-in_err-put_record_front : goal.returns-in_err-put_record_front
unfolding record_text
returns-in_err-put_record_front g c = λ kind has.
    prints_first _ _ _ _ _ _ _ _ c.from_residual.ensures.1 (c.in_err-put_record_front.ensures kind has)

pub returns : goal.returns
unfolding record_text
returns g c = λ kind has.
    prints_second _ _ _ _ _ _ _ _ _ (c.in_ok-put_record_front.ensures kind has)
    (rw c.tail_of.ensures at c.put_line_end.ensures)
