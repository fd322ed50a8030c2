use Rattle.text_lines.proofs.PageLaws.{prints_first, prints_second, prints_same}
use Rattle.show_lines.specs.Shown.{sample_text}
use Rattle.show_lines.proofs.Places.{records_shown}
use Rattle.show_lines.proofs.sample.put_sample.Goals as goal

pub returns-in_err-put_sample_front : goal.returns-in_err-put_sample_front
unfolding sample_text
returns-in_err-put_sample_front g c = λ f is.
    prints_first _ _ _ _ _ _ _ _ c.from_residual.ensures.1 (c.in_err-put_sample_front.ensures f is)

pub returns-in_err-put_line_end : goal.returns-in_err-put_line_end
unfolding sample_text
returns-in_err-put_line_end g c = λ f is.
    prints_second _ _ _ _ _ _ _ _ _ (c.in_ok-put_sample_front.ensures f is)
    (prints_first _ _ _ _ _ _ _ _ c.from_residual-in_err-put_line_end.ensures.1
    (rw c.tail_of.ensures at c.in_err-put_line_end.ensures))

pub returns : goal.returns
unfolding sample_text
returns g c = λ f is.
    prints_second _ _ _ _ _ _ _ _ _ (c.in_ok-put_sample_front.ensures f is)
    (prints_second _ _ _ _ _ _ _ _ _ (rw c.tail_of.ensures at c.in_ok-put_line_end.ensures)
    (prints_same _ _ _ _ _ _ _ (records_shown _ _ c.records.ensures) c.put_records.ensures))
