use Rattle.text_lines.proofs.PageLaws.{prints_first, prints_second, prints_same}
use Rattle.show_lines.proofs.Lists.{path_none, path_more}
use Rattle.show_lines.proofs.path.put_path.Goals as goal

pub returns-in-None : goal.returns-in-None
returns-in-None g c =
    prints_same _ _ _ _ _ _ _ (path_none _ c.in-None.ensures.none.0) c.put_text.ensures

pub returns-in_err-put_segment-in-Some : goal.returns-in_err-put_segment-in-Some
returns-in_err-put_segment-in-Some g c =
    prints_same _ _ _ _ _ _ _ (path_more _ _ _ c.in-Some.ensures.some)
    (prints_first _ _ _ _ _ _ _ _ c.from_residual.ensures.1 c.in_err-put_segment-in-Some.ensures)

pub returns-in_ok-put_segment-in-Some : goal.returns-in_ok-put_segment-in-Some
returns-in_ok-put_segment-in-Some g c =
    prints_same _ _ _ _ _ _ _ (path_more _ _ _ c.in-Some.ensures.some)
    (prints_second _ _ _ _ _ _ _ _ _ c.in_ok-put_segment-in-Some.ensures c.put_segments.ensures)
