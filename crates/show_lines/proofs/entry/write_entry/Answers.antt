use Rattle.text_lines.proofs.PageLaws.{page_written}
use Rattle.show_lines.proofs.entry.write_entry.Goals as goal

pub returns : goal.returns
returns g c =
    page_written _ _ _ _ _ _ _ _ c.new-page.ensures c.in_ok-put_received.ensures c.flush.ensures
