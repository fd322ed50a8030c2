use Rattle.std.proofs.Common.{rules, ◌≡◌, ◌∙◌, ◌++◌, codes, ap}
use Rattle.text_lines.proofs.PageLaws.{prints_same}
use Rattle.report_lines.proofs.tap_lines.put_tap.Goals as goal

pub returns : goal.returns
returns g c =
    let same : c.as_str.result.now ≡ c.line-line.result.bytes = search rules in (
      c.line-line.ensures.0,
      c.line-line.ensures.1,
      prints_same _ _ _ _ _ _ _ (ap (λ l. l ++ codes "\n") (same ∙ c.line-line.ensures.2)) c.put_line.ensures,
    )
