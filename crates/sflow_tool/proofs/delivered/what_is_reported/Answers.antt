use Rattle.std.proofs.Common.{false, ap, ◌∙◌}
use Rattle.books_spec.specs.WholeBooks.{WholeBooks}
use Rattle.account_spec.specs.Rows.{usual}
use Rattle.delivered_items.specs.WholeRows.{whole_account, whole_deliveries}
use Rattle.delivered_items.specs.AccountHeaders.{account_classes}
use Rattle.sample_taps.specs.declared.class_totals.ClassTotals.{ClassTotals}
use Rattle.report_lines.specs.HeaderLines.{no_taps}
use Rattle.report_lines.specs.InterfaceLines.{report_with}
use Rattle.sflow_tool.proofs.HeadlineRows.{written}
use Rattle.sflow_tool.proofs.delivered.what_is_reported.Goals as goal

pub returns : goal.returns
returns c =
    ap (λ (b : WholeBooks). report_with false b (account_classes usual whole_deliveries) no_taps) c.whole_account_row.ensures
    ∙ ap (λ (t : ClassTotals). report_with false whole_account t no_taps) c.whole_classes_row.ensures.account
    ∙ written
