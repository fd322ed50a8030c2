use Rattle.std.proofs.Common.{◌≡◌, ◌∙◌, ℕ, List, take, flat_map, ap, subst, arith}
use Rattle.std.proofs.lemmas.List.{take_all}
use Rattle.books_spec.specs.Items.{Source}
use Rattle.text_lines.specs.Pages.{Puts}
use Rattle.books_spec.specs.Books.{listed_sources}
use Rattle.books_spec.specs.WholeBooks.{interface_line}
use Rattle.text_lines.proofs.PageLaws.{prints_same}
use Rattle.report_lines.specs.InterfaceLines.{line_text}
use Rattle.sflow_tool.proofs.InterfaceTexts.{stands_at, lines-of, next_put, next_fails}
use Rattle.sflow_tool.proofs.interfaces.put_interfaces.Goals as goal

pub loop-place-preserved : goal.loop-place-preserved
loop-place-preserved g c = record {
  put = λ l items stands.
      let k = stands_at (listed_sources l items) c.loop-place.place c.source_count-place-end.result c.loop-place-test.true
      (c.source_count-place-end.ensures.sources l items stands) in
      next_put (λ x. line_text (interface_line l items x)) _ _ _ _ _ _ (listed_sources l items) c.loop-place.place k.0 k.1
      (c.loop-place.invariant.put l items stands) (c.in_ok-put_interface_at.ensures l items k.0 stands k.1);
}

pub returns-in_err-put_interface_at : goal.returns-in_err-put_interface_at
returns-in_err-put_interface_at g c = λ l items stands.
    let k = stands_at (listed_sources l items) c.loop-place.place c.source_count-place-end.result c.loop-place-test.true
    (c.source_count-place-end.ensures.sources l items stands) in
    prints_same _ _ _ _ _ _ _ (lines-of (interface_line l items) (listed_sources l items))
    (next_fails (λ x. line_text (interface_line l items x)) _ _ _ _ _ _ (listed_sources l items) c.loop-place.place k.0 k.1
    (c.loop-place.invariant.put l items stands) _ _ c.from_residual.ensures.1
    (c.in_err-put_interface_at.ensures l items k.0 stands k.1))

pub returns : goal.returns
returns g c = λ l items stands.
    let listed : List Source = listed_sources l items in
    let n = c.source_count-place-end.ensures.sources l items stands in
    let past = c.loop-place-test.false in
    let text : Source → List ℕ = λ x. line_text (interface_line l items x) in
    let whole : take c.loop-place.place listed ≡ listed = take_all c.loop-place.place listed (omega (arith, n, past)) in
    let P : List ℕ → Type 0 = λ t. Puts (g.K.Sink.seen c.args.sink.now) (g.K.Sink.seen c.loop-place.sink) c.args.page.now
    c.loop-place.page t in
    subst P (ap (flat_map text) whole ∙ lines-of (interface_line l items) listed) (c.loop-place.invariant.put l items stands)
