-- The lines of interfaces, and the whole report. Each line ends with a line feed.
use Rattle.std.specs.Prelude.{ℕ, Bool, true, false, Option, Some, None, List, [], ◌∷◌, ◌++◌, codes, decimal, flat_map, slice_index}
use Rattle.std.specs.List.{concat}
use Rattle.books_spec.specs.WholeBooks.{WholeBooks, InterfaceLine}
use Rattle.books_spec.specs.declared.totals.Totals.{Totals}
use Rattle.sample_taps.specs.declared.class_totals.ClassTotals.{ClassTotals}
use Rattle.report_lines.specs.HeaderLines.{ShownTaps, class_text}
use Rattle.report_lines.specs.Reports.{stream_texts, source_texts, end_text}

-- by how much this counter rose, counted from 0
abbrev pub risen : InterfaceLine → ℕ → List ℕ
risen i place = decimal (slice_index i.view.rises place)

-- the line of an interface of a source
unfoldable pub interface_text : InterfaceLine → List ℕ
interface_text i = concat (
    codes "if " ∷ decimal i.stream ∷
    codes " " ∷ decimal i.id.class ∷
    codes ":" ∷ decimal i.id.index ∷
    codes " samples " ∷ decimal i.view.samples ∷
    codes " in " ∷ risen i 0 ∷
    codes " " ∷ risen i 1 ∷
    codes " " ∷ risen i 2 ∷
    codes " " ∷ risen i 3 ∷
    codes " " ∷ risen i 4 ∷
    codes " " ∷ risen i 5 ∷
    codes " " ∷ risen i 6 ∷
    codes " out " ∷ risen i 7 ∷
    codes " " ∷ risen i 8 ∷
    codes " " ∷ risen i 9 ∷
    codes " " ∷ risen i 10 ∷
    codes " " ∷ risen i 11 ∷
    codes " " ∷ risen i 12 ∷
    codes "\n" ∷ [])

-- and nothing of a source that shows none
abbrev pub line_text : Option InterfaceLine → List ℕ
line_text None = []
line_text (Some i) = interface_text i

-- the lines of these interfaces
abbrev pub interface_texts : List InterfaceLine → List ℕ
interface_texts interfaces = flat_map interface_text interfaces

-- where they are asked for
abbrev pub lines_if : Bool → List InterfaceLine → List ℕ
lines_if false interfaces = []
lines_if true interfaces = interface_texts interfaces

-- what stands behind the lines of streams, sources and interfaces: the line of the classes of headers, those of the
-- consumers, and the end
abbrev pub tail_text : Totals → ClassTotals → ShownTaps → List ℕ
tail_text t classes taps = class_text classes ++ (taps.lines ++ end_text t taps.ended)

-- the report of these books, of the classes of the headers that count, and of the consumers, with the lines of interfaces
-- behind those of all sources where they are asked for
unfoldable pub report_with : Bool → WholeBooks → ClassTotals → ShownTaps → List ℕ
report_with interfaces b classes taps =
    stream_texts 1 b.streams
    ++ (source_texts b.sources ++ (lines_if interfaces b.interfaces ++ tail_text b.totals classes taps))
