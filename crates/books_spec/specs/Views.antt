-- What the books show of a stream or a source: sums over stretches, as over the boots of its stream.
-- A stretch is the list of the items that were entered in it, the LATEST FIRST, and may be empty. Stretches are a list
-- with the current one first; the others are closed. A mark is the sequence word of an item (sFlow Version 5,
-- section 5).
use Rattle.std.specs.Prelude.{ℕ, ◌+◌, List, [], ◌∷◌, map}
use Rattle.std.specs.List.{sum_by}
use Rattle.count_spec.specs.Windows.{counted, repeat_count, late_count}
use Rattle.count_spec.specs.Parts.{Parts, parts}
use Rattle.count_spec.specs.Rise.{value_at_greatest, rise, first_values}
use Rattle.books_spec.specs.declared.ledger_view.LedgerView.{LedgerView}

-- what the marks of a stream or a source come to
pub record Figures : Type 0 where
  -- the numbers issued, and how many of them were received, are pending, and are lost
  pub issued : ℕ
  pub received : ℕ
  pub pending : ℕ
  pub lost : ℕ
  -- how many marks brought a number once more, and how many came too late
  pub repeated : ℕ
  pub late : ℕ

-- the figures of nothing
abbrev pub no_figures : Figures
no_figures = record { issued = 0; received = 0; pending = 0; lost = 0; repeated = 0; late = 0 }

-- the figures of the marks of one stretch
abbrev pub figures_of : ℕ → List ℕ → Figures
figures_of width marks =
    let p : Parts = parts width (counted width marks) in
    record {
      issued = p.issued;
      received = p.received;
      pending = p.pending;
      lost = p.lost;
      repeated = repeat_count width marks;
      late = late_count width marks;
    }

-- the figures once the stretch is closed: what was pending is lost
abbrev pub closing : Figures → Figures
closing f = record f { pending = 0; lost = f.lost + f.pending }

-- the sums of two figures each
abbrev pub sum_of : Figures → Figures → Figures
sum_of f g = record {
  issued = f.issued + g.issued;
  received = f.received + g.received;
  pending = f.pending + g.pending;
  lost = f.lost + g.lost;
  repeated = f.repeated + g.repeated;
  late = f.late + g.late;
}

-- the sums of the figures of closed stretches
abbrev pub closed_sum : List Figures → Figures
closed_sum [] = no_figures
closed_sum (f ∷ more) = sum_of (closing f) (closed_sum more)

-- the sums of the figures of stretches
abbrev pub sum_over : List Figures → Figures
sum_over [] = no_figures
sum_over (current ∷ closed) = sum_of current (closed_sum closed)

-- the figures of the marks of closed stretches
abbrev pub closed_figures : ℕ → List (List ℕ) → Figures
closed_figures width stretches = closed_sum (map (figures_of width) stretches)

-- the figures of the marks of stretches
abbrev pub figures_over : ℕ → List (List ℕ) → Figures
figures_over width stretches = sum_over (map (figures_of width) stretches)

-- the marks of the items of each stretch
abbrev pub marks_in : {X : Type 0} → (X → ℕ) → List (List X) → List (List ℕ)
marks_in mark stretches = map (map mark) stretches

-- the rise of a value over the stretches, each for itself
abbrev pub rise_over : {X : Type 0} → (X → ℕ) → (X → ℕ) → ℕ → List (List X) → ℕ
rise_over mark value width stretches = sum_by (λ stretch. rise (first_values mark value width stretch)) stretches

-- the value at the greatest number of the last stretch that has an item
abbrev pub last_value : {X : Type 0} → (X → ℕ) → (X → ℕ) → ℕ → List (List X) → ℕ
last_value mark value width [] = 0
last_value mark value width ([] ∷ closed) = last_value mark value width closed
last_value mark value width ((x ∷ more) ∷ closed) =
    value_at_greatest (first_values mark value width (x ∷ more))

-- these figures, the rise of the sample pool and of the drops, and the sampling rate
abbrev pub view_with : Figures → ℕ → ℕ → ℕ → LedgerView
view_with f pool drops rate = record {
  issued = f.issued;
  received = f.received;
  pending = f.pending;
  lost = f.lost;
  repeated = f.repeated;
  late = f.late;
  pool = pool;
  drops = drops;
  rate = rate;
}

-- the view of the marks of a stream, or of a source of counters samples
abbrev pub plain_view : ℕ → List (List ℕ) → LedgerView
plain_view width stretches = view_with (figures_over width stretches) 0 0 0

-- the view of a source of flow samples
abbrev pub flow_view : {X : Type 0} → (X → ℕ) → (X → ℕ) → (X → ℕ) → (X → ℕ) → ℕ → List (List X) → LedgerView
flow_view mark pool drops rate width stretches =
    view_with (figures_over width (marks_in mark stretches)) (rise_over mark pool width stretches)
    (rise_over mark drops width stretches) (last_value mark rate width stretches)
