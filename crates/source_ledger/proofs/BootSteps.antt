-- A ledger over boots that is told of a boot, and what it shows.
use Rattle.std.proofs.Common.{◌≡◌, ℕ, suc, ◌+◌, ◌<◌, ◌≤◌, List, [], ◌∷◌, length, refl, sym, ◌∙◌, ap, arith}
use Rattle.std.specs.List.{sum_by}
use Rattle.std.proofs.lemmas.List.Sums.{sum_by-cons}
use Rattle.count_spec.specs.Windows.{repeat_count, late_count}
use Rattle.books_spec.specs.Views.{Figures, figures_of, sum_of, view_with, plain_view}
use Rattle.source_ledger.specs.Marks.{MarksState}
use Rattle.source_ledger.specs.Marks as marks
use Rattle.source_ledger.specs.Boots.{BootsState, StandsFor, entered_boots}
use Rattle.source_ledger.proofs.Trims.{trim-length, trim-sum, trim-closed}

-- a sum over boots, behind a current one that is empty
sum-trimmed : (f : List ℕ → ℕ) (closed : List (List ℕ)) → f [] ≡ 0
    → sum_by f ([] ∷ entered_boots closed) ≡ sum_by f ([] ∷ closed)
sum-trimmed f closed none =
    let few = sum_by-cons f [] (entered_boots closed) in
    let all = sum_by-cons f [] closed in
    let same = trim-sum f closed none in
    omega (arith, few, all, same)

-- closed boots without a mark don't matter
untrimmed : (s : MarksState) (closed : List (List ℕ)) → marks.StandsFor s ([] ∷ entered_boots closed)
    → marks.StandsFor s ([] ∷ closed)
untrimmed s closed st = record {
  all_entered = st.all_entered ∙ sum-trimmed length closed refl;
  width_is = st.width_is;
  window_stands = st.window_stands;
  issued_is = st.issued_is ∙ ap (λ (f : Figures). f.issued) (sym (trim-closed s.width closed));
  received_is = st.received_is ∙ ap (λ (f : Figures). f.received) (sym (trim-closed s.width closed));
  lost_is = st.lost_is ∙ ap (λ (f : Figures). f.lost) (sym (trim-closed s.width closed));
  repeated_are = st.repeated_are ∙ sum-trimmed (repeat_count s.width) closed refl;
  late_are = st.late_are ∙ sum-trimmed (late_count s.width) closed refl;
}

-- a later boot, where the last one was closed
pub later-boot : (old : BootsState) (new : MarksState) (current : List ℕ) (closed : List (List ℕ))
    → old.boot < length closed + 1 → StandsFor old (current ∷ closed)
    → ((stretches : List (List ℕ)) → marks.StandsFor old.marks stretches → marks.StandsFor new ([] ∷ stretches))
    → marks.StandsFor new (current ∷ closed)
later-boot old new (x ∷ more) closed later st closes =
    let is : old.boot ≡ suc (length closed) = st.boot_is in absurd (omega arith)
later-boot old new [] closed later st closes = untrimmed new closed (closes (entered_boots closed) st.marks_stand)

-- the last boot goes on
pub same-boot : (s : BootsState) (boots : List (List ℕ)) → length boots ≤ s.boot → StandsFor s boots
    → marks.StandsFor s.marks boots
same-boot s [] last st = st.marks_stand
same-boot s ([] ∷ closed) last st =
    let is : s.boot ≡ length (entered_boots closed) = st.boot_is in
    let few = trim-length closed in
    absurd (omega (arith, few))
same-boot s ((x ∷ more) ∷ closed) last st = st.marks_stand

-- the view of boots, the last of which has no mark
pub view-trimmed : (s : BootsState) (width : ℕ) (boots : List (List ℕ)) → s.boot < length boots → StandsFor s boots
    → plain_view width ([] ∷ entered_boots boots) ≡ plain_view width boots
view-trimmed s width [] later st = absurd (omega arith)
view-trimmed s width ([] ∷ closed) later st =
    ap (λ (f : Figures). view_with (sum_of (figures_of width []) f) 0 0 0) (sym (trim-closed width closed))
view-trimmed s width ((x ∷ more) ∷ closed) later st =
    let is : s.boot ≡ suc (length closed) = st.boot_is in absurd (omega arith)
