-- What a datagram feeds when it is taken.
use Rattle.std.proofs.Common.{◌≡◌, ◌∙◌, ℕ, ℤ, Bool, false, List, [], ◌++◌, map, refl, sym, ap, subst}
use Rattle.std.proofs.lemmas.List.{append-nil}
use Rattle.data_format.specs.Trees.{frame_trees}
use Rattle.datagram_core.specs.Heads.{DatagramView}
use Rattle.datagram_core.specs.Tables.{samples_read}
use Rattle.datagram_core.specs.Trees.{tree_of}
use Rattle.books_spec.specs.declared.limits.Limits.{Limits}
use Rattle.books_spec.specs.declared.taken.Taken.TheVariants.{First}
use Rattle.books_spec.specs.Items.{Datagram, Item, Got}
use Rattle.books_spec.specs.Books.{taken_now}
use Rattle.books_spec.specs.SampledHeaders.{SampledHeader, headers_now}
use Rattle.sample_taps.specs.declared.brief.Brief.{Brief}
use Rattle.sample_taps.specs.BookBriefs.{brief_in}
use Rattle.sample_taps.specs.declared.class_totals.ClassTotals.{ClassTotals}
use Rattle.sample_taps.specs.Briefs.{facts_in}
use Rattle.sample_taps.specs.Classes.{with_headers}
use Rattle.sample_taps.specs.Feeding.{Held}
use Rattle.sample_taps.specs.Passing.{BriefingState, Passes}
use Rattle.sample_taps.proofs.Passings.{passes_more, All, passes_all}
use Rattle.flow_collector.specs.Headers.{briefs_now, headered, headers_each, headers_entered}
use Rattle.flow_collector.specs.Steps.{is_first, number_in}
use Rattle.flow_collector.proofs.Fed.{headers-first, headers-other}
use Rattle.flow_collector.proofs.HeaderRecords.{passes-as}
use Rattle.flow_collector.proofs.Readings.{datagram-in-tree}
use Rattle.flow_collector.proofs.Takes.{datagram_at}

-- the headers of each sample of a datagram
abbrev own : DatagramView → List (List SampledHeader)
own d = headers_each (frame_trees samples_read d.samples)

as-given : (l : Limits) (items : List Item) (at : ℕ) (d : DatagramView)
    → map brief_in (headers_now l items (Got (datagram_at at d)) (own d)) ≡ briefs_now l items (headered at (tree_of d))
as-given l items at d = ap (λ (x : Datagram). map brief_in (headers_now l items (Got x) (own d))) (sym (datagram-in-tree at d))

-- those of one that is First
pub briefs-first : (l : Limits) (items : List Item) (at : ℕ) (d : DatagramView) (n : ℤ)
    → taken_now l items (Got (datagram_at at d)) ≡ First → n ≡ number_in l items (datagram_at at d)
    → map brief_in (headers_entered l items (datagram_at at d) n d.samples) ≡ briefs_now l items (headered at (tree_of d))
briefs-first l items at d n first is =
    ap (map brief_in) (sym (headers-first l items (datagram_at at d) n (own d) first is)) ∙ as-given l items at d

-- and of another one
pub briefs-other : (l : Limits) (items : List Item) (at : ℕ) (d : DatagramView)
    → is_first (taken_now l items (Got (datagram_at at d))) ≡ false → [] ≡ briefs_now l items (headered at (tree_of d))
briefs-other l items at d not =
    ap (map brief_in) (sym (headers-other l items (datagram_at at d) (own d) not)) ∙ as-given l items at d

-- where none is fed the totals stay
pub counted-none : (t : ClassTotals) (bs : List Brief) → [] ≡ bs → t ≡ with_headers t (map facts_in bs)
counted-none t bs none = ap (λ l. with_headers t (map facts_in l)) none

module _ {X : Type 0} (step : X → Brief → X → Type 0) (done : X → Bool) where
  -- where none was pending before, and the last ones went at the end, all went
  pub all-went : (was mid now : BriefingState) (xs ys zs : List X) (bs cs : List Brief) → was.pending ≡ [] → now.pending ≡ []
      → bs ≡ cs → Passes step done was xs bs mid ys → Passes step done mid ys [] now zs → All step done was xs cs now zs
  all-went was mid now xs ys zs bs cs before behind same passes rest =
      passes_all step done was now xs zs cs before behind
      (passes-as step done was now xs zs (bs ++ []) cs (append-nil bs ∙ same)
      (passes_more step done was mid now xs ys zs bs [] passes rest))

  -- and the consumers
  pub held-none : (xs : List X) (bs : List Brief) → [] ≡ bs → Held step done bs xs xs
  held-none xs bs none = subst (λ l. Held step done l xs xs) none refl
