-- The samples of a datagram that were entered so far.
use Rattle.std.proofs.Common.{◌≡◌, ◌∙◌, ℕ, suc, ◌+◌, ◌≤◌, List, [], ◌∷◌, ◌++◌, length, length-append, append_assoc, refl, sym, ap, subst, arith}
use Rattle.data_format.specs.Views.{FrameView}
use Rattle.data_format.specs.Trees.{frame_tree, frame_trees}
use Rattle.datagram_core.specs.Tables.{samples_read}
use Rattle.books_spec.specs.Items.{Sample, Datagram, Item, Got, stream_of}
use Rattle.books_spec.specs.Books.{stream_boots}
use Rattle.stream_books.specs.Receipts.{receipt_at}
use Rattle.collector_tables.specs.declared.streams.TakenAt.{TakenAt}
use Rattle.books_spec.specs.declared.limits.Limits.{Limits}
use Rattle.flow_collector.specs.Items.{sample_in, samples_in}
use Rattle.flow_collector.specs.Collectors.{BooksState, StandsFor}
use Rattle.flow_collector.specs.Steps.{with_samples, with_sample, number_in, IsFound, Enters, Midway}
use Rattle.flow_collector.proofs.Boots.{boots-same}
use Rattle.flow_collector.proofs.Entering.{place-same, taken-same}

-- the samples in these frames
abbrev pub samples_of : List FrameView → List Sample
samples_of frames = samples_in (frame_trees samples_read frames)

pub record SoFar (old now : BooksState) (t : TakenAt) (index : ℕ) (all left : List FrameView) : Type 0 where
  pub done : List Sample
  pub count : length done ≡ index
  pub parts : samples_of all ≡ done ++ samples_of left
  pub stands : (l : Limits) (items : List Item) (d : Datagram) → Enters l items t d
      → StandsFor old l (Got (with_samples d []) ∷ items) → StandsFor now l (Got (with_samples d done) ∷ items)

abbrev pub begins : (s : BooksState) (t : TakenAt) (all : List FrameView) → SoFar s s t 0 all all
begins s t all = record {
  done = [];
  count = refl;
  parts = refl;
  stands = λ l items d enters st. st;
}

number-same : (l : Limits) (items : List Item) (d : Datagram) (xs : List Sample)
    → number_in l items d ≡ number_in l items (with_samples d xs)
number-same l items d xs =
    let bs : List (List Datagram) = stream_boots l (stream_of d) items in
    ap (λ p. (receipt_at l.datagram_width p bs d.head.sequence).number)
    (sym (place-same l.boot_slack l.datagram_width bs d xs))

found-with : (l : Limits) (items : List Item) (t : TakenAt) (d : Datagram) (xs : List Sample)
    → IsFound l items t d → IsFound l items t (with_samples d xs)
found-with l items t d xs found = record {
  at = found.at;
  boot_is = found.boot_is ∙ sym (boots-same l items d xs);
  number_is = found.number_is ∙ number-same l items d xs;
}

pub enters-with : (l : Limits) (items : List Item) (t : TakenAt) (d : Datagram) (xs : List Sample)
    → Enters l items t d → Enters l items t (with_samples d xs)
enters-with l items t d xs enters = record {
  found = found-with l items t d xs enters.found;
  first = taken-same l items d xs ∙ enters.first;
}

-- one sample more
abbrev pub goes-on : (old now new : BooksState) (t : TakenAt) (index : ℕ) (all left rest : List FrameView) (f : FrameView)
    → left ≡ f ∷ rest
    → ((l : Limits) (items : List Item) (d : Datagram) → Enters l items t d → length d.samples ≡ index
    → StandsFor now l (Got d ∷ items) → StandsFor new l (Got (with_sample d (sample_in (frame_tree samples_read f))) ∷ items))
    → SoFar old now t index all left → SoFar old new t (index + 1) all rest
goes-on old now new t index all left rest f is step so_far =
    let x : Sample = sample_in (frame_tree samples_read f) in
    let sum : length (so_far.done ++ x ∷ []) ≡ length so_far.done + 1 = length-append so_far.done (x ∷ []) in
    let before = so_far.count in
    record {
      done = so_far.done ++ x ∷ [];
      count = omega (arith, sum, before);
      parts = so_far.parts ∙ ap (λ fs. so_far.done ++ samples_of fs) is
          ∙ sym (append_assoc so_far.done (x ∷ []) (samples_of rest));
      stands = λ l items d enters st. step l items (with_samples d so_far.done)
          (enters-with l items t d so_far.done enters) so_far.count (so_far.stands l items d enters st);
    }

samples-length : (frames : List FrameView) → length (samples_of frames) ≡ length frames
samples-length [] = refl
samples-length (f ∷ more) = ap suc (samples-length more)

-- while samples are left, fewer than 8,191 were entered
pub index-few : (old now : BooksState) (t : TakenAt) (index : ℕ) (all left rest : List FrameView) (f : FrameView)
    → left ≡ f ∷ rest → length all ≤ 8191 → SoFar old now t index all left → index ≤ 8190
index-few old now t index all left rest f is most so_far =
    let sum : length (so_far.done ++ samples_of left) ≡ length so_far.done + length (samples_of left) =
    length-append so_far.done (samples_of left) in
    let whole : length (samples_of all) ≡ length (so_far.done ++ samples_of left) = ap length so_far.parts in
    let a = samples-length all in
    let b = samples-length left in
    let c : length left ≡ suc (length rest) = ap length is in
    let count = so_far.count in
    omega (arith, sum, whole, a, b, c, most, count)

pub midway : (old now : BooksState) (t : TakenAt) (index : ℕ) (all left : List FrameView)
    → Midway old t 0 → SoFar old now t index all left → Midway now t index
midway old now t index all left mid so_far =
    let none : mid.datagram.samples ≡ [] = empty mid.datagram.samples mid.index_is in
    let P : List Sample → Type 0 = λ xs. StandsFor old old.limits (Got (with_samples mid.datagram xs) ∷ mid.items) in
    let was : StandsFor old old.limits (Got (with_samples mid.datagram []) ∷ mid.items) = subst P none mid.stands in
    let d : Datagram = with_samples mid.datagram so_far.done in
    let st : StandsFor now old.limits (Got d ∷ mid.items) =
    so_far.stands old.limits mid.items mid.datagram mid.enters was in
    let back = sym st.limits_are in
    let E : Limits → Type 0 = λ l. Enters l mid.items t d in
    let S : Limits → Type 0 = λ l. StandsFor now l (Got d ∷ mid.items) in
    record {
      items = mid.items;
      datagram = d;
      enters = subst E back (enters-with old.limits mid.items t mid.datagram so_far.done mid.enters);
      stands = subst S back st;
      few_samples = mid.few_samples;
      few_entries = mid.few_entries;
      index_is = so_far.count;
    }
  where
    empty : (xs : List Sample) → length xs ≡ 0 → xs ≡ []
    empty [] h = refl
    empty (x ∷ xs) h = absurd (omega (arith, h))

-- at the end all were entered
append-nil : {X : Type 0} (xs : List X) → xs ++ [] ≡ xs
append-nil [] = refl
append-nil (x ∷ xs) = ap (λ rest. x ∷ rest) (append-nil xs)

pub all-entered : (old now : BooksState) (t : TakenAt) (index : ℕ) (all left : List FrameView) → left ≡ []
    → SoFar old now t index all left → (l : Limits) (items : List Item) (d : Datagram) → Enters l items t d
    → StandsFor old l (Got (with_samples d []) ∷ items) → StandsFor now l (Got (with_samples d (samples_of all)) ∷ items)
all-entered old now t index all left none so_far l items d enters st =
    let whole : so_far.done ≡ samples_of all =
    sym (append-nil so_far.done) ∙ ap (λ fs. so_far.done ++ samples_of fs) (sym none) ∙ sym so_far.parts in
    let P : List Sample → Type 0 = λ xs. StandsFor now l (Got (with_samples d xs) ∷ items) in
    subst P whole (so_far.stands l items d enters st)
