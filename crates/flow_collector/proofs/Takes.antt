-- A datagram is taken: its head, and then its samples where it is First.
use Rattle.std.proofs.Common.{◌≡◌, ◌∙◌, ℕ, ◌<◌, Bool, true, false, cond, nat_le, Option, None, Some, List, [], ◌∷◌, length, refl, sym, ap, subst, true≢false, arith}
use Rattle.std.specs.Option.{IfSome}
use Rattle.std.proofs.lemmas.Bool.{leb-true, leb-false}
use Rattle.data_format.specs.Trees.{frame_trees}
use Rattle.datagram_core.specs.declared.head.DatagramHead.{DatagramHead}
use Rattle.datagram_core.specs.Heads.{DatagramView, head_of}
use Rattle.datagram_core.specs.Tables.{samples_read}
use Rattle.wire_spec.specs.Heads.{Head}
use Rattle.books_spec.specs.Items.{Datagram, Item, Got, stream_of}
use Rattle.books_spec.specs.declared.limits.Limits.{Limits}
use Rattle.books_spec.specs.Books.{taken, taken_now, most_entries}
use Rattle.books_spec.specs.declared.taken.Taken.{Taken}
use Rattle.books_spec.specs.declared.taken.Taken.TheVariants.{First, Repeat, Late, Unlisted, Spent}
use Rattle.books_spec.specs.declared.taken.Taken.TheVariants as takes
use Rattle.stream_books.specs.Streams.{IsAt}
use Rattle.collector_tables.specs.declared.keys.StreamKey.{StreamKey}
use Rattle.collector_tables.specs.declared.streams.TakenAt.{TakenAt}
use Rattle.collector_tables.specs.Answers.{answer_in_books}
use Rattle.collector_tables.specs.Keys.{stream_in}
use Rattle.flow_collector.specs.Items.{samples_in}
use Rattle.flow_collector.specs.Collectors.{BooksState, StandsFor, AreFew}
use Rattle.flow_collector.specs.Steps.{is_first, with_samples, IsFound, Enters, Midway}
use Rattle.flow_collector.proofs.Kept.{entries-are}
use Rattle.flow_collector.proofs.Moves.{not_first-stands}
use Rattle.flow_collector.proofs.SoFar.{enters-with}

-- the answer where fewer than 2^48 entries were taken
pub answered : (s : BooksState) (l : Limits) (items : List Item) (item : Item) (t : Taken) → StandsFor s l items
    → s.totals.entries < most_entries → t ≡ taken_now l items item → t ≡ taken l items item
answered s l items item t st few is = go (nat_le most_entries (length items)) refl
  where
    go : (b : Bool) → nat_le most_entries (length items) ≡ b → t ≡ cond b Spent (taken_now l items item)
    go true e =
        let many = leb-true most_entries (length items) e in
        let number = entries-are s l items st in
        absurd (omega (arith, many, number, few))
    go false e = is

-- fewer were taken than may be
pub not-spent : (entries : ℕ) (b : Bool) → b ≡ nat_le most_entries entries → b ≡ false → entries < most_entries
not-spent entries b is not = leb-false most_entries entries (sym is ∙ not)

pub first-is : (t : Taken) → is_first t ≡ true → t ≡ First
first-is First e = refl
first-is Repeat e = absurd (true≢false (sym e))
first-is Late e = absurd (true≢false (sym e))
first-is takes.Stale e = absurd (true≢false (sym e))
first-is Unlisted e = absurd (true≢false (sym e))
first-is takes.Malformed e = absurd (true≢false (sym e))
first-is Spent e = absurd (true≢false (sym e))

-- the datagram that this view is
abbrev pub datagram_at : ℕ → DatagramView → Datagram
datagram_at at d = record { arrival = at; head = d.head; samples = samples_in (frame_trees samples_read d.samples) }

abbrev pub key_of : DatagramHead → StreamKey
key_of h = record { agent = h.agent; sub_agent = h.sub_agent }

pub key-stream : (at : ℕ) (d : DatagramView) (h : DatagramHead) → head_of h ≡ d.head
    → stream_in (key_of h) ≡ stream_of (datagram_at at d)
key-stream at d h is = ap (λ (x : Head). record { agent = x.agent; sub_agent = x.sub_agent }) is

pub is-at : (at : ℕ) (d : DatagramView) (h : DatagramHead) → head_of h ≡ d.head → IsAt (datagram_at at d) at h.uptime h.sequence
is-at at d h is = (refl, ap (λ (x : Head). x.uptime) (sym is), ap (λ (x : Head). x.sequence) (sym is))

-- where it was found
pub found-at : (l : Limits) (items : List Item) (d : Datagram) (o : Option TakenAt) (t : TakenAt) → o ≡ Some t
    → IfSome o (λ x. IsFound l items x d) → IsFound l items t d
found-at l items d o t is this =
    let P : Option TakenAt → Type 0 = λ x. IfSome x (λ y. IsFound l items y d) in
    let now : P (Some t) = subst P is this in
    now

-- the samples of a datagram that was taken may be entered
pub may-enter : (now : BooksState) (l : Limits) (items : List Item) (t : TakenAt) (d : Datagram)
    → Enters l items t d → StandsFor now l (Got (with_samples d []) ∷ items) → AreFew items
    → length items < most_entries → Midway now t 0
may-enter now l items t d entering st few room =
    let back = sym st.limits_are in
    let E : Limits → Type 0 = λ x. Enters x items t (with_samples d []) in
    let S : Limits → Type 0 = λ x. StandsFor now x (Got (with_samples d []) ∷ items) in
    record {
      items = items;
      datagram = with_samples d [];
      enters = subst E back (enters-with l items t d [] entering);
      stands = subst S back st;
      few_samples = few;
      few_entries = room;
      index_is = refl;
    }

-- so may those of one that was found, where it is First
pub found-midway : (now : BooksState) (l : Limits) (items : List Item) (d : Datagram) (o : Option TakenAt)
    → answer_in_books o ≡ taken_now l items (Got d) → IfSome o (λ t. IsFound l items t d)
    → StandsFor now l (Got (with_samples d []) ∷ items) → AreFew items → length items < most_entries
    → IfSome o (λ t. is_first t.receipt.taken ≡ true → Midway now t 0)
found-midway now l items d None answer found st few room = tt
found-midway now l items d (Some t) answer found st few room = λ first.
    may-enter now l items t d (record { found = found; first = sym answer ∙ first-is t.receipt.taken first }) st few room

-- a datagram that isn't First
pub passes : (s : BooksState) (l : Limits) (items : List Item) (d : Datagram) (t : Taken) → is_first t ≡ false
    → t ≡ taken_now l items (Got d) → StandsFor s l (Got (with_samples d []) ∷ items) → StandsFor s l (Got d ∷ items)
passes s l items d t not answer st = not_first-stands s l items d (ap is_first (sym answer) ∙ not) st
