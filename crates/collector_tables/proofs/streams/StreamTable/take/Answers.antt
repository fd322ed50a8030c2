use Rattle.std.proofs.Common.{◌≡◌, ◌∙◌, ℕ, ◌≤◌, ◌<◌, false, Some, List, ◌∷◌, length, refl, subst, sym, rules}
use Rattle.std.specs.Prelude.{slice_get}
use Rattle.books_spec.specs.Items.{Got}
use Rattle.books_spec.specs.Listing.{same_stream, among}
use Rattle.stream_books.specs.Streams.{StreamState}
use Rattle.collector_tables.specs.declared.keys.StreamKey.{StreamKey}
use Rattle.collector_tables.specs.Keys.{stream_in}
use Rattle.collector_tables.specs.Tables.{keys_in}
use Rattle.collector_tables.proofs.Places.{at-set, at-last}
use Rattle.collector_tables.specs.Listed.{StreamsStand}
use Rattle.collector_tables.specs.Takes.{Takes}
use Rattle.collector_tables.proofs.StreamSteps.{known-stands, known-answer, new-stands, new-answer, full-stands}
use Rattle.collector_tables.proofs.streams.StreamTable.take.Goals as goal

pub returns-in-Some-clause-stands : goal.returns-in-Some-clause-stands
returns-in-Some-clause-stands c = λ l items d streams width slack key is st.
    let f = c.in-Some.ensures.some in
    let n = c.take_at.ensures.now f.0 f.1 f.2 in
    let T : ℕ → Type 0 = λ s. Takes s c.args.arrival c.args.uptime c.args.sequence f.1 n.0 c.take_at.result.receipt in
    let H : List (StreamKey × StreamState) → Type 0 = λ es. StreamsStand l es (Got d ∷ items) in
    subst H (sym n.1) (known-stands l c.args.self.now.entries items d c.in-Some.place f.0 f.1 n.0 c.args.arrival
    c.args.uptime c.args.sequence c.take_at.result.receipt f.2 (f.3 ∙ key) is (subst T (sym slack) n.2) st)

pub returns-in-Some-clause-answer : goal.returns-in-Some-clause-answer
returns-in-Some-clause-answer c = λ l items d streams width slack key is st.
    let f = c.in-Some.ensures.some in
    let n = c.take_at.ensures.now f.0 f.1 f.2 in
    let T : ℕ → Type 0 = λ s. Takes s c.args.arrival c.args.uptime c.args.sequence f.1 n.0 c.take_at.result.receipt in
    (known-answer l c.args.self.now.entries items d c.in-Some.place f.0 f.1 n.0 c.args.arrival
    c.args.uptime c.args.sequence c.take_at.result.receipt f.2 (f.3 ∙ key) is (subst T (sym slack) n.2) st).0

pub returns-in-Some-clause-number : goal.returns-in-Some-clause-number
returns-in-Some-clause-number c = λ l items d streams width slack key is st.
    let f = c.in-Some.ensures.some in
    let n = c.take_at.ensures.now f.0 f.1 f.2 in
    let T : ℕ → Type 0 = λ s. Takes s c.args.arrival c.args.uptime c.args.sequence f.1 n.0 c.take_at.result.receipt in
    (known-answer l c.args.self.now.entries items d c.in-Some.place f.0 f.1 n.0 c.args.arrival
    c.args.uptime c.args.sequence c.take_at.result.receipt f.2 (f.3 ∙ key) is (subst T (sym slack) n.2) st).1

pub returns-then-is_full-clause-stands : goal.returns-then-is_full-clause-stands
returns-then-is_full-clause-stands c = λ l items d streams width slack key is st.
    let none : among same_stream (keys_in stream_in c.args.self.now.entries) (stream_in c.args.key) ≡ false =
    search rules in
    let full : c.args.self.now.limit ≤ length c.args.self.now.entries = search rules in
    let P : ℕ → Type 0 = λ n. n ≤ length c.args.self.now.entries in
    full-stands l c.args.self.now.entries items d c.args.key none (subst P (sym streams) full) key st

pub returns-clause-stands : goal.returns-clause-stands
returns-clause-stands c = λ l items d streams width slack key is st.
    let none : among same_stream (keys_in stream_in c.args.self.now.entries) (stream_in c.args.key) ≡ false =
    search rules in
    let room : length c.args.self.now.entries < c.args.self.now.limit = search rules in
    let n = c.take_new.ensures.now in
    let P : ℕ → Type 0 = λ m. length c.args.self.now.entries < m in
    let T : ℕ → Type 0 = λ s. Takes s c.args.arrival c.args.uptime c.args.sequence n.0 n.1 c.take_new.result.receipt in
    let H : List (StreamKey × StreamState) → Type 0 = λ es. StreamsStand l es (Got d ∷ items) in
    subst H (sym n.2) (new-stands l c.args.self.now.entries items d c.args.key n.0 n.1 c.args.arrival
    c.args.uptime c.args.sequence c.take_new.result.receipt none (subst P (sym streams) room) key is
    (n.3 ∙ sym width) (n.4 l.boot_slack) (subst T (sym slack) n.5) st)

pub returns-clause-answer : goal.returns-clause-answer
returns-clause-answer c = λ l items d streams width slack key is st.
    let none : among same_stream (keys_in stream_in c.args.self.now.entries) (stream_in c.args.key) ≡ false =
    search rules in
    let room : length c.args.self.now.entries < c.args.self.now.limit = search rules in
    let n = c.take_new.ensures.now in
    let P : ℕ → Type 0 = λ m. length c.args.self.now.entries < m in
    let T : ℕ → Type 0 = λ s. Takes s c.args.arrival c.args.uptime c.args.sequence n.0 n.1 c.take_new.result.receipt in
    (new-answer l c.args.self.now.entries items d c.args.key n.0 n.1 c.args.arrival
    c.args.uptime c.args.sequence c.take_new.result.receipt none (subst P (sym streams) room) key is
    (n.3 ∙ sym width) (n.4 l.boot_slack) (subst T (sym slack) n.5) st).0

pub returns-clause-number : goal.returns-clause-number
returns-clause-number c = λ l items d streams width slack key is st.
    let none : among same_stream (keys_in stream_in c.args.self.now.entries) (stream_in c.args.key) ≡ false =
    search rules in
    let room : length c.args.self.now.entries < c.args.self.now.limit = search rules in
    let n = c.take_new.ensures.now in
    let P : ℕ → Type 0 = λ m. length c.args.self.now.entries < m in
    let T : ℕ → Type 0 = λ s. Takes s c.args.arrival c.args.uptime c.args.sequence n.0 n.1 c.take_new.result.receipt in
    (new-answer l c.args.self.now.entries items d c.args.key n.0 n.1 c.args.arrival
    c.args.uptime c.args.sequence c.take_new.result.receipt none (subst P (sym streams) room) key is
    (n.3 ∙ sym width) (n.4 l.boot_slack) (subst T (sym slack) n.5) st).1

pub returns-in-Some-clause-place : goal.returns-in-Some-clause-place
returns-in-Some-clause-place c =
    let f = c.in-Some.ensures.some in
    let n = c.take_at.ensures.now f.0 f.1 f.2 in
    let At : List (StreamKey × StreamState) → Type 0 = λ es. slice_get es c.in-Some.place ≡ Some (f.0, n.0) in
    let P : ℕ → Type 0 = λ p. slice_get c.take_at.new.self.entries p ≡ Some (f.0, n.0) in (
      f.0,
      n.0,
      subst P (sym c.take_at.ensures.place)
          (subst At (sym n.1) (at-set c.args.self.now.entries c.in-Some.place f.0 f.1 n.0 f.2)),
      f.3,
      n.3,
    )

pub returns-clause-place : goal.returns-clause-place
returns-clause-place c =
    let n = c.take_new.ensures.now in
    let At : List (StreamKey × StreamState) → Type 0 =
    λ es. slice_get es (length c.args.self.now.entries) ≡ Some (c.args.key, n.1) in
    let P : ℕ → Type 0 = λ p. slice_get c.take_new.new.self.entries p ≡ Some (c.args.key, n.1) in (
      c.args.key,
      n.1,
      subst P (sym c.take_new.ensures.place)
          (subst At (sym n.2) (at-last c.args.self.now.entries c.args.key n.1)),
      refl,
      n.6,
    )
