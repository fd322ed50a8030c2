use Rattle.std.proofs.Common.{◌≡◌, ℕ, ◌<◌, ◌≤◌, false, Some, List, ◌∷◌, length, refl, subst, sym, rules}
use Rattle.std.specs.Prelude.{slice_get}
use Rattle.books_spec.specs.Listing.{among}
use Rattle.stream_books.specs.declared.source.SourceRecord.{SourceRecord}
use Rattle.collector_tables.specs.declared.keys.SourceKey.{SourceKey}
use Rattle.collector_tables.specs.Keys.{source_in, same_key}
use Rattle.collector_tables.specs.Tables.{keys_in}
use Rattle.collector_tables.specs.Sources.{after_reading, SourcesStand}
use Rattle.collector_tables.proofs.Places.{same-key, at-set, at-last}
use Rattle.collector_tables.proofs.Placed.{source-absent}
use Rattle.collector_tables.proofs.Empties.{empty-stands}
use Rattle.collector_tables.proofs.SourceSteps.{known-stands, known-answer, known-count, new-stands, new-answer, new-count, full-stands, full-count, never-arrived}
use Rattle.collector_tables.proofs.sources.SourceTable.enter.Goals as goal

-- ---- a source that is listed

pub enter_at-requires-clause-ready : goal.enter_at-requires-clause-ready
enter_at-requires-clause-ready c = λ k was at.
    let f = c.in-Some.ensures.some in
    let same = same-key c.args.self.now.entries c.in-Some.place k c.args.key was f.0 at f.1 in
    let At : SourceKey → Type 0 = λ x. slice_get c.args.self.now.entries c.in-Some.place ≡ Some (x, was) in
    c.requires.ready c.in-Some.place was (subst At same at)

pub returns-in-Some-clause-stands : goal.returns-in-Some-clause-stands
returns-in-Some-clause-stands c = λ streams arrived boots_of current closed placed is number fresh st.
    let f = c.in-Some.ensures.some in
    let n = c.enter_at.ensures.now c.args.key f.0 f.1 in
    let H : List (SourceKey × SourceRecord) → Type 0 = λ es. SourcesStand streams c.args.self.now.limit c.args.width es
    (source_in streams c.args.key ∷ arrived)
    (after_reading (source_in streams c.args.key) (record { place = c.args.at; reading = c.args.reading }) boots_of) in
    subst H (sym n.1) (known-stands streams c.args.self.now.limit c.args.width c.args.self.now.entries arrived boots_of
    (source_in streams c.args.key) (record { place = c.args.at; reading = c.args.reading }) c.in-Some.place c.args.key f.0 n.0
    c.enter_at.result.booked c.args.boot current closed f.1 refl is number n.2 st)

pub returns-in-Some-clause-answer : goal.returns-in-Some-clause-answer
returns-in-Some-clause-answer c = λ streams arrived boots_of current closed placed is number fresh st.
    let f = c.in-Some.ensures.some in
    let n = c.enter_at.ensures.now c.args.key f.0 f.1 in
    known-answer streams c.args.self.now.limit c.args.width c.args.self.now.entries arrived boots_of
    (source_in streams c.args.key) (record { place = c.args.at; reading = c.args.reading }) c.in-Some.place c.args.key f.0 n.0
    c.enter_at.result.booked c.args.boot current closed f.1 refl is number n.2 st

pub returns-in-Some-clause-counted : goal.returns-in-Some-clause-counted
returns-in-Some-clause-counted c = λ streams arrived boots_of placed st.
    let f = c.in-Some.ensures.some in
    known-count streams c.args.self.now.limit c.args.width c.args.self.now.entries arrived boots_of
    (source_in streams c.args.key) (record { place = c.args.at; reading = c.args.reading }) c.in-Some.place c.args.key f.0 f.1 refl st

pub returns-in-Some-clause-place : goal.returns-in-Some-clause-place
returns-in-Some-clause-place c =
    let f = c.in-Some.ensures.some in
    let n = c.enter_at.ensures.now c.args.key f.0 f.1 in
    let At : List (SourceKey × SourceRecord) → Type 0 = λ es. slice_get es c.in-Some.place ≡ Some (c.args.key, n.0) in
    let P : ℕ → Type 0 = λ p. slice_get c.enter_at.new.self.entries p ≡ Some (c.args.key, n.0) in (
      n.0,
      subst P (sym c.enter_at.ensures.place)
          (subst At (sym n.1) (at-set c.args.self.now.entries c.in-Some.place c.args.key f.0 n.0 f.1)),
    )

-- ---- a source for which there is no room

pub returns-then-is_full-clause-stands : goal.returns-then-is_full-clause-stands
returns-then-is_full-clause-stands c = λ streams arrived boots_of current closed placed is number fresh st.
    let none : among same_key (keys_in (λ (x : SourceKey). x) c.args.self.now.entries) c.args.key ≡ false = search rules in
    let full : c.args.self.now.limit ≤ length c.args.self.now.entries = search rules in
    full-stands streams c.args.self.now.limit c.args.width c.args.self.now.entries arrived boots_of
    (source_in streams c.args.key) (record { place = c.args.at; reading = c.args.reading })
    (source-absent streams c.args.key c.args.self.now.entries placed st.placed none) full st

pub returns-then-is_full-clause-counted : goal.returns-then-is_full-clause-counted
returns-then-is_full-clause-counted c = λ streams arrived boots_of placed st.
    let none : among same_key (keys_in (λ (x : SourceKey). x) c.args.self.now.entries) c.args.key ≡ false = search rules in
    let full : c.args.self.now.limit ≤ length c.args.self.now.entries = search rules in
    full-count streams c.args.self.now.limit c.args.width c.args.self.now.entries arrived boots_of
    (source_in streams c.args.key) (record { place = c.args.at; reading = c.args.reading })
    (source-absent streams c.args.key c.args.self.now.entries placed st.placed none) full st

-- ---- a source that is listed now

pub returns-clause-stands : goal.returns-clause-stands
returns-clause-stands c = λ streams arrived boots_of current closed placed is number fresh st.
    let none : among same_key (keys_in (λ (x : SourceKey). x) c.args.self.now.entries) c.args.key ≡ false = search rules in
    let absent = source-absent streams c.args.key c.args.self.now.entries placed st.placed none in
    let room : length c.args.self.now.entries < c.args.self.now.limit = search rules in
    let n = c.enter_new.ensures.now in
    let H : List (SourceKey × SourceRecord) → Type 0 = λ es. SourcesStand streams c.args.self.now.limit c.args.width es
    (source_in streams c.args.key ∷ arrived)
    (after_reading (source_in streams c.args.key) (record { place = c.args.at; reading = c.args.reading }) boots_of) in
    let empty = fresh (never-arrived streams c.args.self.now.limit c.args.width c.args.self.now.entries arrived boots_of
    (source_in streams c.args.key) (record { place = c.args.at; reading = c.args.reading }) absent room st) in
    subst H (sym n.2) (new-stands streams c.args.self.now.limit c.args.width c.args.self.now.entries arrived boots_of
    (source_in streams c.args.key) (record { place = c.args.at; reading = c.args.reading }) c.args.key n.0 n.1 c.enter_new.result.booked
    c.args.boot current closed absent room refl is number n.3 n.4 (empty-stands n.0 (current ∷ closed) empty n.5) n.6
    placed.place st)

pub returns-clause-answer : goal.returns-clause-answer
returns-clause-answer c = λ streams arrived boots_of current closed placed is number fresh st.
    let none : among same_key (keys_in (λ (x : SourceKey). x) c.args.self.now.entries) c.args.key ≡ false = search rules in
    let absent = source-absent streams c.args.key c.args.self.now.entries placed st.placed none in
    let room : length c.args.self.now.entries < c.args.self.now.limit = search rules in
    let n = c.enter_new.ensures.now in
    let empty = fresh (never-arrived streams c.args.self.now.limit c.args.width c.args.self.now.entries arrived boots_of
    (source_in streams c.args.key) (record { place = c.args.at; reading = c.args.reading }) absent room st) in
    new-answer streams c.args.self.now.limit c.args.width c.args.self.now.entries arrived boots_of
    (source_in streams c.args.key) (record { place = c.args.at; reading = c.args.reading }) n.0 n.1 c.enter_new.result.booked c.args.boot current
    closed number n.4 (empty-stands n.0 (current ∷ closed) empty n.5) n.6

pub returns-clause-counted : goal.returns-clause-counted
returns-clause-counted c = λ streams arrived boots_of placed st.
    let none : among same_key (keys_in (λ (x : SourceKey). x) c.args.self.now.entries) c.args.key ≡ false = search rules in
    let room : length c.args.self.now.entries < c.args.self.now.limit = search rules in
    new-count streams c.args.self.now.limit c.args.width c.args.self.now.entries arrived boots_of
    (source_in streams c.args.key) (record { place = c.args.at; reading = c.args.reading })
    (source-absent streams c.args.key c.args.self.now.entries placed st.placed none) room st

pub returns-clause-place : goal.returns-clause-place
returns-clause-place c =
    let n = c.enter_new.ensures.now in
    let At : List (SourceKey × SourceRecord) → Type 0 =
    λ es. slice_get es (length c.args.self.now.entries) ≡ Some (c.args.key, n.1) in
    let P : ℕ → Type 0 = λ p. slice_get c.enter_new.new.self.entries p ≡ Some (c.args.key, n.1) in (
      n.1,
      subst P (sym c.enter_new.ensures.place)
          (subst At (sym n.2) (at-last c.args.self.now.entries c.args.key n.1)),
    )
