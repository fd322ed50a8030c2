use Rattle.std.proofs.Common.{rules, subst, refl, sym, Some, ◌≡◌, ◌≤◌, ◌<◌, ◌^◌}
use Rattle.std.specs.Prelude.{slice_get}
use Rattle.indexmap.proofs.CallerLemmas.{index_map_len-with_value_at}
use Rattle.stream_books.specs.declared.source.SourceRecord.{SourceRecord}
use Rattle.stream_books.specs.Sources.{boot_of, entered_count}
use Rattle.collector_tables.specs.declared.keys.SourceKey.{SourceKey}
use Rattle.collector_tables.specs.Tables.{Table}
use Rattle.collector_tables.specs.Enters.{Enters}
use Rattle.collector_tables.proofs.Places.{same-value, entry-of}
use Rattle.collector_tables.proofs.sources.SourceTable.enter_at.Goals as goal

pub enter-booked-requires : goal.enter-booked-requires
enter-booked-requires c =
    let entry = entry-of c.self.inside.map.entries c.args.place c.index_mut-source.result.now
    c.index_mut-source.ensures.value in
    let R : Table SourceKey SourceRecord → Type 0 = λ t. (k : SourceKey) (was : SourceRecord)
    → slice_get t.entries c.args.place ≡ Some (k, was) → (boot_of was ≤ c.args.boot) × (entered_count was < 2 ^ 62) in
    let ready = subst R (sym c.self.view_is) c.requires.ready entry.0 c.index_mut-source.result.now entry.1 in
    record { boot_from = ready.0; boot_counts = c.requires.boot_counts; few = ready.1 }

pub invariant_of-self : goal.invariant_of-self
invariant_of-self c = search (rules, index_map_len-with_value_at)

pub returns-clause-now : goal.returns-clause-now
returns-clause-now c = rw (← c.self.view_is) (λ k was at.
    let same : c.index_mut-source.result.now ≡ was = same-value c.self.inside.map.entries c.args.place k was
    c.index_mut-source.result.now at c.index_mut-source.ensures.value in
    let P : SourceRecord → Type 0 =
    λ s. Enters c.args.boot (record { place = c.args.at; reading = c.args.reading }) s c.enter-booked.new.self c.enter-booked.result in (
      c.enter-booked.new.self,
      refl,
      subst P same (record {
        stands = c.enter-booked.ensures.stands;
        answered = c.enter-booked.ensures.answer;
        kind = c.enter-booked.ensures.kind;
        width = c.enter-booked.ensures.width;
      }),
    ))
