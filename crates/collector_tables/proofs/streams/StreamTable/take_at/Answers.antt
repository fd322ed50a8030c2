use Rattle.std.proofs.Common.{rules, subst, refl, sym, Some, ◌≡◌, ◌+◌, ◌<◌, ◌^◌}
use Rattle.std.specs.Prelude.{slice_get}
use Rattle.indexmap.proofs.CallerLemmas.{index_map_len-with_value_at}
use Rattle.stream_books.specs.Streams.{StreamState}
use Rattle.collector_tables.specs.declared.keys.StreamKey.{StreamKey}
use Rattle.collector_tables.specs.Tables.{Table}
use Rattle.collector_tables.specs.Takes.{Takes}
use Rattle.collector_tables.proofs.Places.{same-value, entry-of}
use Rattle.collector_tables.proofs.streams.StreamTable.take_at.Goals as goal

pub take-receipt-requires : goal.take-receipt-requires
take-receipt-requires c =
    let entry = entry-of c.self.inside.map.entries c.args.place c.index_mut-stream.result.now
    c.index_mut-stream.ensures.value in
    let R : Table StreamKey StreamState → Type 0 = λ t. (k : StreamKey) (was : StreamState)
    → slice_get t.entries c.args.place ≡ Some (k, was) → was.ledger.marks.entered + was.stale < 2 ^ 62 in
    record { few = subst R (sym c.self.view_is) c.requires.few entry.0 c.index_mut-stream.result.now entry.1 }

pub invariant_of-self : goal.invariant_of-self
invariant_of-self c = search (rules, index_map_len-with_value_at)

pub returns-clause-now : goal.returns-clause-now
returns-clause-now c = rw (← c.self.view_is) (λ k was at.
    let same : c.index_mut-stream.result.now ≡ was = same-value c.self.inside.map.entries c.args.place k was
    c.index_mut-stream.result.now at c.index_mut-stream.ensures.value in
    let P : StreamState → Type 0 =
    λ s. Takes c.args.slack c.args.arrival c.args.uptime c.args.sequence s c.take-receipt.new.self c.take-receipt.result in (
      c.take-receipt.new.self,
      refl,
      subst P same (record {
        stands = c.take-receipt.ensures.stands;
        answered = c.take-receipt.ensures.answer;
        width = c.take-receipt.ensures.width;
      }),
      c.boots.ensures.value,
    ))
