use Rattle.std.proofs.Common.{◌≡◌, ◌∙◌, ℕ, ◌+◌, ◌≤◌, Bool, true, false, if◌then◌else◌, ◌∷◌, length, refl, sym, ap, subst, arith}
use Rattle.books_spec.specs.declared.limits.Limits.{Limits}
use Rattle.books_spec.specs.declared.sample_place.SamplePlace.{SamplePlace}
use Rattle.books_spec.specs.Items.{Datagram, Got, stream_of}
use Rattle.books_spec.specs.Books.{listed_streams, stream_boots}
use Rattle.collector_tables.specs.declared.keys.SourceKey.{SourceKey}
use Rattle.collector_tables.specs.Keys.{stream_at}
use Rattle.flow_collector.specs.Collectors.{BooksState, books_state, StandsFor}
use Rattle.flow_collector.specs.Shown.{sample_shown, carried_in}
use Rattle.flow_collector.specs.Steps.{Midway, with_sample, boot_number}
use Rattle.flow_collector.proofs.Counts.{source-kept, sources-few}
use Rattle.flow_collector.proofs.Found.{stream-found}
use Rattle.flow_collector.proofs.Kept.{boots-some, unlisted_samples-few}
use Rattle.flow_collector.proofs.Lists.{length-last}
use Rattle.flow_collector.proofs.Firsts.{enters-first}
use Rattle.flow_collector.proofs.Enters.{EnterStep, reading_at, enters-stands, enters-ready}
use Rattle.flow_collector.proofs.books.Books.enter.Goals as goal

pub enter-entered-requires-clause-ready : goal.enter-entered-requires-clause-ready
enter-entered-requires-clause-ready c = λ p was at.
    let s : BooksState = books_state c.self.inside in
    let mid = c.requires.midway in
    let l : Limits = c.args.self.now.limits in
    let d : Datagram = mid.datagram in
    let key : SourceKey =
    record { stream = c.args.found.now.place; kind = c.args.shown.kind; source = c.args.shown.source } in
    let most : length d.samples ≤ 8191 = let count = mid.index_is in omega (arith, count, c.requires.few) in
    let P : BooksState → Type 0 = λ t. StandsFor t l (Got d ∷ mid.items) in
    let st : StandsFor s l (Got d ∷ mid.items) = subst P (sym c.self.view_is) mid.stands in
    let kept = source-kept l (Got d ∷ mid.items) s.sources.entries p key was at st.sources_stand in
    let all = sources-few l (Got d ∷ mid.items) (most, mid.few_samples) in
    let few = mid.few_entries in
    let number : c.args.found.now.boot ≡ boot_number l mid.items d = mid.enters.found.boot_is in
    let this = stream-found (listed_streams l (Got d ∷ mid.items)) c.args.found.now.place (stream_of d) mid.enters.found.at in
    let boots : length (stream_boots l (stream_at (listed_streams l (Got d ∷ mid.items)) c.args.found.now.place) (Got d ∷ mid.items))
    ≡ boot_number l mid.items d = ap (λ x. length (stream_boots l x (Got d ∷ mid.items))) this in
    let boot = kept.0 in
    let entered = kept.1 in
    (omega (arith, boot, boots, number), omega (arith, entered, all, few))

pub enter-entered-requires-clause-boot_counts : goal.enter-entered-requires-clause-boot_counts
enter-entered-requires-clause-boot_counts c =
    let mid = c.requires.midway in
    let l : Limits = c.args.self.now.limits in
    let number : c.args.found.now.boot ≡ boot_number l mid.items mid.datagram = mid.enters.found.boot_is in
    let some = boots-some l mid.items mid.datagram mid.enters.first in
    omega (arith, number, some)

one-at-most : (b : Bool) (n : ℕ) → n ≡ (if b then 0 else 1) → n ≤ 1
one-at-most true n e = omega (arith, e)
one-at-most false n e = omega (arith, e)

pub overflow_add-self : goal.overflow_add-self
overflow_add-self c =
    let s : BooksState = books_state c.self.inside in
    let v = c.self.invariant in
    let some = unlisted_samples-few s s.limits v.items v.stands v.few_samples in
    let few = v.few_entries in
    let one = one-at-most c.is_some.result c.none_count.result c.none_count.ensures in
    omega (arith, some, few, one)

pub enter_carried-requires : goal.enter_carried-requires
enter_carried-requires c =
    let s : BooksState = books_state c.self.inside in
    let M : BooksState → Type 0 = λ t. Midway t c.args.found.now c.args.index in
    let mid = subst M (sym c.self.view_is) c.requires.midway in
    let l : Limits = s.limits in
    let d : Datagram = mid.datagram in
    let key : SourceKey =
    record { stream = c.args.found.now.place; kind = c.args.shown.kind; source = c.args.shown.source } in
    let E : SamplePlace → Type 0 = λ place. EnterStep s.sources.entries c.enter-entered.new.self.entries key
    (record { place = place; reading = c.args.shown.reading }) c.args.found.now.boot
    c.enter-entered.result s.sources.limit s.limits.sample_width in
    let step : E (reading_at c.args.found.now c.args.index c.args.shown.reading).place = subst E c.place_at-at.ensures (record {
      stands = c.enter-entered.ensures.stands;
      answer = c.enter-entered.ensures.answer;
      counted = c.enter-entered.ensures.counted;
      placed = c.enter-entered.ensures.place;
    }) in
    let most : length d.samples ≤ 8191 = let count = mid.index_is in omega (arith, count, c.requires.few) in
    let all = sources-few l (Got d ∷ mid.items) (most, mid.few_samples) in
    let few = mid.few_entries in
    record {
      ready = enters-ready s l mid.items d c.args.found.now c.args.index key c.args.shown.reading
          c.enter-entered.new.self.entries c.enter-entered.result refl mid.index_is mid.enters step (omega (arith, all, few))
          mid.stands;
    }

pub returns : goal.returns
returns c = record {
  stands = λ l items d enters same st.
      let s : BooksState = books_state c.self.inside in
      let P : BooksState → Type 0 = λ t. StandsFor t l (Got d ∷ items) in
      let key : SourceKey =
      record { stream = c.args.found.now.place; kind = c.args.shown.kind; source = c.args.shown.source } in
      let E : SamplePlace → Type 0 = λ place. EnterStep s.sources.entries c.enter-entered.new.self.entries key
      (record { place = place; reading = c.args.shown.reading }) c.args.found.now.boot
      c.enter-entered.result s.sources.limit s.limits.sample_width in
      let step : E (reading_at c.args.found.now c.args.index c.args.shown.reading).place = subst E c.place_at-at.ensures
      (record {
        stands = c.enter-entered.ensures.stands;
        answer = c.enter-entered.ensures.answer;
        counted = c.enter-entered.ensures.counted;
        placed = c.enter-entered.ensures.place;
      }) in
      enters-stands s l items d c.args.found.now c.args.index key c.args.shown.reading (carried_in c.args.carried.now)
      c.enter-entered.new.self c.enter_carried.new.interfaces c.enter-entered.result _ refl same enters step
      c.enter_carried.ensures.entered (ap (λ n. s.totals.unlisted_samples + n)
      (c.none_count.ensures ∙ ap (λ b. if b then 0 else 1) c.is_some.ensures)) c.enter-entered.ensures.limit c.enter_carried.ensures.limit
      (subst P (sym c.self.view_is) st);
  first = λ l items d enters same st.
      let s : BooksState = books_state c.self.inside in
      let P : BooksState → Type 0 = λ t. StandsFor t l (Got d ∷ items) in
      let key : SourceKey =
      record { stream = c.args.found.now.place; kind = c.args.shown.kind; source = c.args.shown.source } in
      let E : SamplePlace → Type 0 = λ place. EnterStep s.sources.entries c.enter-entered.new.self.entries key
      (record { place = place; reading = c.args.shown.reading }) c.args.found.now.boot
      c.enter-entered.result s.sources.limit s.limits.sample_width in
      let step : E (reading_at c.args.found.now c.args.index c.args.shown.reading).place = subst E c.place_at-at.ensures
      (record {
        stands = c.enter-entered.ensures.stands;
        answer = c.enter-entered.ensures.answer;
        counted = c.enter-entered.ensures.counted;
        placed = c.enter-entered.ensures.place;
      }) in
      enters-first s l items d c.args.found.now c.args.index key c.args.shown.reading c.enter-entered.new.self.entries
      c.enter-entered.result refl same enters step (subst P (sym c.self.view_is) st);
}

pub invariant_of-self : goal.invariant_of-self
invariant_of-self c =
    let s : BooksState = books_state c.self.inside in
    let v = c.self.invariant in
    let M : BooksState → Type 0 = λ t. Midway t c.args.found.now c.args.index in
    let mid = subst M (sym c.self.view_is) c.requires.midway in
    let d : Datagram = mid.datagram in
    let key : SourceKey =
    record { stream = c.args.found.now.place; kind = c.args.shown.kind; source = c.args.shown.source } in
    let E : SamplePlace → Type 0 = λ place. EnterStep s.sources.entries c.enter-entered.new.self.entries key
    (record { place = place; reading = c.args.shown.reading }) c.args.found.now.boot
    c.enter-entered.result s.sources.limit s.limits.sample_width in
    let step : E (reading_at c.args.found.now c.args.index c.args.shown.reading).place = subst E c.place_at-at.ensures
    (record {
      stands = c.enter-entered.ensures.stands;
      answer = c.enter-entered.ensures.answer;
      counted = c.enter-entered.ensures.counted;
      placed = c.enter-entered.ensures.place;
    }) in
    let longer = length-last d.samples (sample_shown c.args.shown (carried_in c.args.carried.now)) in
    let count = mid.index_is in
    let room = mid.few_entries in
    record {
      within = v.within;
      items = Got (with_sample d (sample_shown c.args.shown (carried_in c.args.carried.now))) ∷ mid.items;
      stands = enters-stands s s.limits mid.items d c.args.found.now c.args.index key c.args.shown.reading
          (carried_in c.args.carried.now) c.enter-entered.new.self c.enter_carried.new.interfaces c.enter-entered.result _ refl
          mid.index_is mid.enters step c.enter_carried.ensures.entered
          (ap (λ n. s.totals.unlisted_samples + n) (c.none_count.ensures ∙ ap (λ b. if b then 0 else 1) c.is_some.ensures)) c.enter-entered.ensures.limit
          c.enter_carried.ensures.limit mid.stands;
      few_samples = (omega (arith, longer, count, c.requires.few), mid.few_samples);
      few_entries = omega (arith, room);
    }
