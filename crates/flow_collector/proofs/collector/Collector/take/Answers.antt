use Rattle.std.proofs.Common.{◌≡◌, ◌∙◌, true, Option, Some, List, ◌∷◌, map, refl, sym, ap, subst}
use Rattle.std.specs.Option.{IfSome}
use Rattle.data_format.specs.Trees.{frame_trees}
use Rattle.data_format.specs.Views.{FrameView}
use Rattle.datagram_core.specs.Tables.{samples_read}
use Rattle.datagram_core.specs.Trees.{tree_of}
use Rattle.books_spec.specs.declared.taken.Taken.TheVariants.{Unlisted}
use Rattle.books_spec.specs.Items.{Datagram, Got}
use Rattle.books_spec.specs.Books.{taken}
use Rattle.sample_taps.specs.BookBriefs.{brief_in}
use Rattle.sample_taps.specs.Briefs.{facts_in}
use Rattle.sample_taps.specs.Classes.{with_headers}
use Rattle.collector_tables.specs.declared.streams.TakenAt.{TakenAt}
use Rattle.collector_tables.specs.Answers.{answer_in_books}
use Rattle.flow_collector.specs.Items.{samples_in}
use Rattle.flow_collector.specs.Collectors.{CollectorState, StandsFor}
use Rattle.flow_collector.specs.Headers.{briefs_now, headered, headers_entered}
use Rattle.flow_collector.specs.Steps.{is_first, with_samples, Midway, Enters}
use Rattle.flow_collector.proofs.Feeds.{briefs-first, briefs-other, all-went, counted-none, held-none}
use Rattle.flow_collector.proofs.Readings.{datagram-in-tree}
use Rattle.flow_collector.proofs.Takes.{answered, not-spent, datagram_at, key-stream, is-at, first-is, found-at, passes}
use Rattle.flow_collector.proofs.collector.Collector.take.Goals as goal

-- ---- a datagram of a listed stream that is First

pub enter_samples-requires-clause-midway : goal.enter_samples-requires-clause-midway
enter_samples-requires-clause-midway g c =
    let P : Option TakenAt → Type 0 = λ o. IfSome o (λ t. is_first t.receipt.taken ≡ true → Midway c.take_head.new.self t 0) in
    let this : P (Some c.in-Some.found) = subst P c.in-Some.is c.take_head.ensures.midway in
    this (sym c.if-is_entered.ensures)

pub returns-then-is_entered-clause-stands : goal.returns-then-is_entered-clause-stands
returns-then-is_entered-clause-stands g c = λ l items few stands.
    let S : CollectorState → Type 0 = λ t. StandsFor t.books l items in
    let st = subst S (sym c.self.view_is) stands in
    let key = key-stream c.args.at c.args.datagram.now c.head-head.result c.head-head.ensures in
    let at = is-at c.args.at c.args.datagram.now c.head-head.result c.head-head.ensures in
    let d : Datagram = datagram_at c.args.at c.args.datagram.now in
    let answer = ap answer_in_books (sym c.in-Some.is) ∙ c.take_head.ensures.answer l items d key at st in
    let found = found-at l items d c.take_head.result c.in-Some.found c.in-Some.is
    (c.take_head.ensures.found l items d key at st) in
    let enters : Enters l items c.in-Some.found d = record {
      found = found;
      first = sym answer ∙ first-is c.in-Some.found.receipt.taken (sym c.if-is_entered.ensures);
    } in
    let after = c.take_head.ensures.stands l items d key at st in
    let F : List FrameView → Type 0 = λ fs.
    StandsFor c.enter_samples.new.books l (Got (with_samples d (samples_in (frame_trees samples_read fs))) ∷ items) in
    let P : Datagram → Type 0 = λ x. StandsFor c.enter_samples.new.books l (Got x ∷ items) in
    subst P (sym (datagram-in-tree c.args.at c.args.datagram.now)) (subst F c.samples-samples.ensures.exact
    (c.enter_samples.ensures.stands l items d enters after))

pub returns-then-is_entered-clause-answer : goal.returns-then-is_entered-clause-answer
returns-then-is_entered-clause-answer g c = λ l items stands.
    let S : CollectorState → Type 0 = λ t. StandsFor t.books l items in
    let st = subst S (sym c.self.view_is) stands in
    let key = key-stream c.args.at c.args.datagram.now c.head-head.result c.head-head.ensures in
    let at = is-at c.args.at c.args.datagram.now c.head-head.result c.head-head.ensures in
    let d : Datagram = datagram_at c.args.at c.args.datagram.now in
    let answer = ap answer_in_books (sym c.in-Some.is) ∙ c.take_head.ensures.answer l items d key at st in
    let P : Datagram → Type 0 = λ x. c.in-Some.found.receipt.taken ≡ taken l items (Got x) in
    subst P (sym (datagram-in-tree c.args.at c.args.datagram.now))
    (answered c.self.inside.books l items (Got d) c.in-Some.found.receipt.taken st (not-spent c.self.inside.books.totals.entries c.is_spent.result c.is_spent.ensures c.if-is_spent.false) answer)

pub returns-then-is_entered-clause-fed : goal.returns-then-is_entered-clause-fed
returns-then-is_entered-clause-fed g c = λ l items few stands.
    let S : CollectorState → Type 0 = λ t. StandsFor t.books l items in
    let st = subst S (sym c.self.view_is) stands in
    let key = key-stream c.args.at c.args.datagram.now c.head-head.result c.head-head.ensures in
    let at = is-at c.args.at c.args.datagram.now c.head-head.result c.head-head.ensures in
    let d : Datagram = datagram_at c.args.at c.args.datagram.now in
    let answer = ap answer_in_books (sym c.in-Some.is) ∙ c.take_head.ensures.answer l items d key at st in
    let found = found-at l items d c.take_head.result c.in-Some.found c.in-Some.is
    (c.take_head.ensures.found l items d key at st) in
    let enters : Enters l items c.in-Some.found d = record {
      found = found;
      first = sym answer ∙ first-is c.in-Some.found.receipt.taken (sym c.if-is_entered.ensures);
    } in
    let after = c.take_head.ensures.stands l items d key at st in
    let n = c.in-Some.found.receipt.number in
    let briefs = briefs_now l items (headered c.args.at (tree_of c.args.datagram.now)) in
    let same = ap (λ fs. map brief_in (headers_entered l items d n fs)) c.samples-samples.ensures.exact
    ∙ briefs-first l items c.args.at c.args.datagram.now n enters.first found.number_is in
    let all = all-went (λ x b y. (v : _) × (y ≡ record x { value = v }) × (goal.Tap-dyn g (x.vtable, x.value)).step x.value b v) (λ x. (goal.Tap-dyn g (x.vtable, x.value)).ended x.value)
    c.self.inside.briefing c.enter_samples.new.briefing c.finish.new.self c.args.taps.now.held.items c.enter_samples.new.taps.held.items
    c.finish.new.taps.held.items _ briefs c.self.invariant c.finish.ensures.pending same
    (c.enter_samples.ensures.passes l items d enters after) c.finish.ensures.passes in
    all.held

pub returns-then-is_entered-clause-classes : goal.returns-then-is_entered-clause-classes
returns-then-is_entered-clause-classes g c = λ l items few stands.
    let S : CollectorState → Type 0 = λ t. StandsFor t.books l items in
    let st = subst S (sym c.self.view_is) stands in
    let key = key-stream c.args.at c.args.datagram.now c.head-head.result c.head-head.ensures in
    let at = is-at c.args.at c.args.datagram.now c.head-head.result c.head-head.ensures in
    let d : Datagram = datagram_at c.args.at c.args.datagram.now in
    let answer = ap answer_in_books (sym c.in-Some.is) ∙ c.take_head.ensures.answer l items d key at st in
    let found = found-at l items d c.take_head.result c.in-Some.found c.in-Some.is
    (c.take_head.ensures.found l items d key at st) in
    let enters : Enters l items c.in-Some.found d = record {
      found = found;
      first = sym answer ∙ first-is c.in-Some.found.receipt.taken (sym c.if-is_entered.ensures);
    } in
    let after = c.take_head.ensures.stands l items d key at st in
    let n = c.in-Some.found.receipt.number in
    let briefs = briefs_now l items (headered c.args.at (tree_of c.args.datagram.now)) in
    let same = ap (λ fs. map brief_in (headers_entered l items d n fs)) c.samples-samples.ensures.exact
    ∙ briefs-first l items c.args.at c.args.datagram.now n enters.first found.number_is in
    let all = all-went (λ x b y. (v : _) × (y ≡ record x { value = v }) × (goal.Tap-dyn g (x.vtable, x.value)).step x.value b v) (λ x. (goal.Tap-dyn g (x.vtable, x.value)).ended x.value)
    c.self.inside.briefing c.enter_samples.new.briefing c.finish.new.self c.args.taps.now.held.items c.enter_samples.new.taps.held.items
    c.finish.new.taps.held.items _ briefs c.self.invariant c.finish.ensures.pending same
    (c.enter_samples.ensures.passes l items d enters after) c.finish.ensures.passes in
    all.totals ∙ ap (λ (s : CollectorState). with_headers s.classes (map facts_in briefs)) c.self.view_is

-- ---- one of a listed stream that isn't

pub returns-clause-stands : goal.returns-clause-stands
returns-clause-stands g c = λ l items few stands.
    let S : CollectorState → Type 0 = λ t. StandsFor t.books l items in
    let st = subst S (sym c.self.view_is) stands in
    let key = key-stream c.args.at c.args.datagram.now c.head-head.result c.head-head.ensures in
    let at = is-at c.args.at c.args.datagram.now c.head-head.result c.head-head.ensures in
    let d : Datagram = datagram_at c.args.at c.args.datagram.now in
    let answer = ap answer_in_books (sym c.in-Some.is) ∙ c.take_head.ensures.answer l items d key at st in
    let P : Datagram → Type 0 = λ x. StandsFor c.take_head.new.self l (Got x ∷ items) in
    subst P (sym (datagram-in-tree c.args.at c.args.datagram.now))
    (passes c.take_head.new.self l items d c.in-Some.found.receipt.taken (sym c.is_entered.ensures ∙ c.if-is_entered.false) answer
    (c.take_head.ensures.stands l items d key at st))

pub returns-clause-answer : goal.returns-clause-answer
returns-clause-answer g c = λ l items stands.
    let S : CollectorState → Type 0 = λ t. StandsFor t.books l items in
    let st = subst S (sym c.self.view_is) stands in
    let key = key-stream c.args.at c.args.datagram.now c.head-head.result c.head-head.ensures in
    let at = is-at c.args.at c.args.datagram.now c.head-head.result c.head-head.ensures in
    let d : Datagram = datagram_at c.args.at c.args.datagram.now in
    let answer = ap answer_in_books (sym c.in-Some.is) ∙ c.take_head.ensures.answer l items d key at st in
    let P : Datagram → Type 0 = λ x. c.in-Some.found.receipt.taken ≡ taken l items (Got x) in
    subst P (sym (datagram-in-tree c.args.at c.args.datagram.now))
    (answered c.self.inside.books l items (Got d) c.in-Some.found.receipt.taken st (not-spent c.self.inside.books.totals.entries c.is_spent.result c.is_spent.ensures c.if-is_spent.false) answer)

pub returns-clause-fed : goal.returns-clause-fed
returns-clause-fed g c = λ l items few stands.
    let S : CollectorState → Type 0 = λ t. StandsFor t.books l items in
    let st = subst S (sym c.self.view_is) stands in
    let key = key-stream c.args.at c.args.datagram.now c.head-head.result c.head-head.ensures in
    let at = is-at c.args.at c.args.datagram.now c.head-head.result c.head-head.ensures in
    let d : Datagram = datagram_at c.args.at c.args.datagram.now in
    let answer = ap answer_in_books (sym c.in-Some.is) ∙ c.take_head.ensures.answer l items d key at st in
    let other = briefs-other l items c.args.at c.args.datagram.now (ap is_first (sym answer) ∙ (sym c.is_entered.ensures ∙ c.if-is_entered.false)) in
    held-none (λ x b y. (v : _) × (y ≡ record x { value = v }) × (goal.Tap-dyn g (x.vtable, x.value)).step x.value b v) (λ x. (goal.Tap-dyn g (x.vtable, x.value)).ended x.value)
    c.args.taps.now.held.items _ other

pub returns-clause-classes : goal.returns-clause-classes
returns-clause-classes g c = λ l items few stands.
    let S : CollectorState → Type 0 = λ t. StandsFor t.books l items in
    let st = subst S (sym c.self.view_is) stands in
    let key = key-stream c.args.at c.args.datagram.now c.head-head.result c.head-head.ensures in
    let at = is-at c.args.at c.args.datagram.now c.head-head.result c.head-head.ensures in
    let d : Datagram = datagram_at c.args.at c.args.datagram.now in
    let answer = ap answer_in_books (sym c.in-Some.is) ∙ c.take_head.ensures.answer l items d key at st in
    let other = briefs-other l items c.args.at c.args.datagram.now (ap is_first (sym answer) ∙ (sym c.is_entered.ensures ∙ c.if-is_entered.false)) in
    counted-none c.self.inside.briefing.totals _ other
    ∙ ap (λ (s : CollectorState). with_headers s.classes (map facts_in (briefs_now l items (headered c.args.at (tree_of c.args.datagram.now)))))
    c.self.view_is

-- ---- one of a stream that isn't listed

pub returns-in_default-clause-stands : goal.returns-in_default-clause-stands
returns-in_default-clause-stands g c = λ l items few stands.
    let S : CollectorState → Type 0 = λ t. StandsFor t.books l items in
    let st = subst S (sym c.self.view_is) stands in
    let key = key-stream c.args.at c.args.datagram.now c.head-head.result c.head-head.ensures in
    let at = is-at c.args.at c.args.datagram.now c.head-head.result c.head-head.ensures in
    let d : Datagram = datagram_at c.args.at c.args.datagram.now in
    let answer = ap answer_in_books (sym c.in_default.is) ∙ c.take_head.ensures.answer l items d key at st in
    let P : Datagram → Type 0 = λ x. StandsFor c.take_head.new.self l (Got x ∷ items) in
    subst P (sym (datagram-in-tree c.args.at c.args.datagram.now))
    (passes c.take_head.new.self l items d Unlisted refl answer
    (c.take_head.ensures.stands l items d key at st))

pub returns-in_default-clause-answer : goal.returns-in_default-clause-answer
returns-in_default-clause-answer g c = λ l items stands.
    let S : CollectorState → Type 0 = λ t. StandsFor t.books l items in
    let st = subst S (sym c.self.view_is) stands in
    let key = key-stream c.args.at c.args.datagram.now c.head-head.result c.head-head.ensures in
    let at = is-at c.args.at c.args.datagram.now c.head-head.result c.head-head.ensures in
    let d : Datagram = datagram_at c.args.at c.args.datagram.now in
    let answer = ap answer_in_books (sym c.in_default.is) ∙ c.take_head.ensures.answer l items d key at st in
    let P : Datagram → Type 0 = λ x. Unlisted ≡ taken l items (Got x) in
    subst P (sym (datagram-in-tree c.args.at c.args.datagram.now))
    (answered c.self.inside.books l items (Got d) Unlisted st (not-spent c.self.inside.books.totals.entries c.is_spent.result c.is_spent.ensures c.if-is_spent.false) answer)

pub returns-in_default-clause-fed : goal.returns-in_default-clause-fed
returns-in_default-clause-fed g c = λ l items few stands.
    let S : CollectorState → Type 0 = λ t. StandsFor t.books l items in
    let st = subst S (sym c.self.view_is) stands in
    let key = key-stream c.args.at c.args.datagram.now c.head-head.result c.head-head.ensures in
    let at = is-at c.args.at c.args.datagram.now c.head-head.result c.head-head.ensures in
    let d : Datagram = datagram_at c.args.at c.args.datagram.now in
    let answer = ap answer_in_books (sym c.in_default.is) ∙ c.take_head.ensures.answer l items d key at st in
    let other = briefs-other l items c.args.at c.args.datagram.now (ap is_first (sym answer) ∙ refl) in
    held-none (λ x b y. (v : _) × (y ≡ record x { value = v }) × (goal.Tap-dyn g (x.vtable, x.value)).step x.value b v) (λ x. (goal.Tap-dyn g (x.vtable, x.value)).ended x.value)
    c.args.taps.now.held.items _ other

pub returns-in_default-clause-classes : goal.returns-in_default-clause-classes
returns-in_default-clause-classes g c = λ l items few stands.
    let S : CollectorState → Type 0 = λ t. StandsFor t.books l items in
    let st = subst S (sym c.self.view_is) stands in
    let key = key-stream c.args.at c.args.datagram.now c.head-head.result c.head-head.ensures in
    let at = is-at c.args.at c.args.datagram.now c.head-head.result c.head-head.ensures in
    let d : Datagram = datagram_at c.args.at c.args.datagram.now in
    let answer = ap answer_in_books (sym c.in_default.is) ∙ c.take_head.ensures.answer l items d key at st in
    let other = briefs-other l items c.args.at c.args.datagram.now (ap is_first (sym answer) ∙ refl) in
    counted-none c.self.inside.briefing.totals _ other
    ∙ ap (λ (s : CollectorState). with_headers s.classes (map facts_in (briefs_now l items (headered c.args.at (tree_of c.args.datagram.now)))))
    c.self.view_is
