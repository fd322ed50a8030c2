use Rattle.std.proofs.Common.{◌≡◌, ℕ, ◌+◌, ◌≤◌, ◌<◌, Bool, true, false, [], ◌∷◌, if◌then◌else◌, length, refl, sym, ap, subst, ◌∙◌, arith}
use Rattle.books_spec.specs.declared.limits.Limits.{Limits}
use Rattle.books_spec.specs.Items.{Datagram, Got}
use Rattle.books_spec.specs.Books.{most_entries}
use Rattle.collector_tables.specs.Keys.{stream_in}
use Rattle.collector_tables.specs.Answers.{answer_in_books}
use Rattle.flow_collector.specs.Collectors.{BooksState, books_state, StandsFor}
use Rattle.flow_collector.proofs.Counts.{stream-kept}
use Rattle.flow_collector.proofs.Found.{some-found, none-is-unlisted}
use Rattle.flow_collector.proofs.Kept.{entries-are, unlisted-few}
use Rattle.flow_collector.proofs.Moves.{head-stands}
use Rattle.flow_collector.proofs.Takes.{found-midway}
use Rattle.flow_collector.proofs.books.Books.take_head.Goals as goal

pub take-found-requires-clause-few : goal.take-found-requires-clause-few
take-found-requires-clause-few c = λ p k was at.
    let s : BooksState = books_state c.self.inside in
    let v = c.self.invariant in
    let kept = stream-kept s.limits v.items s.streams.entries p k was at v.stands.streams_stand in
    let few = v.few_entries in
    omega (arith, kept, few)

one-at-most : (b : Bool) (n : ℕ) → n ≡ (if b then 0 else 1) → n ≤ 1
one-at-most true n e = omega (arith, e)
one-at-most false n e = omega (arith, e)

pub overflow_add-self-2 : goal.overflow_add-self-2
overflow_add-self-2 c =
    let s : BooksState = books_state c.self.inside in
    let v = c.self.invariant in
    let some = unlisted-few s s.limits v.items v.stands in
    let few = v.few_entries in
    let one = one-at-most c.is_some.result c.none_count.result c.none_count.ensures in
    omega (arith, some, few, one)

pub returns-clause-stands : goal.returns-clause-stands
returns-clause-stands c = λ l items d key at st.
    let s : BooksState = books_state c.self.inside in
    let P : BooksState → Type 0 = λ t. StandsFor t l items in
    let stands = subst P (sym c.self.view_is) st in
    let width = ap (λ (x : Limits). x.datagram_width) (sym stands.limits_are) in
    let slack = ap (λ (x : Limits). x.boot_slack) (sym stands.limits_are) in
    let answer = c.take-found.ensures.answer l items d (sym stands.stream_limit) width slack key at stands.streams_stand in
    let now = c.take-found.ensures.stands l items d (sym stands.stream_limit) width slack key at stands.streams_stand in
    let found = some-found l items d c.take-found.new.self.entries c.args.stream c.take-found.result
    c.take-found.ensures.place
    (c.take-found.ensures.number l items d (sym stands.stream_limit) width slack key at stands.streams_stand) key now in
    head-stands s l items d c.take-found.new.self (answer_in_books c.take-found.result) _ answer
    (ap (λ n. s.totals.unlisted + n) (c.none_count.ensures ∙ ap (λ b. if b then 0 else 1) c.is_some.ensures ∙ none-is-unlisted l items d c.take-found.result answer found))
    c.take-found.ensures.limit now stands

pub returns-clause-found : goal.returns-clause-found
returns-clause-found c = λ l items d key at st.
    let s : BooksState = books_state c.self.inside in
    let P : BooksState → Type 0 = λ t. StandsFor t l items in
    let stands = subst P (sym c.self.view_is) st in
    let width = ap (λ (x : Limits). x.datagram_width) (sym stands.limits_are) in
    let slack = ap (λ (x : Limits). x.boot_slack) (sym stands.limits_are) in
    let now = c.take-found.ensures.stands l items d (sym stands.stream_limit) width slack key at stands.streams_stand in
    some-found l items d c.take-found.new.self.entries c.args.stream c.take-found.result c.take-found.ensures.place
    (c.take-found.ensures.number l items d (sym stands.stream_limit) width slack key at stands.streams_stand) key now

pub returns-clause-midway : goal.returns-clause-midway
returns-clause-midway c =
    let s : BooksState = books_state c.self.inside in
    let v = c.self.invariant in
    let d : Datagram = record {
      arrival = c.args.at;
      head = record {
        agent = (stream_in c.args.stream).agent;
        sub_agent = c.args.stream.sub_agent;
        sequence = c.args.sequence;
        uptime = c.args.uptime;
      };
      samples = [];
    } in
    let number = entries-are s s.limits v.items v.stands in
    let R : BooksState → Type 0 = λ t. t.totals.entries < most_entries in
    let room = subst R (sym c.self.view_is) c.requires in
    let fewer : length v.items < most_entries = omega (arith, number, room) in
    let answer = c.take-found.ensures.answer s.limits v.items d (sym v.stands.stream_limit) refl refl refl
    (refl, refl, refl) v.stands.streams_stand in
    let now = c.take-found.ensures.stands s.limits v.items d (sym v.stands.stream_limit) refl refl refl
    (refl, refl, refl) v.stands.streams_stand in
    let found = some-found s.limits v.items d c.take-found.new.self.entries c.args.stream c.take-found.result
    c.take-found.ensures.place (c.take-found.ensures.number s.limits v.items d (sym v.stands.stream_limit) refl refl refl
    (refl, refl, refl) v.stands.streams_stand) refl now in
    found-midway _ s.limits v.items d c.take-found.result answer found
    (head-stands s s.limits v.items d c.take-found.new.self (answer_in_books c.take-found.result) _ answer
    (ap (λ n. s.totals.unlisted + n)
    (c.none_count.ensures ∙ ap (λ b. if b then 0 else 1) c.is_some.ensures ∙ none-is-unlisted s.limits v.items d c.take-found.result answer found))
    c.take-found.ensures.limit now v.stands) v.few_samples fewer

pub invariant_of-self : goal.invariant_of-self
invariant_of-self c =
    let s : BooksState = books_state c.self.inside in
    let v = c.self.invariant in
    let d : Datagram = record {
      arrival = c.args.at;
      head = record {
        agent = (stream_in c.args.stream).agent;
        sub_agent = c.args.stream.sub_agent;
        sequence = c.args.sequence;
        uptime = c.args.uptime;
      };
      samples = [];
    } in
    let number = entries-are s s.limits v.items v.stands in
    let R : BooksState → Type 0 = λ t. t.totals.entries < most_entries in
    let room = subst R (sym c.self.view_is) c.requires in
    let few : length (Got d ∷ v.items) ≤ most_entries = omega (arith, number, room) in
    let answer = c.take-found.ensures.answer s.limits v.items d (sym v.stands.stream_limit) refl refl refl
    (refl, refl, refl) v.stands.streams_stand in
    let now = c.take-found.ensures.stands s.limits v.items d (sym v.stands.stream_limit) refl refl refl
    (refl, refl, refl) v.stands.streams_stand in
    let found = some-found s.limits v.items d c.take-found.new.self.entries c.args.stream c.take-found.result
    c.take-found.ensures.place (c.take-found.ensures.number s.limits v.items d (sym v.stands.stream_limit) refl refl refl
    (refl, refl, refl) v.stands.streams_stand) refl now in
    record {
      within = v.within;
      items = Got d ∷ v.items;
      stands = head-stands s s.limits v.items d c.take-found.new.self (answer_in_books c.take-found.result) _ answer
          (ap (λ n. s.totals.unlisted + n)
          (c.none_count.ensures ∙ ap (λ b. if b then 0 else 1) c.is_some.ensures ∙ none-is-unlisted s.limits v.items d c.take-found.result answer found))
          c.take-found.ensures.limit now v.stands;
      few_samples = (omega arith, v.few_samples);
      few_entries = few;
    }
