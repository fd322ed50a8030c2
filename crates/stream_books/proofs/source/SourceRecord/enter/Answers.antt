use Rattle.std.proofs.Common.{◌∷◌, refl, sym, subst, ap, ◌∙◌}
use Rattle.books_spec.specs.Generations.{booked}
use Rattle.books_spec.specs.SourceViews.{place_in, placed_mark}
use Rattle.stream_books.specs.Sources.{StandsFor, width_of}
use Rattle.stream_books.specs.declared.source.SourceRecord.{SourceRecord}
use Rattle.stream_books.proofs.source.SourceRecord.enter.Goals as goal

pub returns-in-Flow-clause-stands : goal.returns-in-Flow-clause-stands
returns-in-Flow-clause-stands c = λ current closed number st.
    c.enter.ensures.stands current closed number
    (subst (λ (s : SourceRecord). StandsFor s (current ∷ closed)) c.in-Flow.is st)

pub returns-in-Flow-clause-answer : goal.returns-in-Flow-clause-answer
returns-in-Flow-clause-answer c = λ current closed number st.
    c.enter.ensures.answer current closed number
    (subst (λ (s : SourceRecord). StandsFor s (current ∷ closed)) c.in-Flow.is st)
    ∙ ap (λ (s : SourceRecord). booked place_in placed_mark (width_of s) current (record { place = c.args.at; reading = c.args.reading }))
    (sym c.in-Flow.is)

pub returns-in-Counters-clause-stands : goal.returns-in-Counters-clause-stands
returns-in-Counters-clause-stands c = λ current closed number st.
    c.enter-in-Counters.ensures.stands (record { place = c.args.at; reading = c.args.reading }) current closed refl refl number
    (subst (λ (s : SourceRecord). StandsFor s (current ∷ closed)) c.in-Counters.is st)

pub returns-in-Counters-clause-answer : goal.returns-in-Counters-clause-answer
returns-in-Counters-clause-answer c = λ current closed number st.
    c.enter-in-Counters.ensures.answer (record { place = c.args.at; reading = c.args.reading }) current closed refl refl number
    (subst (λ (s : SourceRecord). StandsFor s (current ∷ closed)) c.in-Counters.is st)
    ∙ ap (λ (s : SourceRecord). booked place_in placed_mark (width_of s) current (record { place = c.args.at; reading = c.args.reading }))
    (sym c.in-Counters.is)
