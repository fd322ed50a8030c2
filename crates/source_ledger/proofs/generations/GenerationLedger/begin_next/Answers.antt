use Rattle.std.proofs.Common.{ℕ, ◌+◌, [], refl, ap, ◌∙◌}
use Rattle.books_spec.specs.declared.booked.Booked.TheVariants.{Entered}
use Rattle.source_ledger.proofs.generations.GenerationLedger.begin_next.Goals as goal

pub returns : goal.returns
returns c = rw (← c.self.view_is) (record {
  opens = record {
    boot_is = refl;
    generations_are = refl;
    in_boot_are = refl;
    stale_are = refl;
    opened_is = refl;
    newest_is = refl;
    width_is = c.enter-answer.ensures.width ∙ c.close.ensures.width;
    entered_are = c.enter-answer.ensures.entered ∙ ap (λ (n : ℕ). n + 1) c.close.ensures.entered;
    marks_stand = λ stretches st. c.enter-answer.ensures.stands [] stretches (c.close.ensures.stands stretches st);
    answered = λ stretches st.
        ap Entered (c.enter-answer.ensures.answer [] stretches (c.close.ensures.stands stretches st));
  };
})
