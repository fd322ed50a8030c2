use Rattle.std.proofs.Common.{◌≡◌, ◌+◌, ◌*◌, ◌^◌, ◌<◌, ℕ, refl, sym, subst, ap, ◌∙◌, rules, arith}
use Rattle.std.specs.Int.{w128}
use Rattle.std.proofs.lemmas.Int.{to_z-of_z}
use mir.Val.{SFits}
use Rattle.count_spec.specs.declared.entered.Place.{Place}
use Rattle.books_spec.specs.InterfaceRise.{NumberedCounters}
use Rattle.if_ledger.specs.Records.{counters_in}
use Rattle.if_ledger.specs.Counters.{greatest_after, least_after, rises_after, AreAtMost}
use Rattle.if_ledger.specs.Ledgers.{IfState, place_in}
use Rattle.if_ledger.specs.Fields.{if_state}
use Rattle.if_ledger.proofs.Entering.{run-begins, run-goes}
use Rattle.if_ledger.proofs.ledger.IfLedger.enter.Goals as goal

pub invariant_of-self : goal.invariant_of-self
invariant_of-self c =
    let v = c.self.invariant in
    let R : IfState → Type 0 = λ s. s.samples < 2 ^ 62 in
    let few = subst R (sym c.self.view_is) c.requires.few in
    let more : 2 ^ 64 * c.self.inside.samples + 2 ^ 64 ≡ 2 ^ 64 * (c.self.inside.samples + 1) = omega arith in
    let A : ℕ → Type 0 = λ n. AreAtMost n c.enter.new.self in
    record {
      few = omega (arith, few);
      sums_few = subst A more (c.enter.ensures.few (2 ^ 64 * c.self.inside.samples) v.sums_few);
    }

pub returns-clause-begins : goal.returns-clause-begins
returns-clause-begins c =
    let x : NumberedCounters = record { number = c.args.number; counters = counters_in c.args.counters.now } in
    let f : SFits w128 c.args.number = search rules in
    let g : SFits w128 c.self.inside.greatest = search rules in
    let l : SFits w128 c.self.inside.least = search rules in
    let gr : SFits w128 c.greatest_number-self-inside.result = search rules in
    let lr : SFits w128 c.least_number-self-inside.result = search rules in
    let number = to_z-of_z w128 c.args.number f in
    let place : c.place-place.result ≡ place_in (if_state c.self.inside) c.args.run c.args.number =
    c.place-place.ensures ∙ (λ j. place_in (sym c.self.view_is j) c.args.run (number j)) in
    let greatest = to_z-of_z w128 c.greatest_number-self-inside.result gr ∙ c.greatest_number-self-inside.ensures
    ∙ (λ j. greatest_after (place j) (number j) (to_z-of_z w128 c.self.inside.greatest g j)) in
    let least = to_z-of_z w128 c.least_number-self-inside.result lr ∙ c.least_number-self-inside.ensures
    ∙ (λ j. least_after (place j) (number j) (to_z-of_z w128 c.self.inside.least l j)) in
    let rises = c.enter.ensures.risen ∙ ap (λ (p : Place). rises_after c.self.inside.rises p x.counters) place in
    rw (← c.self.view_is) (λ runs later st.
    run-begins (if_state c.self.inside) _ c.args.run x runs later st
    (record { samples_is = refl; greatest_is = greatest; least_is = least; rises_is = rises }))

pub returns-clause-goes_on : goal.returns-clause-goes_on
returns-clause-goes_on c =
    let x : NumberedCounters = record { number = c.args.number; counters = counters_in c.args.counters.now } in
    let f : SFits w128 c.args.number = search rules in
    let g : SFits w128 c.self.inside.greatest = search rules in
    let l : SFits w128 c.self.inside.least = search rules in
    let gr : SFits w128 c.greatest_number-self-inside.result = search rules in
    let lr : SFits w128 c.least_number-self-inside.result = search rules in
    let number = to_z-of_z w128 c.args.number f in
    let place : c.place-place.result ≡ place_in (if_state c.self.inside) c.args.run c.args.number =
    c.place-place.ensures ∙ (λ j. place_in (sym c.self.view_is j) c.args.run (number j)) in
    let greatest = to_z-of_z w128 c.greatest_number-self-inside.result gr ∙ c.greatest_number-self-inside.ensures
    ∙ (λ j. greatest_after (place j) (number j) (to_z-of_z w128 c.self.inside.greatest g j)) in
    let least = to_z-of_z w128 c.least_number-self-inside.result lr ∙ c.least_number-self-inside.ensures
    ∙ (λ j. least_after (place j) (number j) (to_z-of_z w128 c.self.inside.least l j)) in
    let rises = c.enter.ensures.risen ∙ ap (λ (p : Place). rises_after c.self.inside.rises p x.counters) place in
    rw (← c.self.view_is) (λ current closed same some out st.
    run-goes (if_state c.self.inside) _ c.args.run x current closed same some out st
    (record { samples_is = refl; greatest_is = greatest; least_is = least; rises_is = rises }))
