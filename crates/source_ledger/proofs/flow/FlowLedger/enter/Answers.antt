use Rattle.std.proofs.Common.{refl, sym, ◌∙◌}
use Rattle.books_spec.specs.SourceViews.{PlacedReading}
use Rattle.source_ledger.specs.Flows.{FlowState, placed_sample}
use Rattle.source_ledger.specs.Fields.{flow_state}
use Rattle.source_ledger.proofs.FlowSteps.{flow-enters, flow-passes}
use Rattle.source_ledger.proofs.flow.FlowLedger.enter.Goals as goal

pub returns-in-Entered-clause-stands : goal.returns-in-Entered-clause-stands
returns-in-Entered-clause-stands c =
    let x : PlacedReading = placed_sample c.args.at c.args.mark c.args.pool c.args.drops c.args.rate in
    let new : FlowState = record {
      numbers = c.enter-booked.new.self;
      pool = c.enter.new.self;
      drops = c.enter-in-Entered.new.self;
      rate = c.newest_value-self-inside.result;
    } in
    rw (← c.self.view_is) (λ current closed number st.
    flow-enters (flow_state c.self.inside) new x c.in-Entered.answer current closed st
    (c.enter-booked.ensures.stands x current closed refl refl number st.numbers_stand) c.enter-booked.ensures.width
    (sym c.in-Entered.is ∙ c.enter-booked.ensures.answer x current closed refl refl number st.numbers_stand)
    c.enter.ensures.risen c.enter-in-Entered.ensures.risen c.newest_value-self-inside.ensures)

pub returns-in-Entered-clause-answer : goal.returns-in-Entered-clause-answer
returns-in-Entered-clause-answer c =
    let x : PlacedReading = placed_sample c.args.at c.args.mark c.args.pool c.args.drops c.args.rate in
    rw (← c.self.view_is) (λ current closed number st.
    sym c.in-Entered.is ∙ c.enter-booked.ensures.answer x current closed refl refl number st.numbers_stand)

pub returns-in_default-clause-stands : goal.returns-in_default-clause-stands
returns-in_default-clause-stands c =
    let x : PlacedReading = placed_sample c.args.at c.args.mark c.args.pool c.args.drops c.args.rate in
    let new : FlowState = record {
      numbers = c.enter-booked.new.self;
      pool = c.self.inside.pool;
      drops = c.self.inside.drops;
      rate = c.self.inside.rate;
    } in
    rw (← c.self.view_is) (λ current closed number st.
    flow-passes (flow_state c.self.inside) new x current closed st
    (c.enter-booked.ensures.stands x current closed refl refl number st.numbers_stand) c.enter-booked.ensures.width
    (sym c.in_default.is ∙ c.enter-booked.ensures.answer x current closed refl refl number st.numbers_stand)
    refl refl refl)

pub returns-in_default-clause-answer : goal.returns-in_default-clause-answer
returns-in_default-clause-answer c =
    let x : PlacedReading = placed_sample c.args.at c.args.mark c.args.pool c.args.drops c.args.rate in
    rw (← c.self.view_is) (λ current closed number st.
    c.enter-booked.ensures.answer x current closed refl refl number st.numbers_stand)
