use Rattle.std.proofs.Common.{Option, refl, sym, ap, subst}
use Rattle.rec_counters.specs.declared.interface.IfCounters.{IfCounters}
use Rattle.books_spec.specs.InterfaceRise.{NumberedCounters}
use Rattle.if_ledger.specs.Boots.{added, TakesAny}
use Rattle.if_ledger.specs.Tables.{Ledgers}
use Rattle.flow_collector.specs.Interfaces.{run_in}
use Rattle.flow_collector.specs.Shown.{carried_in}
use Rattle.flow_collector.proofs.Carried.{added-none, entered-some}
use Rattle.flow_collector.proofs.InterfaceSteps.{set-same}
use Rattle.flow_collector.proofs.interfaces.enter_carried.Goals as goal

pub returns-in-Some-carried-clause-entered : goal.returns-in-Some-carried-clause-entered
returns-in-Some-carried-clause-entered c =
    entered-some c.args.interfaces.now.ledgers c.enter_first.new.interfaces.ledgers c.args.sources.now.entries
    (carried_in c.args.carried.now) c.args.entered.now c.in-Some.entered c.in-Some.is (λ k s at. record {
      listed = c.list.new.self.ledgers;
      are_listed = record {
        known = λ less. ap (λ (t : Ledgers). t.ledgers) (c.list.ensures.known less);
        new = c.list.ensures.new;
      };
      entered = λ was is_there.
          let step = c.enter_first.ensures.now k s was at is_there in
          let T : Option IfCounters → Type 0 =
          λ x. TakesAny (run_in s) (added c.in-Some.entered.booked (carried_in x)) was step.0 in
          (step.0, step.1, subst T (sym c.in-Some-carried.is) step.2);
    })

pub returns-in_default-carried-clause-entered : goal.returns-in_default-carried-clause-entered
returns-in_default-carried-clause-entered c =
    entered-some c.args.interfaces.now.ledgers c.list.new.self.ledgers c.args.sources.now.entries
    (carried_in c.args.carried.now) c.args.entered.now c.in-Some.entered c.in-Some.is (λ k s at. record {
      listed = c.list.new.self.ledgers;
      are_listed = record {
        known = λ less. ap (λ (t : Ledgers). t.ledgers) (c.list.ensures.known less);
        new = c.list.ensures.new;
      };
      entered = λ was is_there.
          let N : Option NumberedCounters → Type 0 = λ x. TakesAny (run_in s) x was was in
          let T : Option IfCounters → Type 0 =
          λ x. TakesAny (run_in s) (added c.in-Some.entered.booked (carried_in x)) was was in (
            was,
            sym (set-same c.list.new.self.ledgers c.in-Some.entered.place was is_there),
            subst T (sym c.in_default-carried.is) (subst N (sym (added-none c.in-Some.entered.booked)) refl),
          );
    })
