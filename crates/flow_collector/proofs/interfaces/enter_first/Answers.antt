use Rattle.std.proofs.Common.{Option, refl, sym, subst}
use Rattle.books_spec.specs.InterfaceRise.{NumberedCounters}
use Rattle.if_ledger.specs.Boots.{TakesAny}
use Rattle.if_ledger.specs.Records.{counters_in}
use Rattle.flow_collector.specs.Interfaces.{run_in}
use Rattle.flow_collector.proofs.Carried.{added-not}
use Rattle.flow_collector.proofs.InterfaceSteps.{set-same}
use Rattle.flow_collector.proofs.interfaces.enter_first.Goals as goal

pub returns-in_default-clause-now : goal.returns-in_default-clause-now
returns-in_default-clause-now c = λ k s was at is_there.
    let T : Option NumberedCounters → Type 0 = λ x. TakesAny (run_in s) x was was in (
      was,
      sym (set-same c.args.interfaces.now.ledgers c.args.entered.now.place was is_there),
      subst T (sym (added-not c.args.entered.now.booked (counters_in c.args.counters.now) c.in_default.ensures)) refl,
    )
