use Rattle.std.proofs.Common.{◌≡◌, ◌∙◌, ℤ, refl, subst, rules}
use Rattle.std.specs.Int.{w128}
use Rattle.std.proofs.lemmas.Int.{to_z-of_z}
use Rattle.std.proofs.lemmas.Option.{get_or_from_slice_get}
use mir.Val.{SFits}
use Rattle.if_ledger.specs.Boots.{Takes}
use Rattle.if_ledger.specs.Ledgers.{IfState}
use Rattle.if_ledger.specs.Records.{counters_in}
use Rattle.if_ledger.proofs.table.IfTable.enter.Goals as goal

pub returns-clause-now : goal.returns-clause-now
returns-clause-now c = rw (← c.self.view_is) (λ was at.
    let same : c.index_mut.result.now ≡ was = c.index_mut.ensures.value
    ∙ get_or_from_slice_get c.self.inside.ledgers.items c.args.place was c.index_mut.result.now at in
    let fits : SFits w128 c.args.number = search rules in
    let P : IfState → Type 0 =
    λ s. Takes c.args.run (record { number = c.args.number; counters = counters_in c.args.counters.now }) s c.enter.new.self in
    let N : ℤ → Type 0 = λ n. Takes c.args.run (record { number = n; counters = counters_in c.args.counters.now })
    c.index_mut.result.now c.enter.new.self in (
      c.enter.new.self,
      refl,
      subst P same (subst N (to_z-of_z w128 c.args.number fits) (record {
        begins = c.enter.ensures.begins;
        goes_on = c.enter.ensures.goes_on;
        run_is = c.enter.ensures.run;
      })),
    ))
