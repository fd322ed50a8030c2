use Rattle.std.proofs.Common.{arith}
use Rattle.flow_collector.proofs.Carried.{none-shown, some-shown}
use Rattle.flow_collector.proofs.interfaces.carried_view.Goals as goal

pub returns-then-samples-eq0 : goal.returns-then-samples-eq0
returns-then-samples-eq0 c = λ width boots st.
    let none = c.if-samples-eq0.true in
    none-shown width c.args.ledger.now boots c.samples-samples.result (omega (arith, none)) c.samples-samples.ensures.entered st

pub returns : goal.returns
returns c = λ width boots st.
    let some = c.if-samples-eq0.false in
    some-shown width c.args.ledger.now boots (record { samples = c.samples-samples.result; rises = c.rises-rises.result })
    (omega (arith, some))
    (λ runs shows j. record { samples = c.samples-samples.ensures.entered runs shows j; rises = c.rises-rises.ensures runs shows j }) st
