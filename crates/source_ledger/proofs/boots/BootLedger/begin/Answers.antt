use Rattle.std.proofs.Common.{◌<◌, ◌≤◌, ◌+◌, ◌∷◌, length, arith}
use Rattle.source_ledger.specs.Fields.{boots_state}
use Rattle.source_ledger.proofs.BootSteps.{later-boot, same-boot}
use Rattle.source_ledger.proofs.boots.BootLedger.begin.Goals as goal

pub returns-then-boot-self-clause-stands : goal.returns-then-boot-self-clause-stands
returns-then-boot-self-clause-stands c = rw (← c.self.view_is) (λ current closed number st.
    let later : c.self.inside.boot < length closed + 1 = omega (arith, number, c.if-boot-self.true) in
    later-boot (boots_state c.self.inside) c.close.new.self current closed later st c.close.ensures.stands)

pub returns-else-boot-self-clause-stands : goal.returns-else-boot-self-clause-stands
returns-else-boot-self-clause-stands c = rw (← c.self.view_is) (λ current closed number st.
    let last : length closed + 1 ≤ c.self.inside.boot = omega (arith, number, c.if-boot-self.false) in
    same-boot (boots_state c.self.inside) (current ∷ closed) (omega (arith, last)) st)
