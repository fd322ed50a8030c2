use Rattle.std.proofs.Common.{◌≡◌, ◌∙◌, ◌+◌, List, length, take, ap, take_all, arith}
use Rattle.std.specs.List.{sum_by}
use Rattle.true_samples.specs.States.{BootState, TrueState}
use Rattle.true_samples.proofs.Finds.{datagrams-in-all, issued-in-all, dropped-in-all}
use Rattle.true_samples.proofs.sub_agent.TrueSubAgent.totals.Goals as goal

pub returns-clause-datagrams : goal.returns-clause-datagrams
returns-clause-datagrams c = λ sender s events earlier st.
    let t : TrueState = c.args.self.now in
    let items : List BootState = c.deref-boot-items.result.now in
    let same : items ≡ t.earlier = c.deref-boot-items.ensures.value ∙ ap (λ (k : TrueState). k.earlier) c.self.view_is in
    let all : take c.loop-boot.boot-index items ≡ t.earlier =
    take_all c.loop-boot.boot-index items (omega (arith, c.loop-boot-test.false)) ∙ same in
    c.loop-boot.invariant.datagrams ∙ ap (λ (l : List BootState). length t.current.datagrams + sum_by (λ (b : BootState). length b.datagrams) l) all
    ∙ datagrams-in-all sender s t events earlier st

pub returns-clause-issued : goal.returns-clause-issued
returns-clause-issued c = λ sender s events earlier st.
    let t : TrueState = c.args.self.now in
    let items : List BootState = c.deref-boot-items.result.now in
    let same : items ≡ t.earlier = c.deref-boot-items.ensures.value ∙ ap (λ (k : TrueState). k.earlier) c.self.view_is in
    let all : take c.loop-boot.boot-index items ≡ t.earlier =
    take_all c.loop-boot.boot-index items (omega (arith, c.loop-boot-test.false)) ∙ same in
    c.loop-boot.invariant.issued ∙ ap (λ (l : List BootState). t.current.issued + sum_by (λ (b : BootState). b.issued) l) all
    ∙ issued-in-all sender s t events earlier st

pub returns-clause-dropped : goal.returns-clause-dropped
returns-clause-dropped c = λ sender s events earlier st.
    let t : TrueState = c.args.self.now in
    let items : List BootState = c.deref-boot-items.result.now in
    let same : items ≡ t.earlier = c.deref-boot-items.ensures.value ∙ ap (λ (k : TrueState). k.earlier) c.self.view_is in
    let all : take c.loop-boot.boot-index items ≡ t.earlier =
    take_all c.loop-boot.boot-index items (omega (arith, c.loop-boot-test.false)) ∙ same in
    c.loop-boot.invariant.dropped ∙ ap (λ (l : List BootState). t.current.dropped + sum_by (λ (b : BootState). b.dropped) l) all
    ∙ dropped-in-all sender s t events earlier st
