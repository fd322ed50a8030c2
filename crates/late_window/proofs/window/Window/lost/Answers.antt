use Rattle.std.proofs.Common.{◌∙◌, ap, arith, ◌+◌, ◌-◌, ◌≤◌, ◌≡◌, sym, ℕ}
use Rattle.late_window.specs.States.{WindowState, issued_count, pending_count}
use Rattle.late_window.proofs.Figures.{pending-kept, sum-kept, lost-shown}
use Rattle.late_window.proofs.window.Window.lost.Goals as goal

left : (issued received pending counted waiting out : ℕ) → received + pending ≤ issued → counted ≡ received
    → waiting ≡ pending → out ≡ issued → issued ≡ counted + waiting + (out - received - pending)
left issued received pending counted waiting out sum r p o = omega arith

pub returns-clause-conserved : goal.returns-clause-conserved
returns-clause-conserved c =
    let sum : c.self.inside.received + c.self.inside.pending ≤ issued_count c.args.self.now =
    rw (← c.self.view_is) (sum-kept c.self.inside c.self.invariant) in
    left (issued_count c.args.self.now) c.self.inside.received c.self.inside.pending c.args.self.now.received
    (pending_count c.args.self.now) c.issued.result sum
    (sym (ap (λ (s : WindowState). s.received) c.self.view_is))
    (sym (pending-kept c.self.inside c.self.invariant ∙ ap pending_count c.self.view_is))
    c.issued.ensures.value

pub returns-clause-part : goal.returns-clause-part
returns-clause-part c = λ marks st.
    let sum : c.self.inside.received + c.self.inside.pending ≤ issued_count c.args.self.now =
    rw (← c.self.view_is) (sum-kept c.self.inside c.self.invariant) in
    let one : 1 ≤ c.args.self.now.width = rw (← c.self.view_is) c.self.invariant.width_from in
    lost-shown c.args.self.now marks (c.issued.result - c.self.inside.received - c.self.inside.pending) st.shows one
    (left (issued_count c.args.self.now) c.self.inside.received c.self.inside.pending c.args.self.now.received
    (pending_count c.args.self.now) c.issued.result sum
    (sym (ap (λ (s : WindowState). s.received) c.self.view_is))
    (sym (pending-kept c.self.inside c.self.invariant ∙ ap pending_count c.self.view_is))
    c.issued.ensures.value)
