use Rattle.std.proofs.Common.{◌≢◌, ℕ, Some, None, [], ◌∷◌, sym, subst, arith}
use Rattle.trial_spec.specs.Made.{Made, Sent, arrives, arrives_times, boot_number, released}
use Rattle.made_runs.specs.declared.arrivals.Arrivals.{Arrivals}
use Rattle.made_runs.specs.Runs.{Goes, arrived}
use Rattle.made_runs.proofs.Going.{one, twice, and-held, short-on, times-once, twice-of}
use Rattle.made_runs.proofs.run.MadeRun.deliver.Goals as goal

pub returns-in-1 : goal.returns-in-1
returns-in-1 c = λ names m d short named st.
    let s : Sent = (boot_number m, d) in
    let n : Made = arrives s (arrives s m) in
    let g = twice names c.args.self.now c.arrive.new.self c.arrive-in-1.new.self m d c.args.number c.arrive.result
    c.arrive-in-1.result short named st c.arrive.ensures.state c.arrive.ensures.arrival c.arrive-in-1.ensures.state
    c.arrive-in-1.ensures.arrival in
    let all : Arrivals =
    record { first = Some c.arrive.result; second = Some c.arrive-in-1.result; held = c.release-in-1.result } in
    let P : ℕ → Type 0 = λ k. Goes names (arrived all)
    c.release-in-1.new.self m (released (arrives_times k s m)) in
    subst P (sym (twice-of c.args.choice c.in-1.is))
    (and-held names c.release-in-1.result
    (c.arrive-in-1.result ∷ c.arrive.result ∷ []) c.arrive-in-1.new.self
    c.release-in-1.new.self m n (released n) g
    (c.release-in-1.ensures names n (short-on s (arrives s m) (short-on s m short)) g.stands))

pub returns-in_default : goal.returns-in_default
returns-in_default c = λ names m d short named st.
    let not0 : c.args.choice ≢ 0 = grind (arith, c.in_default) in
    let not1 : c.args.choice ≢ 1 = grind (arith, c.in_default) in
    let s : Sent = (boot_number m, d) in
    let n : Made = arrives s m in
    let g = one names c.args.self.now c.arrive-in_default.new.self m d c.args.number c.arrive-in_default.result short named st
    c.arrive-in_default.ensures.state c.arrive-in_default.ensures.arrival in
    let all : Arrivals =
    record { first = Some c.arrive-in_default.result; second = None; held = c.release-in_default.result } in
    let P : ℕ → Type 0 = λ k. Goes names (arrived all)
    c.release-in_default.new.self m (released (arrives_times k s m)) in
    subst P (sym (times-once c.args.choice not0 not1))
    (and-held names c.release-in_default.result (c.arrive-in_default.result ∷ []) c.arrive-in_default.new.self
    c.release-in_default.new.self m n (released n) g (c.release-in_default.ensures names n (short-on s m short) g.stands))
