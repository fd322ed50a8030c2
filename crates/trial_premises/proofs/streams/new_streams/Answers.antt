use Rattle.std.proofs.Common.{◌≡◌, ◌∙◌, ◌++◌, ℕ, List, [], ◌∷◌, take, length, get_or, sym, subst, arith}
use Rattle.std.proofs.lemmas.List.{take_more, take_all, length-map}
use Rattle.books_spec.specs.declared.limits.Limits.{Limits}
use Rattle.books_spec.specs.Items.{SourceId}
use Rattle.account_spec.specs.Histories.{SubAgent, stream_in}
use Rattle.account_spec.specs.Deliveries.{deliveries_of, id_of}
use Rattle.trial_premises.specs.Pairs.{Each}
use Rattle.trial_premises.specs.Streams.{StreamState, StandsFor, sources_of, ids_of}
use Rattle.trial_premises.proofs.Pairs.{each-push, each-through}
use Rattle.trial_premises.proofs.streams.new_streams.Goals as goal

abbrev IsNew : Limits → ℕ → StreamState → Type 0
IsNew l n s = (ids : List SourceId) → length ids ≡ n → StandsFor l ids s []

pub loop-count-preserved : goal.loop-count-preserved
loop-count-preserved c =
    let ns = c.args.sources.now in
    let i = c.loop-count.count-index in
    let before = c.loop-count.streams.items in
    let more = each-push (IsNew c.args.limits.now) (take i ns) before (get_or ns i 0) c.in_ok-open.field-0
    c.loop-count.invariant (λ ids long. c.in_ok-open.ensures ids long) in
    let items = c.in_ok-push.ensures.items in
    subst (λ (xs : List ℕ). Each (IsNew c.args.limits.now) xs c.push.new.self.items) (sym (take_more ns i 0 (omega arith)))
    (subst (λ (ys : List StreamState). Each (IsNew c.args.limits.now) (take i ns ++ get_or ns i 0 ∷ []) ys) (sym items) more)

pub returns : goal.returns
returns c = λ history have.
    let ns = c.args.sources.now in
    each-through (λ (a : SubAgent) (n : ℕ). length (sources_of a) ≡ n) (IsNew c.args.limits.now)
    (λ (a : SubAgent) (s : StreamState). StandsFor c.args.limits.now (ids_of a) s (deliveries_of (stream_in a) []))
    history ns c.loop-count.streams.items
    (λ a n s count new. new (ids_of a) (length-map (sources_of a) id_of ∙ count)) have
    (subst (λ (xs : List ℕ). Each (IsNew c.args.limits.now) xs c.loop-count.streams.items)
    (take_all c.loop-count.count-index ns (omega arith)) c.loop-count.invariant)
