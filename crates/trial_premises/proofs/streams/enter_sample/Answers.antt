use Rattle.std.proofs.Common.{◌≡◌, ◌∙◌, ◌<◌, ℕ, Bool, true, false, cond, List, ◌∷◌, Some, length, sym, ap, subst, arith}
use Rattle.std.specs.Prelude.{slice_get, slice_set}
use Rattle.std.proofs.lemmas.Option.{get_or_from_slice_get}
use Rattle.books_spec.specs.Items.{SourceId}
use Rattle.books_spec.specs.Listing.{same_id, AreDistinct}
use Rattle.books_spec.proofs.Keys.{id-same}
use Rattle.account_spec.specs.Deliveries.{id_in}
use Rattle.account_spec.specs.Arrivals.{Arrived}
use Rattle.trial_premises.specs.Samples.{SourceState}
use Rattle.trial_premises.specs.Sources.{StandsFor}
use Rattle.trial_premises.specs.Streams.{SourcesStand, samples_of}
use Rattle.trial_premises.proofs.Pairs.{each-set, each-within}
use Rattle.trial_premises.proofs.Lists.{ids-same}
use Rattle.trial_premises.proofs.streams.enter_sample.Goals as goal

with-one : (b : Bool) → b ≡ true → (a : Arrived) (xs : List Arrived) → cond b (a ∷ xs) xs ≡ a ∷ xs
with-one b e a xs = ap (λ (x : Bool). cond x (a ∷ xs) xs) e

without : (b : Bool) → b ≡ false → (a : Arrived) (xs : List Arrived) → cond b (a ∷ xs) xs ≡ xs
without b e a xs = ap (λ (x : Bool). cond x (a ∷ xs) xs) e

-- at its place one sample more of a source
entered : (width boot : ℕ) (ids : List SourceId) (states : List SourceState) (p : ℕ) (was now : SourceState) (a : Arrived)
    (before : List Arrived) (closed : SourceId → List (List Arrived)) → AreDistinct same_id ids
    → slice_get ids p ≡ Some (id_in a.sample)
    → ((s : SourceState) → slice_get states p ≡ Some s → was ≡ s)
    → ((current : List Arrived) (others : List (List Arrived)) → StandsFor width boot was (current ∷ others)
    → StandsFor width boot now ((a ∷ current) ∷ others))
    → SourcesStand width boot (λ id. samples_of id before ∷ closed id) ids states
    → SourcesStand width boot (λ id. samples_of id (a ∷ before) ∷ closed id) ids (slice_set states p now)
entered width boot ids states p was now a before closed apart at is step st =
    each-set (λ (id : SourceId). id) same_id id-same
    (λ (id : SourceId) (s : SourceState). StandsFor width boot s (samples_of id before ∷ closed id))
    (λ (id : SourceId) (s : SourceState). StandsFor width boot s (samples_of id (a ∷ before) ∷ closed id))
    ids states p own now (subst (AreDistinct same_id) (sym (ids-same ids)) apart) at here others st
  where
    own : SourceId
    own = id_in a.sample

    here : (s : SourceState) → slice_get states p ≡ Some s → StandsFor width boot s (samples_of own before ∷ closed own)
        → StandsFor width boot now (samples_of own (a ∷ before) ∷ closed own)
    here s there old =
        subst (λ (xs : List Arrived). StandsFor width boot now (xs ∷ closed own))
        (sym (with-one (same_id own own) (id-same.self own) a (samples_of own before)))
        (step (samples_of own before) (closed own)
        (subst (λ (x : SourceState). StandsFor width boot x (samples_of own before ∷ closed own)) (sym (is s there)) old))

    others : (id : SourceId) (s : SourceState) → same_id id own ≡ false → StandsFor width boot s (samples_of id before ∷ closed id)
        → StandsFor width boot s (samples_of id (a ∷ before) ∷ closed id)
    others id s other old =
        subst (λ (xs : List Arrived). StandsFor width boot s (xs ∷ closed id))
        (sym (without (same_id id own) other a (samples_of id before))) old

pub returns-in_ok-take : goal.returns-in_ok-take
returns-in_ok-take c = λ ids a before closed apart some h at st.
    entered c.args.width c.args.boot ids c.args.sources.now.items c.args.sample.now.source c.index_mut-source.result.now
    c.take.new.self a before closed apart at
    (λ s there. c.index_mut-source.ensures.value
    ∙ get_or_from_slice_get c.args.sources.now.items c.args.sample.now.source s c.index_mut-source.result.now there)
    (λ current others old. c.in_ok-take.ensures a current others h some old) st

pub returns-else-sample-len : goal.returns-else-sample-len
returns-else-sample-len c = λ ids a before closed apart some h at st.
    let within : c.args.sample.now.source < length c.args.sources.now.items =
    each-within (λ (id : SourceId) (s : SourceState). StandsFor c.args.width c.args.boot s (samples_of id before ∷ closed id))
    ids c.args.sources.now.items c.args.sample.now.source (id_in a.sample) at st in
    absurd (omega arith)
