use Rattle.std.proofs.Common.{◌≡◌, ◌∙◌, ◌<◌, ℕ, Bool, false, cond, List, ◌∷◌, Some, length, sym, ap, subst, arith}
use Rattle.std.specs.Prelude.{slice_get, slice_set}
use Rattle.std.proofs.lemmas.Option.{get_or_from_slice_get}
use Rattle.books_spec.specs.declared.limits.Limits.{Limits}
use Rattle.books_spec.specs.Items.{Stream}
use Rattle.books_spec.specs.Listing.{same_stream}
use Rattle.books_spec.proofs.Keys.{stream-same}
use Rattle.account_spec.specs.Histories.{SubAgent, IsHistory, IsSubAgent, stream_in}
use Rattle.account_spec.specs.Deliveries.{Delivery, deliveries_of}
use Rattle.trial_premises.specs.Streams.{StreamState, StandsFor, StreamsStand, ids_of}
use Rattle.trial_premises.proofs.Pairs.{each-set, each-within}
use Rattle.trial_premises.proofs.Ids.{ids-differ, all-at}
use Rattle.trial_premises.proofs.streams.deliver_at.Goals as goal

abbrev Stands : Limits → List Delivery → SubAgent → StreamState → Type 0
Stands l ds a s = StandsFor l (ids_of a) s (deliveries_of (stream_in a) ds)

own : (a : SubAgent) (d : Delivery) (before : List Delivery) → d.stream ≡ stream_in a
    → deliveries_of (stream_in a) (d ∷ before) ≡ d ∷ deliveries_of (stream_in a) before
own a d before e =
    ap (λ (b : Bool). cond b (d ∷ deliveries_of (stream_in a) before) (deliveries_of (stream_in a) before))
    (ap (λ (s : Stream). same_stream (stream_in a) s) e ∙ stream-same.self (stream_in a))

others : (a z : SubAgent) (d : Delivery) (before : List Delivery) → d.stream ≡ stream_in a
    → same_stream (stream_in z) (stream_in a) ≡ false
    → deliveries_of (stream_in z) (d ∷ before) ≡ deliveries_of (stream_in z) before
others a z d before e other =
    ap (λ (b : Bool). cond b (d ∷ deliveries_of (stream_in z) before) (deliveries_of (stream_in z) before))
    (ap (λ (s : Stream). same_stream (stream_in z) s) e ∙ other)

-- at its place one delivery more of a sub-agent
delivered : (l : Limits) (history : List SubAgent) (states : List StreamState) (p : ℕ) (was now : StreamState) (a : SubAgent)
    (d : Delivery) (before : List Delivery) → IsHistory history → slice_get history p ≡ Some a → d.stream ≡ stream_in a
    → ((s : StreamState) → slice_get states p ≡ Some s → was ≡ s)
    → (StandsFor l (ids_of a) was (deliveries_of (stream_in a) before)
    → StandsFor l (ids_of a) now (d ∷ deliveries_of (stream_in a) before))
    → StreamsStand l history states before → StreamsStand l history (slice_set states p now) (d ∷ before)
delivered l history states p was now a d before h at e is step st =
    each-set stream_in same_stream stream-same (Stands l before) (Stands l (d ∷ before)) history states p a now h.once at
    (λ s there old. subst (λ (ds : List Delivery). StandsFor l (ids_of a) now ds) (sym (own a d before e))
    (step (subst (λ (x : StreamState). Stands l before a x) (sym (is s there)) old)))
    (λ z s other old. subst (λ (ds : List Delivery). StandsFor l (ids_of z) s ds) (sym (others a z d before e other)) old) st

pub returns-in_ok-deliver : goal.returns-in_ok-deliver
returns-in_ok-deliver c = λ history a d before h at e is are st.
    delivered c.args.limits.now history c.args.streams.now.items c.args.stream c.index_mut-watch.result.now
    c.deliver.new.self a d before h at e
    (λ s there. c.index_mut-watch.ensures.value
    ∙ get_or_from_slice_get c.args.streams.now.items c.args.stream s c.index_mut-watch.result.now there)
    (λ old. c.in_ok-deliver.ensures (ids_of a) d (deliveries_of (stream_in a) before)
    (ids-differ a (all-at IsSubAgent history c.args.stream a h.agents at)) is are old) st

pub returns-else-stream-len : goal.returns-else-stream-len
returns-else-stream-len c = λ history a d before h at e is are st.
    let within : c.args.stream < length c.args.streams.now.items =
    each-within (Stands c.args.limits.now before) history c.args.streams.now.items c.args.stream a at st in
    absurd (omega arith)
