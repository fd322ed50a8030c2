-- What was delivered is read: of each delivery of a history.
use Rattle.std.proofs.Common.{◌≡◌, ℕ, zero, suc, ◌%◌, ◌^◌, ◌⊎◌, inl, inr, Bool, true, false, cond, List, [], ◌∷◌, map, refl, ap, subst, ◌∙◌}
use Rattle.std.specs.Prelude.{Result, Ok}
use Rattle.std.specs.List.{AllByRecursion}
use Rattle.wire_spec.specs.declared.pad.Pad.TheVariants.{Any}
use Rattle.wire_spec.specs.declared.fault.Fault.{Fault}
use Rattle.wire_spec.specs.Shapes.{Shape, Tree, Trees}
use Rattle.wire_spec.specs.Heads.{Head}
use Rattle.wire_spec.specs.Tables.{datagram}
use Rattle.wire_spec.specs.Spelling.{spell}
use Rattle.wire_spec.specs.Whole.{whole_reading}
use Rattle.wire_spec.proofs.OneReading.{whole_taken}
use Rattle.wire_spec.proofs.Spellings.{lawful_spelled}
use Rattle.data_format.proofs.Values.{head_in-tree}
use Rattle.datagram_core.specs.Tables.{flow_records_read, counter_records_read, samples_read, datagram_read}
use Rattle.books_spec.specs.Items.{Got, Stream}
use Rattle.books_spec.specs.Items as items
use Rattle.books_spec.specs.Listing.{same_stream}
use Rattle.books_spec.proofs.Keys.{stream-same}
use Rattle.books_spec.proofs.Listings.{IsSame}
use Rattle.agent_spec.specs.Sources.{FlowSetup, CounterSetup}
use Rattle.agent_spec.specs.Samples.{Datagram}
use Rattle.agent_spec.specs.Events.{Event}
use Rattle.agent_spec.specs.Boots.{IsAmong, MayHappen, happened}
use Rattle.agent_spec.specs.Spelled.{Sender, sample_trees, sent_tree}
use Rattle.account_spec.specs.Histories.{SubAgent, stream_in, events_of, sent_in, nobody, agent_of, IsSubAgent, IsHistory}
use Rattle.account_spec.specs.Deliveries.{Delivery, AreSent, entry_of, item}
use Rattle.delivered_items.specs.Accepted.{IsSourceIn, IsFlowSetup, IsTaken, IsAccepted, AreAccepted}
use Rattle.delivered_items.specs.Readers.{IsReader, item_by, entry_item}
use Rattle.delivered_items.proofs.Lists.{all-among, all-both}
use Rattle.delivered_items.proofs.Kept.{IsSoundDatagram, AreSources, sound}
use Rattle.delivered_items.proofs.Lawful.{IsReadable, readable}
use Rattle.delivered_items.proofs.Shown.{samples-shown}

-- ---- the sub-agent of a delivery

pub record IsKnown (a : SubAgent) (stream : Stream) : Type 0 where
  pub lawful : IsSubAgent a
  pub accepted : IsAccepted a
  pub stream_is : stream_in a ≡ stream

found : (history : List SubAgent) (stream : Stream) → AllByRecursion IsSubAgent history → AreAccepted history
    → (agent_of history stream ≡ nobody) ⊎ IsKnown (agent_of history stream) stream
found [] stream h k = inl refl
found (a ∷ more) stream h k = go (same_stream (stream_in a) stream) refl (found more stream h.1 k.1)
  where
    go : (b : Bool) → same_stream (stream_in a) stream ≡ b
        → (agent_of more stream ≡ nobody) ⊎ IsKnown (agent_of more stream) stream
        → (cond b a (agent_of more stream) ≡ nobody) ⊎ IsKnown (cond b a (agent_of more stream)) stream
    go true e later = inr (record { lawful = h.0; accepted = k.0; stream_is = IsSame.to stream-same (stream_in a) stream e })
    go false e later = later

boot-all : (P : List Event → Type 0) (boots : List (List Event)) (boot : ℕ) → P [] → AllByRecursion P boots → P (events_of boots boot)
boot-all P [] boot none h = none
boot-all P (events ∷ more) zero none h = none
boot-all P (events ∷ more) (suc zero) none h = h.0
boot-all P (events ∷ more) (suc (suc n)) none h = boot-all P more (suc n) none h.1

sources : (a : SubAgent) → IsSubAgent a → IsAccepted a → AreSources a.sender a.setup
sources a h k = record {
  fits = k.fits;
  flows = all-both (λ (f : FlowSetup). f.source.flow ≡ true) (IsFlowSetup a.sender.form)
      (λ (f : FlowSetup). (f.source.flow ≡ true) × IsFlowSetup a.sender.form f) (λ f x y. (x, y))
      a.setup.flows h.setup.flows k.flows;
  counters = all-both (λ (c : CounterSetup). c.source.flow ≡ false) (λ (c : CounterSetup). IsSourceIn a.sender.form c.source)
      (λ (c : CounterSetup). (c.source.flow ≡ false) × IsSourceIn a.sender.form c.source) (λ c x y. (x, y))
      a.setup.counters h.setup.counters k.counters;
}

datagram-sound : (a : SubAgent) (boot : ℕ) (d : Datagram) → IsSubAgent a → IsAccepted a → IsAmong d (sent_in a boot)
    → IsSoundDatagram a.sender d
datagram-sound a boot d h k there =
    let events : List Event = events_of a.boots boot in
    let b = sound a.sender a.setup (sources a h k) events (boot-all (MayHappen a.setup) a.boots boot tt h.boots)
    (boot-all (AllByRecursion (IsTaken a.sender)) a.boots boot tt k.boots) in
    all-among (IsSoundDatagram a.sender) d (happened a.setup events).sent there b.sent

-- a delivered datagram is of a sub-agent that is known
pub record IsGood (history : List SubAgent) (d : Delivery) : Type 0 where
  pub stream_is : stream_in (agent_of history d.stream) ≡ d.stream
  pub sound_is : IsSoundDatagram (agent_of history d.stream).sender d.datagram
  pub readable_is : IsReadable (agent_of history d.stream).sender d.datagram

pub good : (history : List SubAgent) (d : Delivery) → IsHistory history → AreAccepted history
    → IsAmong d.datagram (sent_in (agent_of history d.stream) d.boot) → IsGood history d
good history d h k there = go (found history d.stream h.agents k)
  where
    a : SubAgent
    a = agent_of history d.stream

    go : (a ≡ nobody) ⊎ IsKnown a d.stream → IsGood history d
    go (inl none) = absurd (subst (λ (b : SubAgent). IsAmong d.datagram (sent_in b d.boot)) none there)
    go (inr known) =
        let s : IsSoundDatagram a.sender d.datagram = datagram-sound a d.boot d.datagram known.lawful known.accepted there in
        record { stream_is = known.stream_is; sound_is = s; readable_is = readable a.sender d.datagram known.accepted.sender s }

pub all-good : (history : List SubAgent) (ds : List Delivery) → IsHistory history → AreAccepted history
    → AreSent history ds → AllByRecursion (IsGood history) ds
all-good history [] h k sent = tt
all-good history (d ∷ before) h k sent = (good history d h k sent.0, all-good history before h k sent.1)

-- ---- its bytes

read-all : datagram_read ≡ datagram
unfolding samples_read flow_records_read counter_records_read
read-all = refl

pub read-again : (history : List SubAgent) (d : Delivery) → IsGood history d
    → whole_reading Any datagram_read (entry_of history d).bytes ≡ Ok (sent_tree (agent_of history d.stream).sender d.datagram)
read-again history d g =
    let t : Tree = sent_tree (agent_of history d.stream).sender d.datagram in
    ap (λ (s : Shape). whole_reading Any s (spell t)) read-all
    ∙ whole_taken Any datagram (spell t) t (g.readable_is.few, lawful_spelled Any datagram t g.readable_is.lawful)

-- ---- its item

module _ (read : Tree → items.Sample) (reads : Trees → List items.Sample) (r : IsReader read reads) (history : List SubAgent) where
  pub one-item : (d : Delivery) → IsGood history d → entry_item reads (entry_of history d) ≡ item d
  one-item d g =
      let sender : Sender = (agent_of history d.stream).sender in
      let head : Head = record {
        agent = sender.agent;
        sub_agent = sender.sub_agent;
        sequence = d.datagram.number % 2 ^ 32;
        uptime = d.datagram.uptime;
      } in
      let front = head_in-tree head (sample_trees sender.form d.datagram.samples)
      ∙ ap (λ (s : Stream). record head { agent = s.agent; sub_agent = s.sub_agent }) g.stream_is in
      let behind = samples-shown read reads r sender d.datagram.samples g.sound_is.samples in
      ap (λ (x : Result Tree Fault). item_by reads d.arrival x) (read-again history d g)
      ∙ (λ j. Got (record { arrival = d.arrival; head = front j; samples = behind j }))

  pub all-items : (ds : List Delivery) → AllByRecursion (IsGood history) ds
      → map (entry_item reads) (map (entry_of history) ds) ≡ map item ds
  all-items [] g = refl
  all-items (d ∷ before) g = λ j. one-item d g.0 j ∷ all-items before g.1 j
