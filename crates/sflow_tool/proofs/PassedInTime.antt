-- Where what comes is what agents sent and the premises hold, the datagrams that go on are those that are delivered in time.
use Rattle.std.proofs.Common.{◌≡◌, ◌∙◌, ◌<◌, ◌≤◌, ◌^◌, ℕ, Bool, true, false, cond, nat_le, Option, None, Some, List, [], ◌∷◌, ◌++◌, length, map, take, refl, sym, ap, ap₂, subst, append-nil, arith}
use Rattle.std.specs.Prelude.{reverse}
use Rattle.std.proofs.lemmas.Bool.{leb-true}
use Rattle.std.proofs.lemmas.List.{length-map, length-reverse, length-take, map-append, reverse-append}
use Rattle.wire_spec.specs.Captures.{Entry}
use Rattle.wire_spec.specs.Heads.{AgentAddress}
use Rattle.capture_spec.specs.Items.{Received, sent_by}
use Rattle.count_spec.specs.Boots.{boots}
use Rattle.books_spec.specs.declared.limits.Limits.{Limits}
use Rattle.books_spec.specs.declared.taken.Taken.{Taken}
use Rattle.books_spec.specs.declared.taken.Taken.TheVariants.{First, Repeat, Late, Stale, Unlisted, Malformed, Spent}
use Rattle.books_spec.specs.Books.{most_entries, samples_at, stream_boots, streams_of, taken_in, taken_now}
use Rattle.books_spec.specs.Items.{Item, Sample, Stream, stamp_of}
use Rattle.books_spec.specs.Items as items
use Rattle.books_spec.specs.Listing.{same_stream}
use Rattle.books_spec.proofs.Keys.{stream-same}
use Rattle.books_spec.proofs.Listings.{IsSame}
use Rattle.books_spec.proofs.Rooms.{latest-listed, room-before}
use Rattle.account_spec.specs.Histories.{SubAgent}
use Rattle.account_spec.specs.Deliveries.{Delivery, datagram_shown, deliveries_of, entry_of, item}
use Rattle.account_spec.specs.Accounts.{is_delivered}
use Rattle.account_laws.proofs.BootSteps.{AreSeen, seen-before}
use Rattle.account_laws.proofs.Entering.{own-are}
use Rattle.account_laws.proofs.Weaker.{lesser}
use Rattle.account_laws.proofs.Whole.{AreReady, entering, ready}
use Rattle.flow_collector.specs.Steps.{is_first}
use Rattle.datagram_links.specs.Links.{LinkSeen, LinkTold, datagrams_in}
use Rattle.datagram_links.specs.Receivers.{ReceiverSeen}
use Rattle.relay_out.specs.declared.progress.Progress.{Progress}
use Rattle.relay_out.specs.Routes.{AgentDatagram, Route}
use Rattle.relay_out.specs.Runs.{RunServed}
use Rattle.command_words.specs.declared.collection.Collection.{Collection}
use Rattle.command_runs.specs.declared.status.Status.{Status}
use Rattle.command_runs.specs.declared.status.Status.TheVariants.{Done}
use Rattle.sflow_tool.specs.Collects.{HasTurned, received_of}
use Rattle.sflow_tool.specs.Headlines.{IsCollected}
use Rattle.sflow_tool.specs.Passing.{agent_where, first_agent, first_in_time, passed_on, with_agent}
use Rattle.sflow_tool.specs.Relays.{Relayed, lacks_memory, not_listening, served}
use Rattle.sflow_tool.specs.Replays.{items_in}
use Rattle.sflow_tool.proofs.Collected.{back_from}
use Rattle.sflow_tool.proofs.Headline.{delivered, in_their_order, item_at}
use Rattle.sflow_tool.proofs.Passes.{passed-append}

-- ---- what is ready stays so without the latest

seen-tail : (slack : ℕ) (stream : Stream) (d : Delivery) (before : List Delivery) → AreSeen slack (deliveries_of stream (d ∷ before))
    → AreSeen slack (deliveries_of stream before)
seen-tail slack stream d before = go (same_stream stream d.stream)
  where
    go : (b : Bool) → AreSeen slack (cond b (d ∷ deliveries_of stream before) (deliveries_of stream before))
        → AreSeen slack (deliveries_of stream before)
    go true h = seen-before slack d (deliveries_of stream before) h
    go false h = h

seen-own : (slack : ℕ) (d : Delivery) (before : List Delivery) → AreSeen slack (deliveries_of d.stream (d ∷ before))
    → AreSeen slack (d ∷ deliveries_of d.stream before)
seen-own slack d before h =
    subst (λ (b : Bool). AreSeen slack (cond b (d ∷ deliveries_of d.stream before) (deliveries_of d.stream before)))
    (IsSame.self stream-same d.stream) h

ready-before : (l : Limits) (d : Delivery) (before : List Delivery) → AreReady l (d ∷ before) → AreReady l before
ready-before l d before h = record {
  streams = λ stream. seen-tail l.boot_slack stream d before (h.streams stream);
  room = room-before same_stream stream-same l.streams d.stream (streams_of (map item before)) h.room;
}

-- ---- one delivery

-- the answer is seen at any one sample
abbrev one : List Sample
one = items.Other ∷ []

abbrev is_there : List Sample → Bool
is_there [] = false
is_there (s ∷ more) = true

first-enters : (t : Taken) → is_first t ≡ is_there (samples_at t one)
first-enters First = refl
first-enters Repeat = refl
first-enters Late = refl
first-enters Stale = refl
first-enters Unlisted = refl
first-enters Malformed = refl
first-enters Spent = refl

there-where : (b : Bool) → is_there (cond b one []) ≡ b
there-where true = refl
there-where false = refl

first-now : (l : Limits) (d : Delivery) (before : List Delivery) → AreReady l (d ∷ before)
    → is_first (taken_now l (map item before) (item d)) ≡ is_delivered l.datagram_width (deliveries_of d.stream before) d
first-now l d before h =
    first-enters (taken_now l (map item before) (item d))
    ∙ ap is_there
    (ap (λ (b : Bool). samples_at (cond b (taken_in l (stream_boots l d.stream (map item before)) (datagram_shown d)) Unlisted) one)
    (latest-listed same_stream stream-same l.streams d.stream (streams_of (map item before)) h.room)
    ∙ ap (λ (own : List items.Datagram). samples_at (taken_in l (boots stamp_of l.boot_slack l.datagram_width own) (datagram_shown d)) one)
    (own-are d.stream before)
    ∙ entering l d one (deliveries_of d.stream before) (seen-own l.boot_slack d before (h.streams d.stream)))
    ∙ there-where (is_delivered l.datagram_width (deliveries_of d.stream before) d)

-- fewer than 2^48 came before it
first-of : (l : Limits) (d : Delivery) (before : List Delivery) → length before < 2 ^ 48 → AreReady l (d ∷ before)
    → first_agent l (map item before) (item d)
    ≡ agent_where (is_delivered l.datagram_width (deliveries_of d.stream before) d) d.stream.agent
first-of l d before few h =
    ap (λ (t : Taken). agent_where (is_first t) d.stream.agent) (go (nat_le most_entries (length (map item before))) refl)
    ∙ ap (λ (b : Bool). agent_where b d.stream.agent) (first-now l d before h)
  where
    go : (b : Bool) → nat_le most_entries (length (map item before)) ≡ b
        → cond b Spent (taken_now l (map item before) (item d)) ≡ taken_now l (map item before) (item d)
    go true e = absurd (omega (arith, leb-true most_entries (length (map item before)) e, length-map before item, few))
    go false e = refl

with-where : (b : Bool) (agent : AgentAddress) (bytes : List ℕ)
    → with_agent (agent_where b agent) bytes ≡ cond b (record { agent = agent; bytes = bytes } ∷ []) []
with-where true agent bytes = refl
with-where false agent bytes = refl

-- ---- all of them

received-more : (entries : List Entry) (e : Entry)
    → received_of (reverse (e ∷ entries)) ≡ received_of (reverse entries) ++ sent_by None e ∷ []
received-more entries e =
    ap received_of (reverse-append (e ∷ []) entries) ∙ map-append (sent_by None) (reverse entries) (e ∷ [])

passed-are : (l : Limits) (history : List SubAgent) (ds : List Delivery) → length ds < 2 ^ 48 → AreReady l ds
    → map item_at (map (entry_of history) ds) ≡ map item ds
    → passed_on l (received_of (reverse (map (entry_of history) ds))) ≡ first_in_time l history ds
passed-are l history [] few h same = refl
passed-are l history (d ∷ before) few h same =
    let e : Entry = entry_of history d in
    let more : List Entry = map (entry_of history) before in
    let es : List Received = received_of (reverse more) in
    let item_is : item_at e ≡ item d = cc in
    let items_are : map item_at more ≡ map item before = cc in
    let read : items_in es ≡ map item before = in_their_order es more (back_from (reverse more)) ∙ items_are in
    ap (passed_on l) (received-more more e)
    ∙ passed-append l es (sent_by None e ∷ [])
    ∙ ap₂ (λ (xs ys : List AgentDatagram). xs ++ ys)
    (passed-are l history before (omega (arith, few)) (ready-before l d before h) items_are)
    (append-nil (with_agent (first_agent l (items_in es) (item_at e)) e.bytes)
    ∙ ap₂ (λ (is : List Item) (i : Item). with_agent (first_agent l is i) e.bytes) read item_is
    ∙ ap (λ (a : Option AgentAddress). with_agent a e.bytes) (first-of l d before (omega (arith, few)) h)
    ∙ with-where (is_delivered l.datagram_width (deliveries_of d.stream before) d) d.stream.agent e.bytes)

-- what came was sent
pub passed_in_time : (l : Limits) (history : List SubAgent) (deliveries : List Delivery) (came : List Entry)
    → length came < 2 ^ 48 → IsCollected l history deliveries came
    → passed_on l (received_of came) ≡ first_in_time l history deliveries
passed_in_time l history deliveries came few d =
    let order : came ≡ reverse (map (entry_of history) deliveries) = d.in_order ∙ ap reverse d.delivers.entries_are in
    ap (λ (es : List Entry). passed_on l (received_of es)) order
    ∙ passed-are l history deliveries (fewer order) (ready l history deliveries (lesser l history deliveries d.premises))
    (ap (map item_at) (sym d.delivers.entries_are) ∙ delivered history deliveries d.entries d.premises.history_is d.accepted d.delivers)
  where
    fewer : came ≡ reverse (map (entry_of history) deliveries) → length deliveries < 2 ^ 48
    fewer order =
        omega (
          arith,
          few,
          ap (λ (es : List Entry). length es) order,
          length-reverse (map (entry_of history) deliveries),
          length-map deliveries (entry_of history),
        )

-- ---- a run

datagrams-few : (room : ℕ) (items : List (Option Entry)) → length (datagrams_in room items) ≤ length items
datagrams-few room [] = omega arith
datagrams-few room (None ∷ more) = omega (arith, datagrams-few room more)
datagrams-few room (Some e ∷ more) = omega (arith, datagrams-few room more)

-- the receivers were passed these datagrams
pub relayed_in_time : {Y : Type 0} (seen : Y → ReceiverSeen) (asked : Collection) (routes : List Route) (history : List SubAgent)
    (deliveries : List Delivery) (told : LinkTold) (link link' : LinkSeen) (status : Status) (us : List Y) (was : List Progress)
    (vs : List Y) (now : List Progress) → Relayed seen asked routes link link' status us was vs now → status ≡ Done
    → asked.turns < 2 ^ 32 → link.told ≡ Some told
    → IsCollected asked.limits history deliveries (datagrams_in 65535 (take asked.turns told.items))
    → RunServed seen (first_in_time asked.limits history deliveries) routes us vs now
relayed_in_time seen asked routes history deliveries told link link' status us was vs now (lacks_memory is kept far) done few tells d =
    cc
relayed_in_time seen asked routes history deliveries told link link' status us was vs now (not_listening is failed kept far) done few tells d =
    cc
relayed_in_time seen asked routes history deliveries told link link' status us was vs now (served other come) done few tells d =
    let came : List Entry = datagrams_in 65535 (take asked.turns told.items) in
    let all : come.turns ≡ asked.turns = subst (HasTurned asked come.turns) done come.turned in
    let entries : come.entries ≡ came =
    come.came told tells ∙ ap (λ (turns : ℕ). datagrams_in 65535 (take turns told.items)) all in
    subst (λ (ds : List AgentDatagram). RunServed seen ds routes us vs now)
    (ap (λ (es : List Entry). passed_on asked.limits (received_of es)) entries
    ∙ passed_in_time asked.limits history deliveries came
    (omega (arith, few, datagrams-few 65535 (take asked.turns told.items), length-take asked.turns told.items)) d)
    come.were
