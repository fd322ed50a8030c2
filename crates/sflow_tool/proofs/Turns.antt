-- Receives of a link, one after the other, and what they give.
use Rattle.std.proofs.Common.{◌≡◌, ◌+◌, ◌<◌, ◌≤◌, ◌^◌, ℕ, Bool, min, List, [], ◌∷◌, ◌++◌, length, take, drop, Option, Some, None, refl, sym, ap, ap₂, subst, ◌∙◌, append-nil, length-append, drop-drop, take-add, arith}
use Rattle.std.specs.Prelude.{IfSome}
use Rattle.std.specs.Option.{option_map}
use Rattle.std.proofs.lemmas.List.{length-map, map-append}
use Rattle.wire_spec.specs.Captures.{Entry}
use Rattle.capture_spec.specs.Items.{Received, sent_by}
use Rattle.datagram_links.specs.Links.{GivesNext, LinkSeen, failed, LinkTold, datagrams_in, received_one}
use Rattle.datagram_links.specs.declared.received.Received.TheVariants as got
use Rattle.books_spec.specs.declared.limits.Limits.{Limits}
use Rattle.books_spec.specs.SampledHeaders.{HeaderedItem}
use Rattle.books_spec.specs.Books.{most_entries}
use Rattle.books_spec.specs.Items.{Item}
use Rattle.wire_spec.specs.Heads.{AgentAddress}
use Rattle.relay_out.specs.Routes.{AgentDatagram}
use Rattle.sflow_tool.specs.Passing.{first_agent, with_agent}
use Rattle.sample_taps.specs.declared.brief.Brief.{Brief}
use Rattle.data_format.specs.Addresses.{address_of}
use Rattle.data_format.specs.declared.address.Address.{Address}
use Rattle.flow_collector.specs.Collectors.{CollectorState, StandsFor}
use Rattle.flow_collector.specs.Items.{item_in}
use Rattle.flow_collector.specs.Gathering.{Gathered}
use Rattle.sflow_tool.specs.Replays.{Collects, headered_received}
use Rattle.sflow_tool.specs.Collects.{Came, TakesTurn, TookTurns, TurnFailed, received_of, received_some}
use Rattle.sflow_tool.proofs.Items.{one_taken}

-- ---- what one receive gives

-- a datagram came: it is the first of the items
pub came_one : (told : Option LinkTold) (len at : ℕ) (room : List ℕ) → length room ≡ 65535
    → IfSome told (λ t. GivesNext t.items (got.Got len at) room) → (t : LinkTold) → told ≡ Some t
    → ◌≡◌ {A = List Entry} (record { arrival = at; bytes = take len room } ∷ []) (datagrams_in 65535 (take 1 t.items))
came_one told len at room long gives t is =
    go t.items (subst (λ o. IfSome o (λ t. GivesNext t.items (got.Got len at) room)) is gives)
  where
    go : (items : List (Option Entry)) → GivesNext items (got.Got len at) room
        → ◌≡◌ {A = List Entry} (record { arrival = at; bytes = take len room } ∷ []) (datagrams_in 65535 (take 1 items))
    go [] g = absurd cc
    go (None ∷ more) g = absurd cc
    go (Some e ∷ more) g =
        let same : got.Got len at ≡ got.Got (min (length e.bytes) (length room)) e.arrival = g.0 in
        let len_is : len ≡ min (length e.bytes) (length room) = cc in
        let at_is : at ≡ e.arrival = cc in
        let bytes_are : take len room ≡ take 65535 e.bytes =
        ap (λ n. take n room) len_is ∙ g.1 ∙ ap (λ n. take n e.bytes) long in
        λ j. record { arrival = at_is j; bytes = bytes_are j } ∷ []

-- the answer to a datagram is its agent, where it is First
pub told_first : (answer : Option Address) (agent : Address) (bytes : List ℕ) → answer ≡ Some agent
    → ◌≡◌ {A = List AgentDatagram} (with_agent (option_map address_of answer) bytes)
    (record { agent = address_of agent; bytes = bytes } ∷ [])
told_first answer agent bytes is = ap (λ (o : Option Address). with_agent (option_map address_of o) bytes) is

pub told_none : (answer : Option Address) (bytes : List ℕ) → answer ≡ None
    → with_agent (option_map address_of answer) bytes ≡ []
told_none answer bytes is = ap (λ (o : Option Address). with_agent (option_map address_of o) bytes) is

-- nothing came: neither does a datagram among the first of the items
pub came_quiet : (told : Option LinkTold) (room : List ℕ) → IfSome told (λ t. GivesNext t.items got.Quiet room)
    → (t : LinkTold) → told ≡ Some t → ◌≡◌ {A = List Entry} [] (datagrams_in 65535 (take 1 t.items))
came_quiet told room gives t is = go t.items (subst (λ o. IfSome o (λ t. GivesNext t.items got.Quiet room)) is gives)
  where
    go : (items : List (Option Entry)) → GivesNext items got.Quiet room
        → ◌≡◌ {A = List Entry} [] (datagrams_in 65535 (take 1 items))
    go [] g = refl
    go (None ∷ more) g = refl
    go (Some e ∷ more) g = absurd cc

module _ {X : Type 0} (step : X → Brief → X → Type 0) (done : X → Bool) (old new : CollectorState) (ys zs : List X)
    (left left' : ℕ) (told : Option LinkTold) (faults : ℕ) (room : List ℕ) where
  abbrev shown : LinkSeen
  shown = record { told = told; faults = faults }

  -- a datagram was taken
  pub got_turn : (len at : ℕ) → length room ≡ 65535 → IfSome told (λ t. GivesNext t.items (got.Got len at) room)
      → ((m : Limits) (items : List HeaderedItem) (us : List X) → length items < most_entries
      → Gathered step done old m items us ys
      → Gathered step done new m (headered_received (sent_by None (record { arrival = at; bytes = take len room })) ∷ items) us zs)
      → left' ≡ left → (first : List AgentDatagram) (agent : Option AgentAddress)
      → ((l : Limits) (before : List Item) → StandsFor old.books l before
      → agent ≡ first_agent l before (item_in at (take len room)))
      → with_agent agent (take len room) ≡ first
      → TakesTurn step done old new ys zs left left' shown first
  got_turn len at long gives takes kept first agent answers is = record {
    came = record { arrival = at; bytes = take len room } ∷ [];
    are = λ t is. came_one told len at room long gives t is;
    few = omega arith;
    takes = λ l xs all entries few so_far.
        one_taken step done l old new xs ys zs all left left' entries
        (sent_by None (record { arrival = at; bytes = take len room })) few so_far takes kept;
    goes_on = λ l before stands.
        append-nil (with_agent (first_agent l before (item_in at (take len room))) (take len room))
        ∙ ap (λ (a : Option AgentAddress). with_agent a (take len room)) (sym (answers l before stands)) ∙ is;
  }

module _ {X : Type 0} (step : X → Brief → X → Type 0) (done : X → Bool) (old : CollectorState) (ys : List X)
    (left : ℕ) (told : Option LinkTold) (faults : ℕ) (room : List ℕ) where
  -- there was none
  pub quiet_turn : IfSome told (λ t. GivesNext t.items got.Quiet room)
      → TakesTurn step done old old ys ys left left (record { told = told; faults = faults }) []
  quiet_turn gives = record {
    came = [];
    are = λ t is. came_quiet told room gives t is;
    few = omega arith;
    takes = λ l xs all entries few so_far.
        subst (Collects step done l old xs ys all left) (sym (append-nil entries)) so_far;
    goes_on = λ l before stands. refl;
  }

-- ---- many receives

datagrams-append : (room : ℕ) (xs ys : List (Option Entry))
    → datagrams_in room (xs ++ ys) ≡ datagrams_in room xs ++ datagrams_in room ys
datagrams-append room [] ys = refl
datagrams-append room (None ∷ xs) ys = datagrams-append room xs ys
datagrams-append room (Some e ∷ xs) ys =
    ap (λ (es : List Entry). record e { bytes = take room e.bytes } ∷ es) (datagrams-append room xs ys)

datagrams-more : (room count : ℕ) (items : List (Option Entry)) → datagrams_in room (take (count + 1) items)
    ≡ datagrams_in room (take count items) ++ datagrams_in room (take 1 (drop count items))
datagrams-more room count items =
    ap (datagrams_in room) (take-add count 1 items)
    ∙ datagrams-append room (take count items) (take 1 (drop count items))

received_more : (count : ℕ) (told : Option LinkTold) (faults : ℕ)
    → received_one (received_some count (record { told = told; faults = faults }))
    ≡ received_some (count + 1) (record { told = told; faults = faults })
received_more count None faults = refl
received_more count (Some told) faults =
    ap (λ (items : List (Option Entry)). record { told = Some (record told { items = items }); faults = faults })
    (drop-drop 1 count told.items)

received_none : (told : Option LinkTold) (faults : ℕ)
    → record { told = told; faults = faults } ≡ received_some 0 (record { told = told; faults = faults })
received_none None faults = refl
received_none (Some told) faults = refl

came_more : (link now : LinkSeen) (count : ℕ) (entries came : List Entry) → now ≡ received_some count link
    → Came link count entries → Came now 1 came → Came link (count + 1) (entries ++ came)
came_more link now count entries came at first second = λ told is.
    ap₂ (λ (es fs : List Entry). es ++ fs) (first told is)
    (second (record told { items = drop count told.items })
    (ap (λ (l : LinkSeen). l.told) at
    ∙ ap (option_map (λ (t : LinkTold). record t { items = drop count t.items })) is))
    ∙ sym (datagrams-more 65535 count told.items)

-- so many receives went well
pub record TurnsSoFar (takes : List Received → Type 0) (link now : LinkSeen) (count : ℕ) : Type 0 where
  pub entries : List Entry
  pub came : Came link count entries
  pub few : length entries ≤ count
  pub were : takes (received_of entries)
  pub link_is : now ≡ received_some count link

pub no_turns : (takes : List Received → Type 0) (link : LinkSeen) → takes [] → TurnsSoFar takes link link 0
no_turns takes link none = record {
  entries = [];
  came = λ told is. refl;
  few = omega arith;
  were = none;
  link_is = received_none link.told link.faults;
}

-- one more receive went well, and what came was taken
pub one_more : (takes takes' : List Received → Type 0) (link now now' : LinkSeen) (count : ℕ) (came : List Entry)
    → Came now 1 came → length came ≤ 1 → (far : TurnsSoFar takes link now count)
    → takes' (received_of far.entries ++ received_of came) → now' ≡ received_one now → TurnsSoFar takes' link now' (count + 1)
one_more takes takes' link now now' count came are few far were is = record {
  entries = far.entries ++ came;
  came = came_more link now count far.entries came far.link_is far.came are;
  few = omega (arith, far.few, few, length-append far.entries came);
  were = subst takes' (sym (map-append (sent_by None) far.entries came)) were;
  link_is = is ∙ ap received_one far.link_is ∙ received_more count link.told link.faults;
}

-- the entries so far are fewer than a collector takes
pub few_so_far : (takes : List Received → Type 0) (link now : LinkSeen) (count : ℕ) → count < 2 ^ 48
    → (far : TurnsSoFar takes link now count) → length (received_of far.entries) < 2 ^ 48
few_so_far takes link now count many far = omega (arith, many, far.few, length-map far.entries (sent_by None))

pub one_turn : {X : Type 0} (step : X → Brief → X → Type 0) (done : X → Bool) (l : Limits) (old new : CollectorState)
    (xs ys zs : List X) (all left left' : ℕ) (link now now' : LinkSeen) (first : List AgentDatagram) (count : ℕ)
    → count < 2 ^ 48 → TurnsSoFar (Collects step done l old xs ys all left) link now count
    → TakesTurn step done old new ys zs left left' now first → now' ≡ received_one now
    → TurnsSoFar (Collects step done l new xs zs all left') link now' (count + 1)
one_turn step done l old new xs ys zs all left left' link now now' first count many far turn is =
    one_more _ (Collects step done l new xs zs all left') link now now' count turn.came turn.are turn.few far
    (turn.takes l xs all (received_of far.entries) (few_so_far _ link now count many far) far.were) is

-- all of them did
pub all_turned : (takes : List Received → Type 0) (link now : LinkSeen) (count turns : ℕ) → count ≡ turns
    → TurnsSoFar takes link now count → TookTurns takes link now turns
all_turned takes link now count turns is far = record {
  entries = far.entries;
  came = subst (λ n. Came link n far.entries) is far.came;
  were = far.were;
  link_is = subst (λ n. now ≡ received_some n link) is far.link_is;
}

-- one failed, which left the collector and the consumers
pub turn_failed : {X : Type 0} (step : X → Brief → X → Type 0) (done : X → Bool) (l : Limits) (old new : CollectorState)
    (xs ys zs : List X) (all left left' : ℕ) (link now now' : LinkSeen) (count turns : ℕ) → count < turns
    → TurnsSoFar (Collects step done l old xs ys all left) link now count → now' ≡ failed now → new ≡ old → zs ≡ ys
    → left' ≡ left → TurnFailed (Collects step done l new xs zs all left') link now' turns
turn_failed {X} step done l old new xs ys zs all left left' link now now' count turns fewer far is books taps kept = record {
  count = count;
  fewer = fewer;
  entries = far.entries;
  came = far.came;
  were =
      subst (λ (s : CollectorState). Collects step done l s xs zs all left' (received_of far.entries)) (sym books)
      (subst (λ (vs : List X). Collects step done l old xs vs all left' (received_of far.entries)) (sym taps)
      (subst (λ n. Collects step done l old xs ys all n (received_of far.entries)) (sym kept) far.were));
  link_is = is ∙ ap failed far.link_is;
}
