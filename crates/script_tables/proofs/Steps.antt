-- What a further line makes of the counts of the sub-agents.
use Rattle.std.proofs.Common.{◌≡◌, ◌∙◌, ◌+◌, ◌==◌, ◌&&◌, ◌++◌, ℕ, zero, suc, Bool, true, false, cond, List, [], ◌∷◌, length, map, reverse, set, Option, Some, None, refl, ap, sym, subst, if◌then◌else◌, slice_get, option_map}
use Rattle.std.specs.Prelude.{nat_lt}
use Rattle.std.specs.List.{AllByRecursion, list_all}
use Rattle.std.proofs.lemmas.Bool.{eqb-true, eq-eqb, true≢false}
use Rattle.std.proofs.lemmas.List.{map-append}
use Rattle.std.proofs.lemmas.Option.{same_Some}
use Rattle.wire_spec.specs.Shapes.{Tree}
use Rattle.agent_spec.specs.Sources.{Turn, FlowSetup, CounterSetup}
use Rattle.agent_spec.specs.Samples.{Packet, Setup}
use Rattle.agent_spec.specs.Events.{Event, Observe, Reset, turn_after}
use Rattle.agent_spec.specs.Marks.{is_marked}
use Rattle.agent_spec.specs.Boots.{Boot, seen_in, issue, flow_sample, with_seen, with_dropped, with_polled, counter_sample, after_packet, after_poll, due_sources, happened}
use Rattle.script_spec.specs.Lines.{Line, MaxLine, SubLine, FlowLine, CounterLine, PacketLine, PollLine, SendLine, RestartLine, ResetLine, DeliverLine, SubAgent}
use Rattle.script_spec.specs.Agents.{AgentBoot, setup_of, boots_of, boots_after, begun_at, with_event, with_line, event_of, poll_at, send_at, flow_of, has_source}
use Rattle.script_spec.specs.Rules.{sets_up}
use Rattle.script_spec.specs.Sent.{sent_count}
use Rattle.script_laws.proofs.Happens.{same_setup, none_yet}
use Rattle.script_tables.specs.Tables.{BootCount, sub_count, with_boot, last_sent, with_sent, is_quiet}
use Rattle.script_tables.proofs.ListTests.{turned}
use Rattle.script_tables.proofs.OfLines.{AreApart}

-- ---- counts by a set-up

abbrev count_of : Setup → AgentBoot → BootCount
count_of setup b = record { at = b.at; sent = length (reverse (happened setup b.events).sent) }

abbrev counts_by : Setup → List AgentBoot → List BootCount
counts_by setup boots = map (count_of setup) (reverse boots)

one_more : (setup : Setup) (b : AgentBoot) (boots : List AgentBoot)
    → counts_by setup (b ∷ boots) ≡ counts_by setup boots ++ count_of setup b ∷ []
one_more setup b boots = ap (map (count_of setup)) (turned b boots) ∙ map-append (count_of setup) (reverse boots) (b ∷ [])

-- ---- lines that set up

pub fresh : (lines : List Line) (s : SubAgent) → list_all sets_up lines ≡ true
    → sub_count lines s ≡ record { id = s.id; boots = record { at = s.at; sent = 0 } ∷ [] }
fresh lines s all =
    ap (λ (boots : List AgentBoot). record { id = s.id; boots = counts_by (setup_of lines s) boots }) (none_yet lines s all)

-- ---- lines that send nothing

observed_sent : (setup : Setup) (f : FlowSetup) (turn : Turn) (packet : Packet) (b : Boot)
    → (after_packet setup f turn packet b).sent ≡ b.sent
observed_sent setup f turn packet b = go (is_marked f.skips (1 + seen_in turn b)) (nat_lt (length b.staged) setup.stage)
  where
    go : (m r : Bool)
        → (with_seen turn (cond m (cond r (issue (flow_sample f turn packet b) b) (with_dropped turn b)) b)).sent ≡ b.sent
    go true true = refl
    go true false = refl
    go false r = refl

polled_sent : (now : ℕ) (before : List Event) (due : List CounterSetup) (readings : List Tree) (b : Boot)
    → (after_poll now before due readings b).sent ≡ b.sent
polled_sent now before [] readings b = refl
polled_sent now before (c ∷ due) [] b = refl
polled_sent now before (c ∷ due) (reading ∷ more) b =
    let turn : Turn = turn_after c.source before in
    polled_sent now before due more (with_polled turn now (issue (counter_sample c turn reading b) b))

-- the events leave what was sent as it is
abbrev KeepsSent : Setup → List Event → Event → Type 0
KeepsSent setup events e = (happened setup (e ∷ events)).sent ≡ (happened setup events).sent

pub quiet_event : (setup : Setup) (id : ℕ) (events : List Event) (line : Line) (e : Event) → is_quiet line ≡ true
    → event_of setup id events line ≡ Some e → KeepsSent setup events e
unfolding poll_at
quiet_event setup id events (PacketLine p k) e quiet made = go (flow_of setup p) made
  where
    go : (o : Option FlowSetup) → option_map (λ f. Observe f k) o ≡ Some e → KeepsSent setup events e
    go None h = absurd cc
    go (Some f) h =
        subst (KeepsSent setup events) (same_Some _ _ h)
        (observed_sent setup f (turn_after f.source events) k (happened setup events))
quiet_event setup id events (PollLine owner now) e quiet made = go (owner == id) made
  where
    go : (b : Bool) → (if b then Some (poll_at setup now events) else None) ≡ Some e → KeepsSent setup events e
    go true h =
        subst (KeepsSent setup events) (same_Some _ _ h)
        (polled_sent now events (due_sources setup now events (happened setup events)) _ (happened setup events))
    go false h = absurd cc
quiet_event setup id events (ResetLine t) e quiet made = go (has_source setup t) made
  where
    go : (b : Bool) → (if b then Some (Reset t) else None) ≡ Some e → KeepsSent setup events e
    go true h = subst (KeepsSent setup events) (same_Some _ _ h) refl
    go false h = absurd cc
quiet_event setup id events (DeliverLine d) e quiet made = absurd cc
quiet_event setup id events (MaxLine n) e quiet made = absurd cc
quiet_event setup id events (SubLine t) e quiet made = absurd cc
quiet_event setup id events (FlowLine owner f) e quiet made = absurd cc
quiet_event setup id events (CounterLine owner c) e quiet made = absurd cc
quiet_event setup id events (SendLine owner now) e quiet made = absurd cc
quiet_event setup id events (RestartLine owner at) e quiet made = absurd cc

keeps_count : (setup : Setup) (o : Option Event) (b : AgentBoot) → ((e : Event) → o ≡ Some e → KeepsSent setup b.events e)
    → count_of setup (with_event o b) ≡ count_of setup b
keeps_count setup None b keeps = refl
keeps_count setup (Some e) b keeps =
    ap (λ sent. record { at = b.at; sent = length (reverse sent) }) (keeps e refl)

quiet_line : (setup : Setup) (id : ℕ) (line : Line) (boots : List AgentBoot) → is_quiet line ≡ true
    → counts_by setup (with_line setup id line boots) ≡ counts_by setup boots
quiet_line setup id line [] quiet = refl
quiet_line setup id line (b ∷ earlier) quiet =
    one_more setup (with_event (event_of setup id b.events line) b) earlier
    ∙ ap (λ (c : BootCount). counts_by setup earlier ++ c ∷ [])
    (keeps_count setup (event_of setup id b.events line) b (λ e. quiet_event setup id b.events line e quiet))
    ∙ sym (one_more setup b earlier)

quiet_boots : (setup : Setup) (id : ℕ) (line : Line) (boots : List AgentBoot) → is_quiet line ≡ true
    → boots_after setup id line boots ≡ with_line setup id line boots
quiet_boots setup id (PacketLine p k) boots quiet = refl
quiet_boots setup id (PollLine owner now) boots quiet = refl
quiet_boots setup id (ResetLine t) boots quiet = refl
quiet_boots setup id (DeliverLine d) boots quiet = refl
quiet_boots setup id (MaxLine n) boots quiet = absurd cc
quiet_boots setup id (SubLine t) boots quiet = absurd cc
quiet_boots setup id (FlowLine owner f) boots quiet = absurd cc
quiet_boots setup id (CounterLine owner c) boots quiet = absurd cc
quiet_boots setup id (SendLine owner now) boots quiet = absurd cc
quiet_boots setup id (RestartLine owner at) boots quiet = absurd cc

pub quiet_runs : (line : Line) → is_quiet line ≡ true → sets_up line ≡ false
quiet_runs (PacketLine p k) quiet = refl
quiet_runs (PollLine owner now) quiet = refl
quiet_runs (ResetLine t) quiet = refl
quiet_runs (DeliverLine d) quiet = refl
quiet_runs (MaxLine n) quiet = absurd cc
quiet_runs (SubLine t) quiet = absurd cc
quiet_runs (FlowLine owner f) quiet = absurd cc
quiet_runs (CounterLine owner c) quiet = absurd cc
quiet_runs (SendLine owner now) quiet = absurd cc
quiet_runs (RestartLine owner at) quiet = absurd cc

pub quiet_count : (line : Line) (lines : List Line) (s : SubAgent) → is_quiet line ≡ true
    → sub_count (line ∷ lines) s ≡ sub_count lines s
unfolding boots_of
quiet_count line lines s quiet =
    ap (λ (setup : Setup). record { id = s.id; boots = counts_by setup (boots_after (setup_of lines s) s.id line (boots_of lines s)) })
    (same_setup line lines s (quiet_runs line quiet))
    ∙ ap (λ (boots : List AgentBoot). record { id = s.id; boots = counts_by (setup_of lines s) boots })
    (quiet_boots (setup_of lines s) s.id line (boots_of lines s) quiet)
    ∙ ap (λ (boots : List BootCount). record { id = s.id; boots = boots })
    (quiet_line (setup_of lines s) s.id line (boots_of lines s) quiet)

-- ---- a restart

pub restart_own : (id at : ℕ) (lines : List Line) (s : SubAgent) → s.id ≡ id
    → with_boot at (sub_count lines s) ≡ sub_count (RestartLine id at ∷ lines) s
unfolding boots_of
restart_own id at lines s is =
    sym (ap (λ (setup : Setup). record { id = s.id; boots = counts_by setup (if id == s.id then begun_at at ∷ boots_of lines s else boots_of lines s) })
    (same_setup (RestartLine id at) lines s refl)
    ∙ ap (λ (b : Bool). record { id = s.id; boots = counts_by (setup_of lines s) (if b then begun_at at ∷ boots_of lines s else boots_of lines s) })
    (eq-eqb id s.id (sym is))
    ∙ ap (λ (boots : List BootCount). record { id = s.id; boots = boots }) (one_more (setup_of lines s) (begun_at at) (boots_of lines s)))

pub restart_other : (id at : ℕ) (lines : List Line) (s : SubAgent) → (id == s.id) ≡ false
    → sub_count (RestartLine id at ∷ lines) s ≡ sub_count lines s
unfolding boots_of
restart_other id at lines s other =
    ap (λ (setup : Setup). record { id = s.id; boots = counts_by setup (if id == s.id then begun_at at ∷ boots_of lines s else boots_of lines s) })
    (same_setup (RestartLine id at) lines s refl)
    ∙ ap (λ (b : Bool). record { id = s.id; boots = counts_by (setup_of lines s) (if b then begun_at at ∷ boots_of lines s else boots_of lines s) }) other

-- ---- a send

last_of : (sent : ℕ) (xs : List BootCount) (b : BootCount)
    → last_sent sent (xs ++ b ∷ []) ≡ xs ++ record { at = b.at; sent = sent } ∷ []
last_of sent [] b = refl
last_of sent (x ∷ []) b = refl
last_of sent (x ∷ y ∷ more) b = ap (λ (l : List BootCount). x ∷ l) (last_of sent (y ∷ more) b)

abbrev newest_sent : Setup → List AgentBoot → ℕ
newest_sent setup [] = 0
newest_sent setup (b ∷ earlier) = length (reverse (happened setup b.events).sent)

sent_line : (setup : Setup) (id : ℕ) (line : Line) (sent : ℕ) (boots : List AgentBoot)
    → sent ≡ newest_sent setup (with_line setup id line boots)
    → last_sent sent (counts_by setup boots) ≡ counts_by setup (with_line setup id line boots)
sent_line setup id line sent [] count = refl
sent_line setup id line sent (b ∷ earlier) count =
    let e : Option Event = event_of setup id b.events line in
    ap (last_sent sent) (one_more setup b earlier) ∙ last_of sent (counts_by setup earlier) (count_of setup b)
    ∙ ap (λ (c : BootCount). counts_by setup earlier ++ c ∷ []) (same_boot e count)
    ∙ sym (one_more setup (with_event e b) earlier)
  where
    same_boot : (o : Option Event) → sent ≡ length (reverse (happened setup (with_event o b).events).sent)
        → record { at = b.at; sent = sent } ≡ count_of setup (with_event o b)
    same_boot None h = ap (λ (n : ℕ). record { at = b.at; sent = n }) h
    same_boot (Some x) h = ap (λ (n : ℕ). record { at = b.at; sent = n }) h

pub send_own : (id now sent : ℕ) (lines : List Line) (s : SubAgent)
    → sent ≡ sent_count (SendLine id now ∷ lines) s (boots_of (SendLine id now ∷ lines) s)
    → with_sent sent (sub_count lines s) ≡ sub_count (SendLine id now ∷ lines) s
unfolding boots_of
send_own id now sent lines s count =
    let same = same_setup (SendLine id now) lines s refl in
    let own : sent ≡ newest_sent (setup_of lines s) (with_line (setup_of lines s) s.id (SendLine id now) (boots_of lines s)) =
    count ∙ newest (boots_of (SendLine id now ∷ lines) s)
    ∙ ap (λ (setup : Setup). newest_sent setup (with_line (setup_of lines s) s.id (SendLine id now) (boots_of lines s))) same in
    ap (λ (boots : List BootCount). record { id = s.id; boots = boots })
    (sent_line (setup_of lines s) s.id (SendLine id now) sent (boots_of lines s) own)
    ∙ ap (λ (setup : Setup). record { id = s.id; boots = counts_by setup (with_line (setup_of lines s) s.id (SendLine id now) (boots_of lines s)) })
    (sym same)
  where
    newest : (boots : List AgentBoot) → sent_count (SendLine id now ∷ lines) s boots
        ≡ newest_sent (setup_of (SendLine id now ∷ lines) s) boots
    newest [] = refl
    newest (b ∷ earlier) = refl

pub send_other : (id now : ℕ) (lines : List Line) (s : SubAgent) → (id == s.id) ≡ false
    → sub_count (SendLine id now ∷ lines) s ≡ sub_count lines s
unfolding boots_of
send_other id now lines s other =
    ap (λ (setup : Setup). record { id = s.id; boots = counts_by setup (with_line (setup_of lines s) s.id (SendLine id now) (boots_of lines s)) })
    (same_setup (SendLine id now) lines s refl)
    ∙ ap (λ (boots : List AgentBoot). record { id = s.id; boots = counts_by (setup_of lines s) boots }) (nothing (boots_of lines s))
  where
    nothing : (boots : List AgentBoot) → with_line (setup_of lines s) s.id (SendLine id now) boots ≡ boots
    nothing [] = refl
    nothing (b ∷ earlier) =
        ap (λ (x : Bool). with_event (if x then Some (send_at (setup_of lines s) now b.events) else None) b ∷ earlier) other

-- ---- all sub-agents

pub map_same : {X Y : Type 0} (f g : X → Y) → ((x : X) → f x ≡ g x) → (xs : List X) → map f xs ≡ map g xs
map_same f g h [] = refl
map_same f g h (x ∷ more) = ap (λ y. y ∷ map f more) (h x) ∙ ap (λ ys. g x ∷ ys) (map_same f g h more)

-- what is known of one sub-agent is set anew
module _ {C : Type 0} (id_of : C → ℕ) (old new : SubAgent → C) (id : ℕ) (with : C → C) (ids : (s : SubAgent) → id_of (old s) ≡ s.id)
    (others : (s : SubAgent) → (id == s.id) ≡ false → new s ≡ old s) where
  abbrev IsOwn : SubAgent → Type 0
  IsOwn s = s.id ≡ id → with (old s) ≡ new s

  all_others : (subs : List SubAgent) → AllByRecursion (λ (s : SubAgent). (id == s.id) ≡ false) subs → map old subs ≡ map new subs
  all_others [] h = refl
  all_others (s ∷ more) h =
      ap (λ (c : C). c ∷ map old more) (sym (others s h.0)) ∙ ap (λ cs. new s ∷ cs) (all_others more h.1)

  behind : (n : ℕ) (subs : List SubAgent) (k : ℕ) (c : C)
      → AllByRecursion (λ (t : SubAgent). (n == t.id) ≡ false) subs → slice_get (map old subs) k ≡ Some c → (n == id_of c) ≡ false
  behind n [] k c h at = absurd cc
  behind n (s ∷ more) zero c h at =
      subst (λ (x : C). (n == id_of x) ≡ false) (same_Some _ _ at) (ap (λ (m : ℕ). n == m) (ids s) ∙ h.0)
  behind n (s ∷ more) (suc k) c h at = behind n more k c h.1 at

  pub set_at : (subs : List SubAgent) (k : ℕ) (c : C) → AreApart subs → AllByRecursion IsOwn subs
      → slice_get (map old subs) k ≡ Some c → id_of c ≡ id → set (map old subs) k (with c) ≡ map new subs
  set_at [] k c apart own at is = absurd cc
  set_at (s ∷ more) zero c apart own at is =
      let same : old s ≡ c = same_Some _ _ at in
      let its : s.id ≡ id = sym (ids s) ∙ ap (λ (x : C). id_of x) same ∙ is in
      ap (λ (x : C). with x ∷ map old more) (sym same) ∙ ap (λ (x : C). x ∷ map old more) (own.0 its)
      ∙ ap (λ cs. new s ∷ cs)
      (all_others more (subst (λ (n : ℕ). AllByRecursion (λ (t : SubAgent). (n == t.id) ≡ false) more) its apart.0))
  set_at (s ∷ more) (suc k) c apart own at is =
      ap (λ (x : C). x ∷ set (map old more) k (with c)) (first (id == s.id) refl (behind s.id more k c apart.0 at))
      ∙ ap (λ cs. new s ∷ cs) (set_at more k c apart.1 own.1 at is)
    where
      first : (b : Bool) → (id == s.id) ≡ b → (s.id == id_of c) ≡ false → old s ≡ new s
      first true e other =
          absurd (true≢false (sym (eq-eqb s.id (id_of c) (sym (eqb-true id s.id e) ∙ sym is)) ∙ other))
      first false e other = sym (others s e)

-- ---- lines that set up leave the counts

pub setup_count : (line : Line) (lines : List Line) (s : SubAgent) → list_all sets_up lines ≡ true → sets_up line ≡ true
    → sub_count (line ∷ lines) s ≡ sub_count lines s
setup_count line lines s before sets =
    fresh (line ∷ lines) s (ap (λ (b : Bool). b && list_all sets_up lines) sets ∙ before) ∙ sym (fresh lines s before)
