-- What the lines of a made run's script say. Lists of lines and deliveries have the LATEST FIRST.
use Rattle.std.proofs.Common.{drop, ◌≡◌, ◌∙◌, ◌≤◌, ◌⊎◌, inl, inr, ℕ, suc, Bool, true, false, cond, List, [], ◌∷◌, length, map, reverse, refl, ap, sym, subst, append-nil, arith}
use Rattle.std.specs.List.{list_all}
use Rattle.std.proofs.lemmas.List.{reverse-reverse}
use Rattle.wire_spec.specs.Captures.{Entry}
use Rattle.books_spec.specs.Items.{Stream}
use Rattle.books_spec.specs.Listing.{same_stream}
use Rattle.agent_spec.specs.Spelled.{Sender, sent_bytes}
use Rattle.account_spec.specs.Histories.{SubAgent, nobody}
use Rattle.account_spec.specs.Deliveries.{Delivers, Delivery, entry_of}
use Rattle.trial_spec.specs.Made.{Made, boot_number, is_sent, made, made_deliveries, made_history, made_until, sent_all, sent_so_far}
use Rattle.script_spec.specs.Lines.{Line}
use Rattle.script_spec.specs.Lines as script
use Rattle.script_spec.specs.Agents.{boots_of, subs_in}
use Rattle.script_spec.specs.Rules.{sets_up}
use Rattle.script_spec.specs.Sent.{all_delivered, sent_count}
use Rattle.script_histories.specs.Histories.{agent_in, deliveries_of, history_of}
use Rattle.made_runs.specs.Runs.{Adds, Naming}
use Rattle.made_runs.specs.Scripts.{Gave, IsAt, ScriptState, StandsAt, Told, made_sub, polled_behind, sent_now}
use Rattle.made_runs.specs.Scripts as made_scripts
use Rattle.made_runs.specs.declared.arrivals.Arrival.{Arrival}
use Rattle.made_runs.specs.declared.script.Phase.{Phase}
use Rattle.made_runs.specs.declared.script.Phase.TheVariants.{Packet, Poll, Send, Decide, Restart, Done}
use Rattle.made_runs.specs.declared.script.Stage.{Stage}
use Rattle.made_runs.specs.declared.script.Stage.TheVariants.{Sub, Flow, Counter, Going}
use Rattle.sflow_tool.specs.Collects.{received_of}
use Rattle.sflow_tool.specs.MadeTrials.{BeginsWith, received_from}
use Rattle.sflow_tool.specs.Trials.{TrialStands, received_in}
use Rattle.sflow_tool.specs.declared.trial_run.TrialRun.{TrialRun}
use Rattle.sflow_tool.proofs.MadeSoFar.{Grows, all_decide, all_of, behind_send, grows, one_on_top, one_then, until_made}
use Rattle.sflow_tool.proofs.SentCounts.{none_sent}

-- ---- how many there are

decided_most : (phase : Phase) (seed total packets decided : ℕ) (m : Made) → IsAt phase seed total packets decided m
    → decided ≤ made_scripts.sent_count seed m
decided_most Packet seed total packets decided m h = omega (arith, h.decided_all)
decided_most Poll seed total packets decided m h = omega (arith, h.decided_all)
decided_most Send seed total packets decided m h = omega (arith, h.decided_all)
decided_most Decide seed total packets decided m h = h.most
decided_most Restart seed total packets decided m h = omega (arith, h.decided_all)
decided_most Done seed total packets decided m h = omega (arith, h.decided_all)

pub few_told : (s : ScriptState) (lines : List Line) → Gave s lines → length lines ≤ 600000003
few_told s lines h = go s.stage h
  where
    go : (stage : Stage) → StandsAt stage s lines → length lines ≤ 600000003
    go Sub h = omega (arith, ap length h.1)
    go Flow h = omega (arith, ap length h.1)
    go Counter h = omega (arith, ap length h.1)
    go (Going phase) h =
        omega (arith, h.few, h.total, h.most, decided_most phase s.seed s.total s.packets s.decided h.now h.at)

-- ---- what was sent

-- they set up, or the sub-agent is there
subs_told : (s : ScriptState) (lines : List Line) → Gave s lines
    → (list_all sets_up lines ≡ true) ⊎ (subs_in lines ≡ made_sub ∷ [])
subs_told s lines h = go s.stage h
  where
    go : (stage : Stage) → StandsAt stage s lines → (list_all sets_up lines ≡ true) ⊎ (subs_in lines ≡ made_sub ∷ [])
    go Sub h = inl (ap (list_all sets_up) h.1)
    go Flow h = inl (ap (list_all sets_up) h.1)
    go Counter h = inl (ap (list_all sets_up) h.1)
    go (Going phase) h = inr h.tells.subs_are

pub sent_told : (run : TrialRun) (s : ScriptState) (lines : List Line) (sent : ℕ) → Gave s lines → TrialStands run lines
    → ((ls : List Line) (x : script.SubAgent) → TrialStands run ls → subs_in ls ≡ x ∷ [] → sent ≡ sent_count ls x (boots_of ls x))
    → ((ls : List Line) → TrialStands run ls → list_all sets_up ls ≡ true → sent ≡ 0) → sent ≡ sent_now lines
sent_told run s lines sent h stands first none = go (subs_told s lines h)
  where
    go : (list_all sets_up lines ≡ true) ⊎ (subs_in lines ≡ made_sub ∷ []) → sent ≡ sent_now lines
    go (inl all) = none lines stands all ∙ sym (none_sent lines made_sub all)
    go (inr only) = first lines made_sub stands only

-- ---- what was delivered is what comes first in the run

adds_on_top : (names : Naming) (arrivals : List Arrival) (old new : List Delivery) → Adds names arrivals old new
    → BeginsWith new old
adds_on_top names [] old new h = subst (λ (ds : List Delivery). BeginsWith ds old) (sym h) (all_of old)
adds_on_top names (a ∷ before) old [] h = absurd h
adds_on_top names (a ∷ before) old (d ∷ more) h =
    one_then (d ∷ more) more old (adds_on_top names before old more h.1) (one_on_top d more)

goes_to : (seed total packets : ℕ) (m : Made) → packets ≤ total → m ≡ made_until seed total packets → Grows m (made seed total)
goes_to seed total packets m among is =
    subst (λ (n : Made). Grows n (made seed total)) (sym is) (until_made seed total packets among)

-- behind a packet
packet_to : (seed total packets before : ℕ) → packets ≡ suc before → packets ≤ total
    → Grows (made_until seed total before) (made seed total)
packet_to seed total packets before is among = until_made seed total before (omega (arith, is, among))

at_grows : (phase : Phase) (seed total packets decided : ℕ) (m : Made) → packets ≤ total
    → IsAt phase seed total packets decided m → Grows m (made seed total)
at_grows Packet seed total packets decided m among h = goes_to seed total packets m among h.is
at_grows Poll seed total packets decided m among h =
    subst (λ (n : Made). Grows n (made seed total)) (sym h.is) (packet_to seed total packets h.before h.packets_are among)
at_grows Send seed total packets decided m among h =
    subst (λ (n : Made). Grows n (made seed total)) (sym h.is) (packet_to seed total packets h.before h.packets_are among)
at_grows Decide seed total packets decided m among h =
    let sent : Made = sent_all seed (polled_behind seed total h.before) in
    let behind : Made = made_until seed total (suc h.before) in
    let sends : is_sent total (suc h.before) ≡ true = subst (λ (k : ℕ). is_sent total k ≡ true) h.packets_are h.sends in
    grows m sent (made seed total)
    (subst (λ (n : Made). Grows m n) h.leads (all_decide (boot_number m) (drop decided (sent_so_far seed m)) m))
    (grows sent behind (made seed total) (behind_send seed total (suc h.before) (made_until seed total h.before) sends)
    (until_made seed total (suc h.before) (omega (arith, h.packets_are, among))))
at_grows Restart seed total packets decided m among h =
    subst (λ (n : Made). Grows n (made seed total)) (sym h.leads) (until_made seed total packets among)
at_grows Done seed total packets decided m among h =
    subst (λ (n : Made). Grows m n) h.is (all_of m.deliveries)

none_of : (ds first : List Delivery) → first ≡ [] → BeginsWith ds first
none_of ds first is = subst (BeginsWith ds) (sym is) (record { later = ds; is = append-nil ds })

pub first_told : (s : ScriptState) (lines : List Line) → Gave s lines
    → BeginsWith (made_deliveries s.seed s.total) (deliveries_of lines)
first_told s lines h = go s.stage h
  where
    go : (stage : Stage) → StandsAt stage s lines → BeginsWith (made_deliveries s.seed s.total) (deliveries_of lines)
    go Sub h = none_of (made_deliveries s.seed s.total) (deliveries_of lines) (ap deliveries_of h.1)
    go Flow h = none_of (made_deliveries s.seed s.total) (deliveries_of lines) (ap deliveries_of h.1)
    go Counter h = none_of (made_deliveries s.seed s.total) (deliveries_of lines) (ap deliveries_of h.1)
    go (Going phase) h =
        subst (BeginsWith (made_deliveries s.seed s.total)) (sym h.tells.deliveries_are)
        (one_then (made_deliveries s.seed s.total) h.now.deliveries h.told
        (adds_on_top _ _ h.told h.now.deliveries h.due)
        (at_grows phase s.seed s.total s.packets s.decided h.now h.total h.at))

-- ---- and arrives as it does in the run

-- where there is one sub-agent, what arrives depends on its sender alone
abbrev sender_at : Sender → Stream → Sender
sender_at x stream = cond (same_stream (record { agent = x.agent; sub_agent = x.sub_agent }) stream) x nobody.sender

abbrev entry_by : Sender → Delivery → Entry
entry_by x d = record { arrival = d.arrival; bytes = sent_bytes (sender_at x d.stream) d.datagram }

sender_of_one : (b : Bool) (a : SubAgent) → (cond b a nobody).sender ≡ cond b a.sender nobody.sender
sender_of_one true a = refl
sender_of_one false a = refl

entry_of_one : (a : SubAgent) (d : Delivery) → entry_of (a ∷ []) d ≡ entry_by a.sender d
entry_of_one a d =
    ap (λ (x : Sender). record { arrival = d.arrival; bytes = sent_bytes x d.datagram })
    (sender_of_one (same_stream (record { agent = a.sender.agent; sub_agent = a.sender.sub_agent }) d.stream) a)

same_entries : (a b : SubAgent) (ds : List Delivery) → a.sender ≡ b.sender
    → map (entry_of (a ∷ [])) ds ≡ map (entry_of (b ∷ [])) ds
same_entries a b [] same = refl
same_entries a b (d ∷ more) same = λ i.
    (entry_of_one a d ∙ ap (λ (x : Sender). entry_by x d) same ∙ sym (entry_of_one b d)) i ∷ same_entries a b more same i

-- what is delivered arrives as it does in this history
abbrev ArriveIn : List SubAgent → List Line → Type 0
ArriveIn history lines = map (entry_of (history_of lines)) (deliveries_of lines) ≡ map (entry_of history) (deliveries_of lines)

entries_told : (s : ScriptState) (lines : List Line) → Gave s lines → ArriveIn (made_history s.seed s.total) lines
entries_told s lines h = go s.stage h
  where
    go : (stage : Stage) → StandsAt stage s lines → ArriveIn (made_history s.seed s.total) lines
    go Sub h = subst (ArriveIn (made_history s.seed s.total)) (sym h.1) refl
    go Flow h = subst (ArriveIn (made_history s.seed s.total)) (sym h.1) refl
    go Counter h = subst (ArriveIn (made_history s.seed s.total)) (sym h.1) refl
    go (Going phase) h =
        ap (λ (subs : List script.SubAgent). map (entry_of (map (agent_in lines) (reverse subs))) (deliveries_of lines)) h.tells.subs_are
        ∙ same_entries (agent_in lines made_sub) _ (deliveries_of lines) h.tells.sender_is

pub received_told : (s : ScriptState) (lines : List Line) → Gave s lines
    → Delivers (history_of lines) (deliveries_of lines) (reverse (all_delivered lines))
    → received_in lines ≡ received_from (made_history s.seed s.total) (deliveries_of lines)
received_told s lines h delivers =
    ap received_of
    (sym (reverse-reverse (all_delivered lines)) ∙ ap reverse (delivers.entries_are ∙ entries_told s lines h))
