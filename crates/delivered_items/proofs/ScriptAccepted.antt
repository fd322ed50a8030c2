-- An agent's calls take what happens in lawful lines of a script.
use Rattle.std.proofs.Common.{◌≡◌, ◌-◌, ◌<◌, ◌^◌, ◌==◌, ℕ, zero, suc, Bool, true, false, List, [], ◌∷◌, length, reverse, take, filter_map, Option, Some, None, refl, sym, subst, arith, if◌then◌else◌, option_map}
use Rattle.wire_spec.specs.Spelling.{IsLawful}
use Rattle.wire_spec.specs.Tables.{interface_counters}
use Rattle.std.specs.List.{AllByRecursion, list_any}
use Rattle.std.proofs.lemmas.Bool.{leb-false, or_parts}
use Rattle.std.proofs.lemmas.Option.{same_Some}
use Rattle.agent_spec.specs.Sources.{Source, FlowSetup, CounterSetup}
use Rattle.agent_spec.specs.Samples.{Packet, Setup}
use Rattle.agent_spec.specs.Events.{Event, Observe, Reset}
use Rattle.agent_spec.specs.Boots.{due_sources, happened, is_due}
use Rattle.agent_spec.specs.Spelled.{Compact, Expanded, Sender}
use Rattle.agent_spec.proofs.Lists.{all-filter, all-imply}
use Rattle.script_spec.specs.Values.{Place}
use Rattle.script_spec.specs.Lines.{Line, MaxLine, SubLine, FlowLine, CounterLine, PacketLine, PollLine, SendLine, RestartLine, ResetLine, DeliverLine, SubAgent}
use Rattle.script_spec.specs.Agents.{AgentBoot, Owned, begun_at, boots_after, boots_of, counter_in, counters_at, event_of, flow_in, flow_of, form_of, has_source, is_wide, poll_at, send_at, sender_of, setup_of, sources_in, subs_in, with_event, with_line}
use Rattle.script_spec.specs.Rules.{sets_up}
use Rattle.script_laws.specs.Written.{may_be_written}
use Rattle.script_laws.specs.Lawful.{AreLawful}
use Rattle.script_laws.proofs.Happens.{none_yet}
use Rattle.script_histories.specs.Histories.{agent_in, history_of}
use Rattle.script_histories.proofs.Lists.{all_map, all_turned}
use Rattle.script_histories.proofs.SetUps.{all_said, counter_owned, flow_owned}
use Rattle.script_histories.proofs.Reaching.{same_sender}
use Rattle.script_histories.proofs.Deliveries.{all_set_up}
use Rattle.delivered_items.specs.Accepted.{IsFlowSetup, IsPolled, IsSourceIn, IsTaken, IsAccepted, AreAccepted}
use Rattle.delivered_items.proofs.ScriptWords.{IsPlaced, IsWritten, OwnPlaced, max_is, moment_in, packet_in, rates_are, sources_are, subs_are}
use Rattle.delivered_items.proofs.ScriptRoom.{IsRoomy, packet_fits, reading_fits}

-- ---- sources in the form of all samples

in_form : (os : List Owned) (b : Bool) → list_any is_wide os ≡ b → OwnPlaced os
    → AllByRecursion (λ (o : Owned). IsSourceIn (if b then Expanded else Compact) o.source) os
in_form os true e h =
    all-imply (λ (o : Owned). IsPlaced o.source) (λ (o : Owned). IsSourceIn Expanded o.source)
    (λ o p. (omega (arith, p.0), p.1)) os h
in_form [] false e h = tt
in_form (o ∷ more) false e h =
    let parts = or_parts (is_wide o) (list_any is_wide more) e in
    let narrow : o.source.index < 16777216 = leb-false 16777216 o.source.index parts.0 in
    ((h.0.0, omega (arith, narrow)), in_form more false parts.1 h.1)

pub sources_in_form : (lines : List Line) → AreLawful lines
    → AllByRecursion (λ (o : Owned). IsSourceIn (form_of lines) o.source) (sources_in lines)
sources_in_form lines l = in_form (sources_in lines) (list_any is_wide (sources_in lines)) refl (sources_are lines l)

-- ---- lists

all_take : {X : Type 0} (P : X → Type 0) (k : ℕ) (xs : List X) → AllByRecursion P xs → AllByRecursion P (take k xs)
all_take P zero xs h = tt
all_take P (suc k) [] h = tt
all_take P (suc k) (x ∷ xs) h = (h.0, all_take P k xs h.1)

all_both : {X : Type 0} (P Q R : X → Type 0) → ((x : X) → P x → Q x → R x) → (xs : List X) → AllByRecursion P xs
    → AllByRecursion Q xs → AllByRecursion R xs
all_both P Q R f [] p q = tt
all_both P Q R f (x ∷ more) p q = (f x p.0 q.0, all_both P Q R f more p.1 q.1)

-- ---- what one line makes happen

abbrev HasIndex : CounterSetup → Type 0
HasIndex c = c.source.index < 2 ^ 32

reading_lawful : (events : List Event) (source : Source) → source.index < 2 ^ 32
    → IsLawful interface_counters (counters_at events source)
reading_lawful events source small = (
  omega (arith, small),
  (
    omega arith,
    (
      omega arith,
      (
        omega arith,
        (
          omega arith,
          (
            omega arith,
            (
              omega arith,
              (
                omega arith,
                (
                  omega arith,
                  (
                    omega arith,
                    (
                      omega arith,
                      (
                        omega arith,
                        (
                          omega arith,
                          (
                            omega arith,
                            (
                              omega arith,
                              (
                                omega arith,
                                (
                                  omega arith,
                                  (omega arith, (omega arith, tt)),
                                ),
                              ),
                            ),
                          ),
                        ),
                      ),
                    ),
                  ),
                ),
              ),
            ),
          ),
        ),
      ),
    ),
  ),
)

one_read : (sender : Sender) (events : List Event) (c : CounterSetup) → IsRoomy sender → HasIndex c
    → IsPolled sender (counters_at events c.source)
one_read sender events c r small = record {
  lawful = reading_lawful events c.source small;
  fits = λ source. reading_fits sender source events c.source r;
}

poll_taken : (sender : Sender) (setup : Setup) (now : ℕ) (events : List Event) → IsRoomy sender
    → AllByRecursion HasIndex setup.counters → IsTaken sender (poll_at setup now events)
unfolding poll_at
poll_taken sender setup now events r small =
    let b = happened setup events in
    let due : List CounterSetup = due_sources setup now events b in
    let read : List CounterSetup = take (setup.stage - length b.staged) due in
    all_map (IsPolled sender) (λ (c : CounterSetup). counters_at events c.source) read
    (all-imply HasIndex (λ (c : CounterSetup). IsPolled sender (counters_at events c.source))
    (λ c h. one_read sender events c r h) read
    (all_take HasIndex (setup.stage - length b.staged) due
    (all-filter HasIndex (is_due now events b) setup.counters small)))

send_taken : (sender : Sender) (setup : Setup) (now : ℕ) (events : List Event) → now < 2 ^ 32
    → IsTaken sender (send_at setup now events)
unfolding send_at
send_taken sender setup now events small = small

own_taken : (sender : Sender) (b : Bool) (own e : Event) → (if b then Some own else None) ≡ Some e → IsTaken sender own
    → IsTaken sender e
own_taken sender true own e made h = subst (IsTaken sender) (same_Some _ _ made) h
own_taken sender false own e made h = absurd cc

packet_taken : (sender : Sender) (p : Place) (k : Packet) (o : Option FlowSetup) (e : Event) → IsRoomy sender
    → may_be_written (PacketLine p k) ≡ true → option_map (λ f. Observe f k) o ≡ Some e → IsTaken sender e
packet_taken sender p k None e r written made = absurd cc
packet_taken sender p k (Some f) e r written made =
    subst (IsTaken sender) (same_Some _ _ made)
    (record { packet = packet_in sender.form p k written; fits = packet_fits sender f.source k r })

module _ (sender : Sender) (setup : Setup) (id : ℕ) (r : IsRoomy sender) (small : AllByRecursion HasIndex setup.counters) where
  next_taken : (events : List Event) (line : Line) (e : Event) → may_be_written line ≡ true
      → event_of setup id events line ≡ Some e → IsTaken sender e
  next_taken events (MaxLine n) e written made = absurd cc
  next_taken events (SubLine t) e written made = absurd cc
  next_taken events (FlowLine owner f) e written made = absurd cc
  next_taken events (CounterLine owner c) e written made = absurd cc
  next_taken events (PacketLine p k) e written made = packet_taken sender p k (flow_of setup p) e r written made
  next_taken events (PollLine owner now) e written made =
      own_taken sender (owner == id) (poll_at setup now events) e made (poll_taken sender setup now events r small)
  next_taken events (SendLine owner now) e written made =
      own_taken sender (owner == id) (send_at setup now events) e made
      (send_taken sender setup now events (moment_in owner now written))
  next_taken events (RestartLine owner at) e written made = absurd cc
  next_taken events (ResetLine t) e written made = own_taken sender (has_source setup t) (Reset t) e made tt
  next_taken events (DeliverLine d) e written made = absurd cc

  -- ---- all boots

  abbrev AllTaken : List AgentBoot → Type 0
  AllTaken boots = AllByRecursion (λ (b : AgentBoot). AllByRecursion (IsTaken sender) b.events) boots

  with_option : (o : Option Event) (b : AgentBoot) → ((e : Event) → o ≡ Some e → IsTaken sender e)
      → AllByRecursion (IsTaken sender) b.events → AllByRecursion (IsTaken sender) (with_event o b).events
  with_option None b next h = h
  with_option (Some e) b next h = (next e refl, h)

  goes_on : (line : Line) (boots : List AgentBoot) → may_be_written line ≡ true → AllTaken boots
      → AllTaken (with_line setup id line boots)
  goes_on line [] written h = h
  goes_on line (b ∷ earlier) written h =
      (with_option (event_of setup id b.events line) b (λ e made. next_taken b.events line e written made) h.0, h.1)

  begins : (at : ℕ) (own : Bool) (boots : List AgentBoot) → AllTaken boots
      → AllTaken (if own then begun_at at ∷ boots else boots)
  begins at true boots h = (tt, h)
  begins at false boots h = h

  after_line : (line : Line) (boots : List AgentBoot) → may_be_written line ≡ true → AllTaken boots
      → AllTaken (boots_after setup id line boots)
  after_line (MaxLine n) boots written h = goes_on (MaxLine n) boots written h
  after_line (SubLine t) boots written h = goes_on (SubLine t) boots written h
  after_line (FlowLine owner f) boots written h = goes_on (FlowLine owner f) boots written h
  after_line (CounterLine owner c) boots written h = goes_on (CounterLine owner c) boots written h
  after_line (PacketLine p k) boots written h = goes_on (PacketLine p k) boots written h
  after_line (PollLine owner now) boots written h = goes_on (PollLine owner now) boots written h
  after_line (SendLine owner now) boots written h = goes_on (SendLine owner now) boots written h
  after_line (RestartLine owner at) boots written h = begins at (owner == id) boots h
  after_line (ResetLine t) boots written h = goes_on (ResetLine t) boots written h
  after_line (DeliverLine d) boots written h = goes_on (DeliverLine d) boots written h

roomy : (lines : List Line) (s : SubAgent) → AreLawful lines → IsWritten s → IsRoomy (sender_of lines s)
roomy lines s l w = record { least = (max_is lines l).0; front = w.front }

counters_small : (lines : List Line) (s : SubAgent) → AreLawful lines → AllByRecursion HasIndex (setup_of lines s).counters
unfolding setup_of
counters_small lines s l =
    all_turned HasIndex (filter_map (counter_in s.id) lines)
    (all_said (counter_in s.id) (λ (c : CounterSetup). c.source) (counter_owned s.id) (λ (x : Source). x.index < 2 ^ 32) lines
    (all-imply (λ (o : Owned). IsPlaced o.source) (λ (o : Owned). o.source.index < 2 ^ 32) (λ o p. p.1) (sources_in lines)
    (sources_are lines l)))

abbrev BootsTaken : Sender → List AgentBoot → Type 0
BootsTaken sender boots = AllByRecursion (λ (b : AgentBoot). AllByRecursion (IsTaken sender) b.events) boots

boots_taken : (lines : List Line) (s : SubAgent) → AreLawful lines → IsWritten s
    → BootsTaken (sender_of lines s) (boots_of lines s)
unfolding boots_of
boots_taken [] s l w = (tt, tt)
boots_taken (line ∷ before) s l w = go (sets_up line) refl (boots_taken before s l.2 w)
  where
    go : (b : Bool) → sets_up line ≡ b → BootsTaken (sender_of before s) (boots_of before s)
        → BootsTaken (sender_of (line ∷ before) s) (boots_of (line ∷ before) s)
    go true sets h =
        subst (BootsTaken (sender_of (line ∷ before) s))
        (sym (none_yet (line ∷ before) s (all_set_up line before l sets))) (tt, tt)
    go false sets h =
        subst (λ (x : Sender). BootsTaken x (boots_after (setup_of before s) s.id line (boots_of before s)))
        (sym (same_sender line before s sets))
        (after_line (sender_of before s) (setup_of before s) s.id (roomy before s l.2 w) (counters_small before s l.2) line
        (boots_of before s) l.0 h)

-- ---- all of it

flows_in_form : (lines : List Line) (id : ℕ) → AreLawful lines
    → AllByRecursion (IsFlowSetup (form_of lines)) (filter_map (flow_in id) lines)
flows_in_form lines id l =
    all_both (λ (f : FlowSetup). IsSourceIn (form_of lines) f.source) (λ (f : FlowSetup). f.rate < 2 ^ 32)
    (IsFlowSetup (form_of lines)) (λ f p q. record { source = p; rate = q }) (filter_map (flow_in id) lines)
    (all_said (flow_in id) (λ (f : FlowSetup). f.source) (flow_owned id) (IsSourceIn (form_of lines)) lines
    (sources_in_form lines l))
    (rates_are id lines l)

is_accepted : (lines : List Line) (s : SubAgent) → AreLawful lines → IsWritten s → IsAccepted (agent_in lines s)
unfolding setup_of
is_accepted lines s l w = record {
  sender = record { agent = w.address; sub_agent = w.id; most = (max_is lines l).1 };
  fits = λ samples. refl;
  flows = all_turned (IsFlowSetup (form_of lines)) (filter_map (flow_in s.id) lines) (flows_in_form lines s.id l);
  counters = all_turned (λ (c : CounterSetup). IsSourceIn (form_of lines) c.source) (filter_map (counter_in s.id) lines)
      (all_said (counter_in s.id) (λ (c : CounterSetup). c.source) (counter_owned s.id) (IsSourceIn (form_of lines)) lines
      (sources_in_form lines l));
  boots = all_map (AllByRecursion (IsTaken (sender_of lines s))) (λ (b : AgentBoot). b.events) (reverse (boots_of lines s))
      (all_turned (λ (b : AgentBoot). AllByRecursion (IsTaken (sender_of lines s)) b.events) (boots_of lines s)
      (boots_taken lines s l w));
}

pub are_accepted : (lines : List Line) → AreLawful lines → AreAccepted (history_of lines)
are_accepted lines l =
    all_map IsAccepted (agent_in lines) (reverse (subs_in lines))
    (all_turned (λ (s : SubAgent). IsAccepted (agent_in lines s)) (subs_in lines)
    (all-imply IsWritten (λ (s : SubAgent). IsAccepted (agent_in lines s)) (λ s w. is_accepted lines s l w) (subs_in lines)
    (subs_are lines l)))
