-- The device of a script behind a poll.
use Rattle.std.proofs.Common.{◌≡◌, ◌∙◌, ◌-◌, min, inl, inr, ℕ, zero, suc, false, List, [], ◌∷◌, length, map, reverse, take, Result, Ok, Err, refl, ap, sym, subst, arith}
use Rattle.std.specs.Prelude.{◌↔◌}
use Rattle.std.specs.List.{AllByRecursion}
use Rattle.std.proofs.lemmas.Bool.{true≢false}
use Rattle.std.proofs.lemmas.List.{length-map, length-reverse}
use Rattle.wire_spec.specs.Shapes.{Tree}
use Rattle.data_format.specs.Records.{Content}
use Rattle.data_format.specs.declared.source.SourceId.{SourceId}
use Rattle.agent_spec.specs.Sources as spec
use Rattle.agent_spec.specs.Samples.{Setup}
use Rattle.agent_spec.specs.Events.{Event, Poll}
use Rattle.agent_spec.specs.Boots.{IsAmong, due_sources, happened, is_due}
use Rattle.agent_spec.specs.Counting.{next_count}
use Rattle.agent_spec.proofs.Lists.{all-filter}
use Rattle.script_spec.specs.Lines.{Line, PollLine, SubAgent}
use Rattle.script_spec.specs.Agents.{counters_at, counters_of, poll_at, setup_of}
use Rattle.script_laws.specs.Lawful.{AreLawful}
use Rattle.script_meter.specs.declared.meter.CountedRow.{CountedRow}
use Rattle.script_meter.specs.Tallies.{Counts, gives_counters, interface_at, tally_in}
use Rattle.script_meter.proofs.MeterReads.{reads}
use Rattle.sub_agents.specs.declared.polling.PollRefusal.{PollRefusal}
use Rattle.sub_agents.specs.declared.polling.PollRefusal.TheVariants.{TooLarge, MeterFault}
use Rattle.sub_agents.specs.Setups.{counter_source, form_of}
use Rattle.sub_agents.specs.Polls.{Gave, Polled, Polls, counters_fit, due_ids, places}
use Rattle.sub_agents.specs.Staged.{sample_value, staged_value}
use Rattle.sub_agents.specs.SubAgents.{SubAgentState, BootSoFar, StandsFor, so_far, with_event}
use Rattle.sub_agents.specs.Devices.{DeviceState, StandForEach, with_sub}
use Rattle.sflow_tool.specs.ScriptBoots.{DeviceOf, boot_now}
use Rattle.sflow_tool.proofs.Roomy.{IsRoomy, counters_have_room, roomy_at}
use Rattle.sflow_tool.proofs.ScriptBoots.{poll_boots}
use Rattle.sflow_tool.specs.Steps.{HappensAt, PollsAt}
use Rattle.sflow_tool.proofs.DeviceLines.{At, set_stands}
use Rattle.sflow_tool.proofs.Earlier.{earlier_stays}

abbrev no_faults : List CountedRow → ℕ
no_faults m = 0

-- ---- what the meter gave

abbrev read_of : List CountedRow → SourceId → Tree
read_of m id = interface_at id.index (tally_in id m)

pub gave_are : (ids : List SourceId) (rs : List Tree) (m m' : List CountedRow) → Gave gives_counters no_faults ids rs m m'
    → (rs ≡ map (read_of m) ids) × (m' ≡ m)
gave_are [] [] m m' g = (refl, sym g)
gave_are [] (r ∷ more) m m' g = absurd g
gave_are (id ∷ ids) [] m m' g = absurd g
gave_are (id ∷ ids) (r ∷ more) m m' (mid, one, rest) =
    let same : mid ≡ m = one.0 in
    let later = gave_are ids more m m' (subst (λ (x : List CountedRow). Gave gives_counters no_faults ids more x m') same rest) in
    (ap (λ (t : Tree). t ∷ more) (ap (λ (c : Content). c.0) one.1) ∙ ap (λ (l : List Tree). read_of m id ∷ l) later.0, later.1)

-- ---- which sources are read

module _ (events : List Event) (m : List CountedRow) (counters : List spec.CounterSetup)
    (read : (id : SourceId) (c : spec.CounterSetup) → IsAmong c counters → counter_source id ≡ c.source
    → read_of m id ≡ counters_at events c.source) where
  reads_each : (ids : List SourceId) (cs : List spec.CounterSetup) → AllByRecursion (λ (c : spec.CounterSetup). IsAmong c counters) cs
      → map counter_source ids ≡ map (λ (c : spec.CounterSetup). c.source) cs
      → map (read_of m) ids ≡ map (λ (c : spec.CounterSetup). counters_at events c.source) cs
  reads_each [] [] there e = refl
  reads_each [] (c ∷ cs) there e = absurd cc
  reads_each (id ∷ ids) [] there e = absurd cc
  reads_each (id ∷ ids) (c ∷ cs) there e =
      let first : counter_source id ≡ c.source = cc in
      let others : map counter_source ids ≡ map (λ (c : spec.CounterSetup). c.source) cs = cc in
      ap (λ (t : Tree). t ∷ map (read_of m) ids) (read id c there.0 first)
      ∙ ap (λ (l : List Tree). counters_at events c.source ∷ l) (reads_each ids cs there.1 others)

all_among : (xs ys : List spec.CounterSetup) → ((c : spec.CounterSetup) → IsAmong c xs → IsAmong c ys)
    → AllByRecursion (λ (c : spec.CounterSetup). IsAmong c ys) xs
all_among [] ys sub = tt
all_among (x ∷ more) ys sub = (sub x (inl refl), all_among more ys (λ c h. sub c (inr h)))

map_take : {X Y : Type 0} (f : X → Y) (n : ℕ) (xs : List X) → map f (take n xs) ≡ take n (map f xs)
map_take f zero xs = refl
map_take f (suc n) [] = refl
map_take f (suc n) (x ∷ more) = ap (λ l. f x ∷ l) (map_take f n more)

nil_take : {X : Type 0} (n : ℕ) (xs : List X) → xs ≡ [] → take n xs ≡ xs
nil_take zero [] e = refl
nil_take (suc n) [] e = refl
nil_take n (x ∷ more) e = absurd cc

take_most : {X : Type 0} (p : ℕ) (xs : List X) → take (min (length xs) p) xs ≡ take p xs
take_most p [] = nil_take (min 0 p) [] refl ∙ sym (nil_take p [] refl)
take_most zero (x ∷ more) = ap (λ (n : ℕ). take n (x ∷ more)) (none (suc (length more)))
  where
    none : (n : ℕ) → min n 0 ≡ 0
    none n = omega arith
take_most (suc p) (x ∷ more) =
    ap (λ (n : ℕ). take n (x ∷ more)) (one (length more) p) ∙ ap (λ l. x ∷ l) (take_most p more)
  where
    one : (n q : ℕ) → min (suc n) (suc q) ≡ suc (min n q)
    one n q = omega arith

-- ---- places in the stage

staged_long : (s : SubAgentState) (b : BootSoFar) → StandsFor s b → length s.stage.items ≡ length (so_far b).staged
staged_long s b h =
    sym (length-map s.stage.items (staged_value s.form))
    ∙ ap length h.counts.staged
    ∙ length-map (reverse (so_far b).staged) (sample_value (form_of s.form))
    ∙ length-reverse (so_far b).staged

places_are : (s : SubAgentState) (b : BootSoFar) → StandsFor s b → places s ≡ b.setup.stage - length (so_far b).staged
places_are s b h =
    ap (λ (n : ℕ). n - length s.stage.items) (ap (λ (k : Setup). k.stage) h.setup)
    ∙ ap (λ (n : ℕ). b.setup.stage - n) (staged_long s b h)

-- ---- the poll of a script

is_poll : (setup : Setup) (now : ℕ) (events : List Event) (readings : List Tree)
    → readings ≡ map (λ (c : spec.CounterSetup). counters_at events c.source)
    (take (setup.stage - length (happened setup events).staged) (due_sources setup now events (happened setup events)))
    → Poll now readings ≡ poll_at setup now events
unfolding poll_at
is_poll setup now events readings e = ap (λ (l : List Tree). Poll now l) e

counters_here : (lines : List Line) (s : SubAgent) → (setup_of lines s).counters ≡ counters_of s.id lines
unfolding setup_of
counters_here lines s = refl

module _ (old new : DeviceState) (m m' : List CountedRow) (lines : List Line) (id now k : ℕ) (x : At old lines id k)
    (lawful : AreLawful (PollLine id now ∷ lines)) (h : DeviceOf old lines) (counts : Counts m lines)
    (due : map counter_source (due_ids x.state now)
    ≡ map (λ (c : spec.CounterSetup). c.source)
    (due_sources (boot_now lines x.sub).setup now (boot_now lines x.sub).events (so_far (boot_now lines x.sub)))) where
  abbrev b : BootSoFar
  b = boot_now lines x.sub

  abbrev all_due : List spec.CounterSetup
  all_due = due_sources b.setup now b.events (so_far b)

  read_so : (source : SourceId) (c : spec.CounterSetup) → IsAmong c b.setup.counters → counter_source source ≡ c.source
      → read_of m source ≡ counters_at b.events c.source
  read_so source c among is =
      reads m lines x.sub c source counts lawful.2
      (subst (λ (l : List spec.CounterSetup). IsAmong c l) (counters_here lines x.sub) among) is

  readings_are : (state : SubAgentState) (p : Polled gives_counters no_faults x.state state b now m m')
      → length p.readings ≡ min (length (due_ids x.state now)) (places x.state)
      → (p.readings ≡ map (λ (c : spec.CounterSetup). counters_at b.events c.source)
      (take (b.setup.stage - length (so_far b).staged) all_due)) × (m' ≡ m)
  readings_are state p count =
      let gave = gave_are (take (length p.readings) (due_ids x.state now)) p.readings m m' p.gave in
      let there = all-filter (λ (c : spec.CounterSetup). IsAmong c b.setup.counters) (is_due now b.events (so_far b)) b.setup.counters
      (all_among b.setup.counters b.setup.counters (λ c among. among)) in
      let each = reads_each b.events m b.setup.counters read_so (due_ids x.state now) all_due there due in
      let taken : take (length p.readings) (due_ids x.state now) ≡ take (places x.state) (due_ids x.state now) =
      ap (λ (n : ℕ). take n (due_ids x.state now)) count ∙ take_most (places x.state) (due_ids x.state now) in (
        gave.0
            ∙ ap (map (read_of m)) taken
            ∙ map_take (read_of m) (places x.state) (due_ids x.state now)
            ∙ ap (take (places x.state)) each
            ∙ sym (map_take (λ (c : spec.CounterSetup). counters_at b.events c.source) (places x.state) all_due)
            ∙ ap (λ (n : ℕ). map (λ (c : spec.CounterSetup). counters_at b.events c.source) (take n all_due)) (places_are x.state b x.stands),
        gave.1,
      )

  zero_next : 0 ≡ next_count 0 → ⊥
  zero_next e = omega (arith, e)

  -- the poll is no error
  abbrev PollDone : Result ℕ PollRefusal → Type 0
  PollDone (Ok count) = DeviceOf new (PollLine id now ∷ lines) × (m' ≡ m) × PollsAt lines (PollLine id now) k now count
  PollDone (Err e) = ⊥

  pub polled : (result : Result ℕ PollRefusal) → ((result ≡ Err TooLarge) ↔ (counters_fit x.state ≡ false))
      → (state : SubAgentState) × (new ≡ with_sub k state old) × Polls gives_counters no_faults x.state state b now m m' result
      → PollDone result
  polled (Ok n) large (state, is, done) =
      let p = done.0 in
      let r = readings_are state p (done.1 ∙ done.2) in
      let event : Poll now p.readings ≡ poll_at b.setup now b.events = is_poll b.setup now b.events p.readings r.0 in
      let boots = poll_boots lines id now k x.sub lawful.2 x.there x.own in (
        subst (StandForEach new.subs) boots
            (set_stands old new lines k state (with_event (poll_at b.setup now b.events) b) h is
            (subst (λ (e : Event). StandsFor state (with_event e b)) event p.stands)),
        r.1,
        record {
          boot = b;
          readings = p.readings;
          happens = subst (HappensAt lines (PollLine id now) k b) (sym event)
              (record { there = x.boot; boots = sym boots; earlier = earlier_stays (PollLine id now) lines refl; delivers_none = refl });
          count_is = done.1;
        },
      )
  polled (Err TooLarge) large done =
      absurd (true≢false (sym (counters_have_room x.state (subst IsRoomy (sym x.stands.sender) (roomy_at lines k x.sub lawful.2 x.there)))
      ∙ large.0 refl))
  polled (Err MeterFault) large (state, is, done) = absurd (zero_next done.2)
