-- The device of a script in its first boots.
use Rattle.std.proofs.Common.{◌≡◌, ◌∙◌, ◌≤◌, ℕ, Bool, true, false, List, [], ◌∷◌, length, map, reverse, find, Result, Err, refl, ap, sym, subst, arith, is_some, slice_get}
use Rattle.std.specs.declared.option.Option.{Option}
use Rattle.std.specs.declared.option.Option.TheVariants.{Some, None}
use Rattle.std.specs.Prelude.{option_and_then}
use Rattle.std.specs.List.{list_all}
use Rattle.std.proofs.lemmas.List.{length-map, length-reverse}
use Rattle.data_format.specs.declared.heads.Form.{Form}
use Rattle.data_format.specs.declared.heads.Form.TheVariants.{Compact, Expanded}
use Rattle.agent_spec.specs.Spelled as spelled
use Rattle.agent_spec.specs.Spelled.{fits_in}
use Rattle.agent_setups.specs.declared.setup.OpenRefusal.{OpenRefusal}
use Rattle.agent_setups.specs.declared.setup.OpenRefusal.TheVariants.{BadSetup}
use Rattle.agent_setups.specs.declared.setup.Setup.{Setup}
use Rattle.agent_setups.specs.Lists.{device_fault, form_for}
use Rattle.script_spec.specs.Lines.{Line, MaxLine, SubLine, FlowLine, CounterLine, PacketLine, PollLine, SendLine, RestartLine, ResetLine, DeliverLine, Delivery, SubAgent, flow_at}
use Rattle.script_spec.specs.Agents.{AgentBoot, delivered, delivered_of, is_of, setup_of, sub_of, subs_in}
use Rattle.script_spec.specs.Agents as agents
use Rattle.script_spec.specs.Rules.{may_follow, sets_up}
use Rattle.script_laws.specs.Lawful.{AreLawful}
use Rattle.script_laws.proofs.Happens.{none_yet}
use Rattle.script_tables.specs.Said.{AreSetUp, Said, SetsUp, SetupsState, form_said, said_of, setup_said}
use Rattle.script_tables.specs.Tables.{newest}
use Rattle.script_tables.proofs.Owners.{rules_met}
use Rattle.script_meter.proofs.SourceHomes.{home_of}
use Rattle.sub_agents.specs.Opening.{first_boot}
use Rattle.sub_agents.specs.Setups.{form_of}
use Rattle.sub_agents.specs.SubAgents.{BootSoFar}
use Rattle.sub_agents.specs.Devices.{DeviceState, StandForEach}
use Rattle.sflow_tool.specs.ScriptBoots.{boot_now}
use Rattle.sflow_tool.specs.ScriptRuns.{HasDevice, IsStarted, StandsFor}
use Rattle.sflow_tool.specs.declared.script_run.ScriptRun.{ScriptRun}

same_form : (form : Form) → form_of form ≡ form_said form
same_form Compact = refl
same_form Expanded = refl

-- a first boot by what a set-up says
abbrev boot_from : spelled.Form → Said → BootSoFar
boot_from form d = record {
  sender = record { agent = d.agent; sub_agent = d.sub_agent; form = form; max_datagram = d.max_datagram };
  setup = record {
    stage = d.stage;
    first = d.first;
    flows = d.flows;
    counters = d.counters;
    fits = fits_in (record { agent = d.agent; sub_agent = d.sub_agent; form = form; max_datagram = d.max_datagram });
  };
  number = 1;
  events = [];
}

first_said : (form : Form) (u : Setup) → first_boot form u ≡ boot_from (form_of form) (setup_said u)
first_said form u = refl

first_now : (lines : List Line) (s : SubAgent) → list_all sets_up lines ≡ true
    → boot_from (agents.form_of lines) (said_of lines s) ≡ boot_now lines s
unfolding setup_of
first_now lines s all =
    sym (ap (λ (boots : List AgentBoot). record {
      sender = agents.sender_of lines s;
      setup = setup_of lines s;
      number = length boots;
      events = (newest boots).events;
    }) (none_yet lines s all))

first_boots : (lines : List Line) (form : Form) (setups : List Setup) (xs : List SubAgent) → list_all sets_up lines ≡ true
    → form_said form ≡ agents.form_of lines → map setup_said setups ≡ map (said_of lines) xs
    → map (first_boot form) setups ≡ map (boot_now lines) xs
first_boots lines form [] [] all same said = refl
first_boots lines form [] (x ∷ xs) all same said = absurd cc
first_boots lines form (u ∷ setups) [] all same said = absurd cc
first_boots lines form (u ∷ setups) (x ∷ xs) all same said =
    let one : setup_said u ≡ said_of lines x = cc in
    let others : map setup_said setups ≡ map (said_of lines) xs = cc in
    ap (λ (f : spelled.Form). boot_from f (setup_said u) ∷ map (first_boot form) setups) (same_form form ∙ same)
    ∙ ap (λ (d : Said). boot_from (agents.form_of lines) d ∷ map (first_boot form) setups) one
    ∙ ap (λ (b : BootSoFar). b ∷ map (first_boot form) setups) (first_now lines x all)
    ∙ ap (λ (l : List BootSoFar). boot_now lines x ∷ l) (first_boots lines form setups xs all same others)

-- ---- the opening

-- before the device is open the set-ups are those of the lines
pub record NotOpen (r : ScriptRun) (lines : List Line) : Type 0 where
  pub up : SetsUp r.setups lines
  pub all : list_all sets_up lines ≡ true

not_open_at : (setups : SetupsState) (device : Option DeviceState) (lines : List Line) → is_some device ≡ false → HasDevice setups device lines
    → SetsUp setups lines × (list_all sets_up lines ≡ true)
not_open_at setups None lines e h = (h.0, h.1)
not_open_at setups (Some d) lines e h = absurd cc

pub not_open : (r : ScriptRun) (lines : List Line) → StandsFor r lines → is_some r.device ≡ false → NotOpen r lines
not_open r lines h e = let x = not_open_at r.setups r.device lines e h.device in record { up = x.0; all = x.1 }

pub opened : (r : ScriptRun) (lines : List Line) (d : DeviceState) (left : SetupsState) (setups : List Setup) → StandsFor r lines
    → is_some r.device ≡ false → setups ≡ r.setups.setups → (AreSetUp lines setups → form_said (form_for setups) ≡ agents.form_of lines)
    → StandForEach d.subs (map (first_boot (form_for setups)) setups)
    → IsStarted (record { tables = r.tables; setups = left; meter = r.meter; device = Some d }) lines
opened r lines d left setups h closed is form stands =
    let n = not_open r lines h closed in
    let said : AreSetUp lines setups = subst (AreSetUp lines) (sym is) n.up.setups in
    record {
      tables = h.tables;
      lawful = h.lawful;
      counts = h.counts;
      device = d;
      is_open = refl;
      stands =
          subst (StandForEach d.subs)
          (first_boots lines (form_for setups) setups (reverse (subs_in lines)) n.all (form said) said) stands;
    }

no_fault : (o : Option ℕ) (n : ℕ) → o ≡ None → o ≡ Some n → ⊥
no_fault o n none some = let bad : None ≡ Some n = sym none ∙ some in cc

pub never_bad : {T : Type 0} (r : ScriptRun) (lines : List Line) (setups : List Setup) (n : ℕ) (result : Result T OpenRefusal) (e : OpenRefusal)
    → StandsFor r lines → 1 ≤ length (subs_in lines) → is_some r.device ≡ false → setups ≡ r.setups.setups
    → (AreSetUp lines setups → 1 ≤ length setups → device_fault setups ≡ None)
    → result ≡ Err e → e ≡ BadSetup n → (result ≡ Err (BadSetup n) → device_fault setups ≡ Some n) → ⊥
never_bad r lines setups n result e h some closed is accepted was bad refused =
    let x = not_open r lines h closed in
    let said : AreSetUp lines setups = subst (AreSetUp lines) (sym is) x.up.setups in
    let long : length setups ≡ length (subs_in lines) =
    sym (length-map setups setup_said) ∙ ap length said ∙ length-map (reverse (subs_in lines)) (said_of lines) ∙ length-reverse (subs_in lines) in
    no_fault (device_fault setups) n (accepted said (omega (arith, long, some))) (refused (was ∙ ap (λ (x : OpenRefusal). Err x) bad))

-- ---- some sub-agent is there

some_found : {X : Type 0} (q : X → Bool) (xs : List X) → is_some (find q xs) ≡ true → 1 ≤ length xs
some_found q [] e = absurd cc
some_found q (x ∷ more) e = omega arith

pub delivered_sub : (lines : List Line) (d : Delivery) → is_some (delivered lines d) ≡ true → is_some (sub_of d.id lines) ≡ true
unfolding delivered
delivered_sub lines d e = go (sub_of d.id lines) e
  where
    go : (o : Option SubAgent) → is_some (option_and_then (λ (s : SubAgent). delivered_of lines s d) o) ≡ true → is_some o ≡ true
    go None h = absurd cc
    go (Some s) h = refl

home_there : {X : Type 0} (xs : List X) (k : ℕ) (x : X) → slice_get xs k ≡ Some x → 1 ≤ length xs
home_there [] k x e = absurd cc
home_there (y ∷ more) k x e = omega arith

pub some_sub : (line : Line) (lines : List Line) → AreLawful lines → sets_up line ≡ false → may_follow lines line ≡ true
    → 1 ≤ length (subs_in lines)
some_sub (MaxLine n) lines lawful runs may = absurd cc
some_sub (SubLine s) lines lawful runs may = absurd cc
some_sub (FlowLine id f) lines lawful runs may = absurd cc
some_sub (CounterLine id c) lines lawful runs may = absurd cc
some_sub (PacketLine p k) lines lawful runs may =
    let home = home_of (flow_at p) lines lawful (rules_met (PacketLine p k) lines may) in
    omega (arith, home_there (reverse (subs_in lines)) home.place home.sub home.there, length-reverse (subs_in lines))
some_sub (PollLine id now) lines lawful runs may = some_found (is_of id) (subs_in lines) (rules_met (PollLine id now) lines may)
some_sub (SendLine id now) lines lawful runs may = some_found (is_of id) (subs_in lines) (rules_met (SendLine id now) lines may)
some_sub (RestartLine id at) lines lawful runs may = some_found (is_of id) (subs_in lines) (rules_met (RestartLine id at) lines may)
some_sub (ResetLine s) lines lawful runs may =
    let home = home_of s lines lawful (rules_met (ResetLine s) lines may) in
    omega (arith, home_there (reverse (subs_in lines)) home.place home.sub home.there, length-reverse (subs_in lines))
some_sub (DeliverLine d) lines lawful runs may =
    some_found (is_of d.id) (subs_in lines) (delivered_sub lines d (rules_met (DeliverLine d) lines may))
