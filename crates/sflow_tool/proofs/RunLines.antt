-- A run of a script behind one line more.
use Rattle.std.proofs.Common.{◌≡◌, ◌∙◌, ◌+◌, ◌<◌, ◌≤◌, ◌&&◌, ℕ, zero, suc, Bool, true, false, List, [], ◌∷◌, length, reverse, refl, ap, sym, subst, arith, slice_get, Result, Ok, Err, OnOk}
use Rattle.std.specs.declared.option.Option.{Option}
use Rattle.std.specs.declared.option.Option.TheVariants.{Some, None}
use Rattle.std.specs.List.{list_all}
use Rattle.std.specs.Result.{is_err}
use Rattle.std.specs.Prelude.{is_some}
use Rattle.std.proofs.lemmas.Bool.{and_from, and_parts, le-leb, true≢false}
use Rattle.std.proofs.lemmas.Option.{same_Some}
use Rattle.script_spec.specs.Lines.{Delivery, DeliverLine, Line, PollLine, SendLine, SubAgent}
use Rattle.script_spec.specs.Agents.{delivered, subs_in}
use Rattle.script_spec.specs.Rules.{may_follow, sets_up, stands_in_order}
use Rattle.script_laws.specs.Lawful.{AreLawful}
use Rattle.script_laws.proofs.Happens.{in_order}
use Rattle.script_tables.specs.Said.{SetsUp, SetupsState}
use Rattle.script_tables.specs.Tables.{StandsAt, Tells, TablesState}
use Rattle.script_tables.proofs.ListTests.{all_turned}
use Rattle.script_tables.proofs.NewestBoots.{boot_in_time, boots_few, sent_few, subs_in_time}
use Rattle.sub_agents.specs.SubAgents.{SubAgentState}
use Rattle.sflow_tool.proofs.DeviceLines.{stands_at}
use Rattle.sflow_tool.proofs.Roomy.{all_at, stage_few}
use Rattle.script_meter.specs.declared.meter.CountedRow.{CountedRow}
use Rattle.script_meter.specs.Tallies.{Counts}
use Rattle.sub_agents.specs.Devices.{DeviceState, StandForEach}
use Rattle.script_meter.proofs.MeterLines.{deliver_counts}
use Rattle.sflow_tool.proofs.ScriptBoots.{deliver_boots}
use Rattle.sflow_tool.proofs.SendLines.{later_at}
use Rattle.sflow_tool.proofs.Earlier.{earlier_stays}
use Rattle.sflow_tool.proofs.Starts.{delivered_sub}
use Rattle.sflow_tool.specs.Steps.{ArrivesFrom}
use Rattle.sflow_tool.specs.ScriptBoots.{DeviceOf}
use Rattle.sflow_tool.specs.ScriptRuns.{HasDevice, IsStarted, StandsFor}
use Rattle.sflow_tool.specs.declared.script_run.ScriptRun.{ScriptRun}

all_set_up : (line : Line) (lines : List Line) → AreLawful (line ∷ lines) → sets_up line ≡ true → list_all sets_up (line ∷ lines) ≡ true
all_set_up line lines lawful sets =
    ap (λ (x : Bool). x && list_all sets_up lines) sets ∙ in_order line lines lawful.1 sets

device_kept : (line : Line) (lines : List Line) (old new : SetupsState) (device : Option DeviceState) → AreLawful (line ∷ lines)
    → sets_up line ≡ true → (SetsUp old lines → SetsUp new (line ∷ lines)) → HasDevice old device lines → HasDevice new device (line ∷ lines)
device_kept line lines old new None lawful sets up h = (up h.0, all_set_up line lines lawful sets)
device_kept line lines old new (Some d) lawful sets up h =
    absurd (true≢false (sym (in_order line lines lawful.1 sets) ∙ h.1))

-- a line that sets something up
pub set_up_line : (old : ScriptRun) (line : Line) (lines : List Line) (tables : TablesState) (setups : SetupsState) (rows : List CountedRow)
    → AreLawful (line ∷ lines) → sets_up line ≡ true → StandsFor old lines → Tells tables (line ∷ lines)
    → Counts rows (line ∷ lines) → (SetsUp old.setups lines → SetsUp setups (line ∷ lines))
    → StandsFor (record { tables = tables; setups = setups; meter = rows; device = old.device }) (line ∷ lines)
set_up_line old line lines tables setups rows lawful sets h tells counts up = record {
  tables = tells;
  lawful = lawful;
  counts = counts;
  device = device_kept line lines old.setups setups old.device lawful sets up h.device;
}

running_line : (line : Line) (lines : List Line) → sets_up line ≡ false → list_all sets_up (line ∷ lines) ≡ false
running_line line lines e = ap (λ (x : Bool). x && list_all sets_up lines) e

-- a line that sets nothing up
pub running : (setups : SetupsState) (device : Option DeviceState) (line : Line) (lines : List Line) (tables : TablesState) (rows : List CountedRow)
    (d : DeviceState) → device ≡ Some d → AreLawful (line ∷ lines) → sets_up line ≡ false → Tells tables (line ∷ lines)
    → Counts rows (line ∷ lines) → DeviceOf d (line ∷ lines)
    → StandsFor (record { tables = tables; setups = setups; meter = rows; device = device }) (line ∷ lines)
running setups device line lines tables rows d is lawful runs tells counts stands = record {
  tables = tells;
  lawful = lawful;
  counts = counts;
  device = subst (λ (o : Option DeviceState). HasDevice setups o (line ∷ lines)) (sym is) (stands, running_line line lines runs);
}

-- ---- bounds

-- the open device is the one that stands
pub same_device : (o : Option DeviceState) (d e : DeviceState) → o ≡ Some d → o ≡ Some e → d ≡ e
same_device o d e one two = let both : Some d ≡ Some e = sym one ∙ two in cc

pub device_of : (r : ScriptRun) (lines : List Line) (d : DeviceState) → IsStarted r lines → r.device ≡ Some d → DeviceOf d lines
device_of r lines d h is =
    subst (λ (x : DeviceState). DeviceOf x lines) (same_device r.device h.device d h.is_open is) h.stands

place_within : {X : Type 0} (xs : List X) (k : ℕ) (x : X) → slice_get xs k ≡ Some x → k < length xs
place_within [] k x e = absurd cc
place_within (y ∷ more) zero x e = omega arith
place_within (y ∷ more) (suc k) x e = omega (arith, place_within more k x e)

pub within : (r : ScriptRun) (lines : List Line) (d : DeviceState) (id k at : ℕ) → IsStarted r lines → r.device ≡ Some d
    → StandsAt lines id k at → k < length d.subs
within r lines d id k at h is s =
    let x = stands_at d lines id k at (device_of r lines d h is) s in
    place_within d.subs k x.state x.state_there

pub few_sent : (r : ScriptRun) (lines : List Line) (d : DeviceState) (id k at : ℕ) (state : SubAgentState) → IsStarted r lines
    → length lines < 4294967296 → r.device ≡ Some d → StandsAt lines id k at → slice_get d.subs k ≡ Some state
    → state.numbered < 4611686018427387904
few_sent r lines d id k at state h few is s there =
    let x = stands_at d lines id k at (device_of r lines d h is) s in
    let same : x.state ≡ state = same_Some _ _ (sym x.state_there ∙ there) in
    let sent = sent_few lines x.sub h.lawful (stage_few lines k x.sub h.lawful x.there) in
    let count = x.stands.counts.numbered in
    subst (λ (y : SubAgentState). y.numbered < 4611686018427387904) same (omega (arith, sent, count, few))

pub few_boots : (r : ScriptRun) (lines : List Line) (d : DeviceState) (id k at : ℕ) (state : SubAgentState) → IsStarted r lines
    → length lines < 4294967296 → r.device ≡ Some d → StandsAt lines id k at → slice_get d.subs k ≡ Some state
    → state.boot < 18446744073709551615
few_boots r lines d id k at state h few is s there =
    let x = stands_at d lines id k at (device_of r lines d h is) s in
    let same : x.state ≡ state = same_Some _ _ (sym x.state_there ∙ there) in
    let boots = boots_few lines x.sub in
    let number = x.stands.number in
    subst (λ (y : SubAgentState). y.boot < 18446744073709551615) same (omega (arith, boots, number, few))

pub in_time : (lines : List Line) (id k at uptime : ℕ) → AreLawful lines → StandsAt lines id k at → uptime < 4294967296
    → at + uptime < 18446744073709551616
in_time lines id k at uptime lawful s small =
    let first : s.sub.at ≤ 9223372036854775807 =
    all_at (λ (t : SubAgent). t.at ≤ 9223372036854775807) (reverse (subs_in lines)) k s.sub
    (all_turned (λ (t : SubAgent). t.at ≤ 9223372036854775807) (subs_in lines) (subs_in_time lines lawful)) s.there in
    let time = boot_in_time lines s.sub lawful first in
    omega (arith, time, s.at_is, small)

-- what a call says that was no error
pub ok_of : {T E : Type 0} {P : Type 0} (r : Result T E) → is_err r ≡ false → OnOk r P → P
ok_of (Ok x) e h = h
ok_of (Err x) e h = absurd cc

-- ---- a send

pub lawful_send : (lines : List Line) (id now : ℕ) → id < 4294967296 → now < 4294967296 → AreLawful lines
    → true ≡ may_follow lines (SendLine id now) → AreLawful (SendLine id now ∷ lines)
lawful_send lines id now small late lawful may = (
  and_from _ _ (and_from _ _ (le-leb 0 id (omega arith)) (le-leb id 4294967295 (omega (arith, small))))
      (and_from _ _ (le-leb 0 now (omega arith)) (le-leb now 4294967295 (omega (arith, late)))),
  sym may,
  lawful,
)

pub within_sent : (d : DeviceState) (lines : List Line) (id now k at : ℕ) → DeviceOf d (SendLine id now ∷ lines) → StandsAt lines id k at
    → k < length d.subs
within_sent d lines id now k at h s =
    let x = later_at d lines id now k at h s in
    place_within d.subs k x.state x.state_there

-- ---- a delivery

-- a sub-agent that sent what is delivered may poll
delivery_acts : (lines : List Line) (d : Delivery) → may_follow lines (DeliverLine d) ≡ true → may_follow lines (PollLine d.id 0) ≡ true
unfolding may_follow
delivery_acts lines d may = delivered_sub lines d (and_parts (stands_in_order lines (DeliverLine d)) (is_some (delivered lines d)) may).1

pub delivered_none : {P : Type 0} (lines : List Line) (d : Delivery) → AreLawful (DeliverLine d ∷ lines)
    → false ≡ may_follow lines (PollLine d.id 0) → P
delivered_none lines d lawful none = absurd (true≢false (sym (delivery_acts lines d lawful.1) ∙ sym none))

pub delivered_line : (r : ScriptRun) (lines : List Line) (d : Delivery) (tables : TablesState) (place at : ℕ)
    → AreLawful (DeliverLine d ∷ lines) → IsStarted r lines → Tells tables (DeliverLine d ∷ lines) → StandsAt lines d.id place at
    → StandsFor (record { tables = tables; setups = r.setups; meter = r.meter; device = r.device }) (DeliverLine d ∷ lines)
    × ArrivesFrom lines (DeliverLine d) place d.boot d.number d.at
delivered_line r lines d tables place at lawful h tells s = (
  running r.setups r.device (DeliverLine d) lines tables r.meter h.device h.is_open lawful refl tells
      (deliver_counts r.meter lines h.counts d)
      (subst (StandForEach h.device.subs) (deliver_boots lines d) h.stands),
  record {
    sub = s.sub;
    there = s.there;
    line_is = ap (λ (n : ℕ). DeliverLine (record { id = n; boot = d.boot; number = d.number; at = d.at })) (sym s.own);
    boots = sym (deliver_boots lines d);
    earlier = earlier_stays (DeliverLine d) lines refl;
  },
)
