-- The boots that the sub-agents of a script have behind them, behind one line more.
use Rattle.std.proofs.Common.{◌≡◌, ◌∙◌, ◌==◌, ℕ, zero, suc, Bool, true, false, List, [], ◌∷◌, map, reverse, set, Some, refl, ap, sym, subst, if◌then◌else◌, slice_get, option_map}
use Rattle.std.specs.List.{AllByRecursion}
use Rattle.std.proofs.lemmas.Bool.{eq-eqb, eqb-true, true≢false}
use Rattle.std.proofs.lemmas.Option.{same_Some, slice_get-map}
use Rattle.agent_spec.specs.Samples.{Setup}
use Rattle.agent_spec.specs.Events.{Event}
use Rattle.script_spec.specs.Lines.{Line, MaxLine, SubLine, FlowLine, CounterLine, PacketLine, PollLine, SendLine, RestartLine, ResetLine, DeliverLine, SubAgent}
use Rattle.script_spec.specs.Agents.{AgentBoot, begun_at, boots_of, setup_of, subs_in, with_line}
use Rattle.script_laws.specs.Lawful.{AreLawful}
use Rattle.script_tables.specs.Tables.{newest}
use Rattle.script_tables.proofs.OfLines.{AreApart, subs_are}
use Rattle.script_meter.proofs.MeterReads.{HasNewest, has_newest}
use Rattle.sflow_tool.specs.ScriptBoots.{boot_now}
use Rattle.sflow_tool.specs.Trues.{earlier_now, events_behind}
use Rattle.sflow_tool.proofs.ScriptBoots.{goes_on, line_boots}

-- ---- those of one sub-agent

abbrev pub behind_of : List Line → SubAgent → List (List Event)
behind_of lines s = events_behind (boots_of lines s)

same_behind : (setup : Setup) (id : ℕ) (line : Line) (boots : List AgentBoot)
    → events_behind (with_line setup id line boots) ≡ events_behind boots
same_behind setup id line [] = refl
same_behind setup id line (b ∷ earlier) = refl

one_behind : (at : ℕ) (boots : List AgentBoot) → HasNewest boots
    → events_behind (begun_at at ∷ boots) ≡ (newest boots).events ∷ events_behind boots
one_behind at [] h = absurd (let bad : [] ≡ h.boot ∷ h.earlier = h.is in cc)
one_behind at (b ∷ earlier) h = refl

behind_stays : (line : Line) (lines : List Line) (s : SubAgent) → goes_on line ≡ true → behind_of (line ∷ lines) s ≡ behind_of lines s
behind_stays line lines s on =
    ap events_behind (line_boots line lines s on) ∙ same_behind (setup_of lines s) s.id line (boots_of lines s)

abbrev restarted : Bool → ℕ → List AgentBoot → List (List Event)
restarted own at boots = events_behind (if own then begun_at at ∷ boots else boots)

restart_behind : (lines : List Line) (id at : ℕ) (s : SubAgent) (own : Bool) → (id == s.id) ≡ own
    → behind_of (RestartLine id at ∷ lines) s ≡ restarted own at (boots_of lines s)
unfolding boots_of
restart_behind lines id at s own is = ap (λ (x : Bool). restarted x at (boots_of lines s)) is

-- ---- those of each

same_subs : (line : Line) (lines : List Line) → goes_on line ≡ true → subs_in (line ∷ lines) ≡ subs_in lines
same_subs (PacketLine p k) lines e = refl
same_subs (PollLine id now) lines e = refl
same_subs (SendLine id now) lines e = refl
same_subs (ResetLine t) lines e = refl
same_subs (DeliverLine d) lines e = refl
same_subs (MaxLine n) lines e = absurd cc
same_subs (SubLine t) lines e = absurd cc
same_subs (FlowLine id f) lines e = absurd cc
same_subs (CounterLine id c) lines e = absurd cc
same_subs (RestartLine id at) lines e = absurd cc

map_same : {X Y : Type 0} (f g : X → Y) → ((x : X) → f x ≡ g x) → (xs : List X) → map f xs ≡ map g xs
map_same f g h [] = refl
map_same f g h (x ∷ more) = ap (λ y. y ∷ map f more) (h x) ∙ ap (λ ys. g x ∷ ys) (map_same f g h more)

-- a line that begins no boot leaves them
pub earlier_stays : (line : Line) (lines : List Line) → goes_on line ≡ true → earlier_now (line ∷ lines) ≡ earlier_now lines
earlier_stays line lines on =
    ap (λ (xs : List SubAgent). map (behind_of (line ∷ lines)) (reverse xs)) (same_subs line lines on)
    ∙ map_same (behind_of (line ∷ lines)) (behind_of lines) (λ t. behind_stays line lines t on) (reverse (subs_in lines))

pub behind_at : (lines : List Line) (k : ℕ) (s : SubAgent) → slice_get (reverse (subs_in lines)) k ≡ Some s
    → slice_get (earlier_now lines) k ≡ Some (behind_of lines s)
behind_at lines k s at =
    slice_get-map (behind_of lines) (reverse (subs_in lines)) k ∙ ap (option_map (behind_of lines)) at

-- ---- one of them

other_id : (s t : SubAgent) → (s.id == t.id) ≡ false → (t.id == s.id) ≡ false
other_id s t e = go (t.id == s.id) refl
  where
    go : (b : Bool) → (t.id == s.id) ≡ b → b ≡ false
    go false is = refl
    go true is = absurd (true≢false (sym (eq-eqb s.id t.id (sym (eqb-true t.id s.id is))) ∙ e))

apart_at : (s : SubAgent) (xs : List SubAgent) (k : ℕ) (t : SubAgent)
    → AllByRecursion (λ (x : SubAgent). (s.id == x.id) ≡ false) xs → slice_get xs k ≡ Some t → (s.id == t.id) ≡ false
apart_at s [] k t h e = absurd cc
apart_at s (x ∷ more) zero t h e = subst (λ (y : SubAgent). (s.id == y.id) ≡ false) (same_Some _ _ e) h.0
apart_at s (x ∷ more) (suc k) t h e = apart_at s more k t h.1 e

module _ {X : Type 0} (old new : SubAgent → X) (s : SubAgent)
    (others : (t : SubAgent) → (s.id == t.id) ≡ false → old t ≡ new t) where
  all_others : (xs : List SubAgent) → AllByRecursion (λ (t : SubAgent). (s.id == t.id) ≡ false) xs → map old xs ≡ map new xs
  all_others [] h = refl
  all_others (x ∷ more) h =
      ap (λ y. y ∷ map old more) (others x h.0) ∙ ap (λ ys. new x ∷ ys) (all_others more h.1)

  set_one : (xs : List SubAgent) (k : ℕ) (x : X) → AreApart xs → slice_get xs k ≡ Some s → x ≡ new s
      → set (map old xs) k x ≡ map new xs
  set_one [] k x apart at is = absurd cc
  set_one (y ∷ more) zero x apart at is =
      let same : y ≡ s = same_Some _ _ at in
      ap (λ z. z ∷ map old more) (is ∙ ap new (sym same))
      ∙ ap (λ zs. new y ∷ zs)
      (all_others more (subst (λ (t : SubAgent). AllByRecursion (λ (u : SubAgent). (t.id == u.id) ≡ false) more) same apart.0))
  set_one (y ∷ more) (suc k) x apart at is =
      ap (λ z. z ∷ set (map old more) k x) (others y (other_id y s (apart_at y more k s apart.0 at)))
      ∙ ap (λ zs. new y ∷ zs) (set_one more k x apart.1 at is)

-- a restart puts the boot that ends behind the sub-agent
pub restart_earlier : (lines : List Line) (id at k : ℕ) (s : SubAgent) → AreLawful lines
    → slice_get (reverse (subs_in lines)) k ≡ Some s → s.id ≡ id
    → earlier_now (RestartLine id at ∷ lines) ≡ set (earlier_now lines) k ((boot_now lines s).events ∷ behind_of lines s)
restart_earlier lines id at k s lawful there own =
    sym (set_one (behind_of lines) (behind_of (RestartLine id at ∷ lines)) s
    (λ t other. sym (restart_behind lines id at t false (ap (λ (n : ℕ). n == t.id) (sym own) ∙ other)))
    (reverse (subs_in lines)) k ((boot_now lines s).events ∷ behind_of lines s) (subs_are lines lawful).apart there
    (sym (restart_behind lines id at s true (eq-eqb id s.id (sym own)) ∙ one_behind at (boots_of lines s) (has_newest lines s))))
