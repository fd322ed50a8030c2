-- What is kept beside each sub-agent, by the places.
use Rattle.std.proofs.Common.{◌≡◌, ◌∙◌, ℕ, zero, suc, List, [], ◌∷◌, length, map, set, Some, refl, ap, sym, subst, slice_get}
use Rattle.std.proofs.lemmas.Option.{same_Some}
use Rattle.agent_spec.specs.Events.{Event}
use Rattle.script_spec.specs.Lines.{Line, SubAgent}
use Rattle.script_spec.specs.Agents.{AgentBoot, boots_of, sender_of, setup_of}
use Rattle.script_meter.proofs.MeterReads.{HasNewest, has_newest}
use Rattle.script_tables.specs.Tables.{newest}
use Rattle.sub_agents.specs.SubAgents.{BootSoFar, with_event}
use Rattle.true_samples.specs.States.{TrueState}
use Rattle.true_samples.specs.Standing.{StandsFor}
use Rattle.sflow_tool.specs.ScriptBoots.{boot_now, boots_now}
use Rattle.sflow_tool.specs.Trues.{StandTrue, TrueOf, earlier_now, events_behind, events_in}
use Rattle.sflow_tool.specs.Steps.{HappensAt}

-- ---- one of them

pub record Stood (trues : List TrueState) (earlier : List (List (List Event))) (k : ℕ) (b : BootSoFar) : Type 0 where
  pub state : TrueState
  pub behind : List (List Event)
  pub there : slice_get trues k ≡ Some state
  pub behind_is : slice_get earlier k ≡ Some behind
  pub stands : StandsFor b.sender b.setup state b.events behind

pub stood_at : (trues : List TrueState) (boots : List BootSoFar) (earlier : List (List (List Event))) (k : ℕ) (b : BootSoFar)
    → StandTrue trues boots earlier → slice_get boots k ≡ Some b → Stood trues earlier k b
stood_at [] [] [] k b h e = absurd cc
stood_at [] [] (x ∷ earlier) k b h e = absurd h
stood_at [] (c ∷ boots) earlier k b h e = absurd h
stood_at (t ∷ trues) [] earlier k b h e = absurd h
stood_at (t ∷ trues) (c ∷ boots) [] k b h e = absurd h
stood_at (t ∷ trues) (c ∷ boots) (x ∷ earlier) zero b h e = record {
  state = t;
  behind = x;
  there = refl;
  behind_is = refl;
  stands = subst (λ (y : BootSoFar). StandsFor y.sender y.setup t y.events x) (same_Some _ _ e) h.0;
}
stood_at (t ∷ trues) (c ∷ boots) (x ∷ earlier) (suc k) b h e =
    let s = stood_at trues boots earlier k b h.1 e in
    record { state = s.state; behind = s.behind; there = s.there; behind_is = s.behind_is; stands = s.stands }

-- one of them is another
pub set_true : (trues : List TrueState) (boots : List BootSoFar) (earlier : List (List (List Event))) (k : ℕ) (t : TrueState)
    (b : BootSoFar) (e : List (List Event)) → StandTrue trues boots earlier → StandsFor b.sender b.setup t b.events e
    → StandTrue (set trues k t) (set boots k b) (set earlier k e)
set_true [] [] [] k t b e h s = tt
set_true [] [] (x ∷ earlier) k t b e h s = absurd h
set_true [] (c ∷ boots) earlier k t b e h s = absurd h
set_true (u ∷ trues) [] earlier k t b e h s = absurd h
set_true (u ∷ trues) (c ∷ boots) [] k t b e h s = absurd h
set_true (u ∷ trues) (c ∷ boots) (x ∷ earlier) zero t b e h s = (s, h.1)
set_true (u ∷ trues) (c ∷ boots) (x ∷ earlier) (suc k) t b e h s = (h.0, set_true trues boots earlier k t b e h.1 s)

set_same : {X : Type 0} (xs : List X) (k : ℕ) (x : X) → slice_get xs k ≡ Some x → set xs k x ≡ xs
set_same [] k x e = refl
set_same (y ∷ more) zero x e = ap (λ (z : _). z ∷ more) (sym (same_Some _ _ e))
set_same (y ∷ more) (suc k) x e = ap (λ l. y ∷ l) (set_same more k x e)

-- ---- by sub-agents

abbrev behind_now : List Line → SubAgent → List (List Event)
behind_now lines s = events_behind (boots_of lines s)

-- it stands for a sub-agent of the lines
abbrev pub StandsIn : List Line → TrueState → SubAgent → Type 0
StandsIn lines t s =
    StandsFor (sender_of lines s) (setup_of lines s) t (newest (boots_of lines s)).events (events_behind (boots_of lines s))

pub true_of_sub : (lines : List Line) (trues : List TrueState) (xs : List SubAgent) (k : ℕ) (s : SubAgent)
    → StandTrue trues (map (boot_now lines) xs) (map (λ (x : SubAgent). events_behind (boots_of lines x)) xs)
    → slice_get xs k ≡ Some s → (t : TrueState) × (slice_get trues k ≡ Some t) × StandsIn lines t s
true_of_sub lines trues [] k s h e = absurd cc
true_of_sub lines [] (x ∷ xs) k s h e = absurd h
true_of_sub lines (t ∷ trues) (x ∷ xs) zero s h e = (t, refl, subst (StandsIn lines t) (same_Some _ _ e) h.0)
true_of_sub lines (t ∷ trues) (x ∷ xs) (suc k) s h e = true_of_sub lines trues xs k s h.1 e

pub sub_of_true : (lines : List Line) (trues : List TrueState) (xs : List SubAgent) (k : ℕ) (t : TrueState)
    → StandTrue trues (map (boot_now lines) xs) (map (λ (x : SubAgent). events_behind (boots_of lines x)) xs)
    → slice_get trues k ≡ Some t → (s : SubAgent) × (slice_get xs k ≡ Some s) × StandsIn lines t s
sub_of_true lines [] xs k t h e = absurd cc
sub_of_true lines (u ∷ trues) [] k t h e = absurd h
sub_of_true lines (u ∷ trues) (x ∷ xs) zero t h e =
    (x, refl, subst (λ (v : TrueState). StandsIn lines v x) (same_Some _ _ e) h.0)
sub_of_true lines (u ∷ trues) (x ∷ xs) (suc k) t h e = sub_of_true lines trues xs k t h.1 e

pub same_many : (lines : List Line) (trues : List TrueState) (xs : List SubAgent)
    → StandTrue trues (map (boot_now lines) xs) (map (λ (x : SubAgent). events_behind (boots_of lines x)) xs)
    → length trues ≡ length xs
same_many lines [] [] h = refl
same_many lines [] (x ∷ xs) h = absurd h
same_many lines (t ∷ trues) [] h = absurd h
same_many lines (t ∷ trues) (x ∷ xs) h = ap (λ (n : ℕ). suc n) (same_many lines trues xs h.1)

-- the newest boot and those before are all boots
all_events : (boots : List AgentBoot) → HasNewest boots → (newest boots).events ∷ events_behind boots ≡ map events_in boots
all_events [] h = absurd (let bad : [] ≡ h.boot ∷ h.earlier = h.is in cc)
all_events (b ∷ earlier) h = refl

pub all_boots : (lines : List Line) (s : SubAgent)
    → (newest (boots_of lines s)).events ∷ events_behind (boots_of lines s) ≡ map events_in (boots_of lines s)
all_boots lines s = all_events (boots_of lines s) (has_newest lines s)

-- ---- a line

module _ (old : List TrueState) (lines : List Line) (line : Line) (k : ℕ) (b : BootSoFar) (t t' : TrueState)
    (there : slice_get old k ≡ Some t) (h : TrueOf old lines) where
  same_state : (s : Stood old (earlier_now lines) k b) → s.state ≡ t
  same_state s = same_Some _ _ (sym s.there ∙ there)

  -- one event more at a place
  pub happened_at : (e : Event) → HappensAt lines line k b e
      → ((behind : List (List Event)) → StandsFor b.sender b.setup t b.events behind
      → StandsFor b.sender b.setup t' (e ∷ b.events) behind)
      → TrueOf (set old k t') (line ∷ lines)
  happened_at e x goes =
      let s = stood_at old (boots_now lines) (earlier_now lines) k b h x.there in
      let now : StandsFor b.sender b.setup t b.events s.behind =
      subst (λ (v : TrueState). StandsFor b.sender b.setup v b.events s.behind) (same_state s) s.stands in
      let made = set_true old (boots_now lines) (earlier_now lines) k t' (with_event e b) s.behind h (goes s.behind now) in
      let earlier : StandTrue (set old k t') (set (boots_now lines) k (with_event e b)) (earlier_now lines) =
      subst (StandTrue (set old k t') (set (boots_now lines) k (with_event e b)))
      (set_same (earlier_now lines) k s.behind s.behind_is) made in
      let boots : StandTrue (set old k t') (boots_now (line ∷ lines)) (earlier_now lines) =
      subst (λ (l : List BootSoFar). StandTrue (set old k t') l (earlier_now lines)) (sym x.boots) earlier in
      subst (StandTrue (set old k t') (boots_now (line ∷ lines))) (sym x.earlier) boots
