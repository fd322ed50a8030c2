-- Sub-agents are opened one after the other.
use Rattle.std.proofs.Common.{◌≡◌, ℕ, inl, inr, List, [], ◌∷◌, ◌++◌, map, refl, sym, ap, ◌∙◌, append_assoc}
use Rattle.std.specs.Prelude.{◌⊎◌, Bool, true, false, Result, Ok, Err, is_ok, is_err, if◌then◌else◌}
use Rattle.std.specs.declared.option.Option.{Option}
use Rattle.std.specs.declared.option.Option.TheVariants.{Some, None}
use Rattle.data_format.specs.declared.heads.Form.{Form}
use Rattle.agent_setups.specs.declared.setup.Setup.{Setup}
use Rattle.agent_setups.specs.declared.setup.OpenRefusal.{OpenRefusal}
use Rattle.agent_setups.specs.declared.setup.OpenRefusal.TheVariants.{BadSetup, Memory}
use Rattle.agent_setups.specs.Faults.{setup_fault}
use Rattle.agent_setups.specs.Lists.{first_or, first_fault}
use Rattle.sub_agents.specs.Opening.{first_boot}
use Rattle.sub_agents.specs.SubAgents.{SubAgentState, StandsFor}
use Rattle.sub_agents.specs.Devices.{StandForEach}

-- those of the set-ups so far are opened, and these set-ups break no rule
pub record AreOpened (form : Form) (subs : List SubAgentState) (setups : List Setup) : Type 0 where
  pub stand : StandForEach subs (map (first_boot form) setups)
  pub none : (rest : List Setup) → first_fault form (setups ++ rest) ≡ first_fault form rest

pub opened-none : (form : Form) → AreOpened form [] []
opened-none form = record { stand = tt; none = λ rest. refl }

stand-last : (form : Form) (subs : List SubAgentState) (setups : List Setup) (s : SubAgentState) (x : Setup)
    → StandForEach subs (map (first_boot form) setups) → StandsFor s (first_boot form x)
    → StandForEach (subs ++ s ∷ []) (map (first_boot form) (setups ++ x ∷ []))
stand-last form [] [] s x h g = (g, tt)
stand-last form [] (y ∷ more) s x h g = absurd h
stand-last form (z ∷ subs) [] s x h g = absurd h
stand-last form (z ∷ subs) (y ∷ more) s x h g = (h.0, stand-last form subs more s x h.1 g)

first-split : (form : Form) (xs : List Setup) (x : Setup) (rest : List Setup)
    → first_fault form ((xs ++ x ∷ []) ++ rest) ≡ first_fault form (xs ++ x ∷ rest)
first-split form [] x rest = refl
first-split form (y ∷ more) x rest =
    ap (λ (o : Option ℕ). first_or (setup_fault form y) o) (first-split form more x rest)

pub opened-step : (form : Form) (subs : List SubAgentState) (setups : List Setup) (s : SubAgentState) (x : Setup)
    → AreOpened form subs setups → StandsFor s (first_boot form x) → setup_fault form x ≡ None
    → AreOpened form (subs ++ s ∷ []) (setups ++ x ∷ [])
opened-step form subs setups s x h g sound = record {
  stand = stand-last form subs setups s x h.stand g;
  none = λ rest.
      first-split form setups x rest ∙ h.none (x ∷ rest)
      ∙ ap (λ (o : Option ℕ). first_or o (first_fault form rest)) sound;
}

-- the next set-up breaks a rule
pub opened-bad : (form : Form) (subs : List SubAgentState) (setups : List Setup) (x : Setup) (rest : List Setup) (n : ℕ)
    → AreOpened form subs setups → setup_fault form x ≡ Some n → first_fault form (setups ++ x ∷ rest) ≡ Some n
opened-bad form subs setups x rest n h bad =
    h.none (x ∷ rest) ∙ ap (λ (o : Option ℕ). first_or o (first_fault form rest)) bad

-- a set-up for which a sub-agent was opened breaks none
pub sound : {T : Type 0} (o : Option ℕ) (r : Result T OpenRefusal) (x : T) → r ≡ Ok x
    → ((n : ℕ) → o ≡ Some n → (r ≡ Err (BadSetup n)) ⊎ (r ≡ Err Memory)) → o ≡ None
sound None r x e h = refl
sound (Some n) r x e h = elim (h n refl) [
  | inl bad ↦ let both : Err (BadSetup n) ≡ Ok x = sym bad ∙ e in absurd cc
  | inr bad ↦ let both : Err Memory ≡ Ok x = sym bad ∙ e in absurd cc
]

-- what a push leaves where it isn't refused
pub pushed-items : {X T E : Type 0} (r : Result T E) (b : Bool) (new all old : List X) → b ≡ is_err r → b ≡ false
    → new ≡ (if is_ok r then all else old) → new ≡ all
pushed-items (Ok x) b new all old e other h = h
pushed-items (Err x) b new all old e other h = let bad : false ≡ true = sym other ∙ e in absurd cc

-- the set-ups so far and those that are left
pub all-next : (xs : List Setup) (x : Setup) (old rest all : List Setup) → xs ++ old ≡ all → old ≡ x ∷ rest
    → (xs ++ x ∷ []) ++ rest ≡ all
all-next xs x old rest all h e =
    append_assoc xs (x ∷ []) rest ∙ ap (λ (l : List Setup). xs ++ l) (sym e) ∙ h
