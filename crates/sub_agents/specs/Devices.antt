-- A device: sub-agents that were set up together.
use Rattle.std.specs.Prelude.{ℕ, ◌+◌, Bool, true, false, ◌||◌, cond, List, [], ◌∷◌, set}
use Rattle.std.specs.declared.option.Option.{Option}
use Rattle.std.specs.declared.option.Option.TheVariants.{Some, None}
use Rattle.data_format.specs.declared.source.SourceId.{SourceId}
use Rattle.data_format.specs.declared.heads.Form.{Form}
use Rattle.agent_setups.specs.Ids.{is_among}
use Rattle.sub_agents.specs.declared.packet.Packet.{Packet}
use Rattle.sub_agents.specs.declared.packet.ObserveRefusal.{ObserveRefusal}
use Rattle.sub_agents.specs.declared.packet.ObserveRefusal.TheVariants.{NoSource}
use Rattle.sub_agents.specs.SubAgents.{SubAgentState, BootSoFar, StandsFor}
use Rattle.sub_agents.specs.Answers.{refusal, sources_of_kind}

-- what contracts see of a device
pub record DeviceState : Type 0 where
  pub form : Form
  pub subs : List SubAgentState

-- each sub-agent is in its boot
abbrev pub StandForEach : List SubAgentState → List BootSoFar → Type 0
StandForEach [] [] = Unit {0}
StandForEach [] (b ∷ boots) = ⊥
StandForEach (s ∷ subs) [] = ⊥
StandForEach (s ∷ subs) (b ∷ boots) = StandsFor s b × StandForEach subs boots

-- another sub-agent at a place
abbrev pub with_sub : ℕ → SubAgentState → DeviceState → DeviceState
with_sub place s d = record d { subs = set d.subs place s }

-- ---- answers

-- the place, counted on from n, of the first sub-agent that has a source of a kind
abbrev pub home_from : ℕ → Bool → SourceId → List SubAgentState → Option ℕ
home_from n flow id [] = None
home_from n flow id (s ∷ more) =
    cond (is_among id (sources_of_kind flow s)) (Some n) (home_from (n + 1) flow id more)

abbrev pub home_of : Bool → SourceId → List SubAgentState → Option ℕ
home_of flow id subs = home_from 0 flow id subs

-- why a packet is refused: no sub-agent has the source, or the first that has it refuses it
abbrev pub device_refusal : SourceId → Packet → List SubAgentState → Option ObserveRefusal
device_refusal id p [] = Some NoSource
device_refusal id p (s ∷ more) = cond (is_among id (sources_of_kind true s)) (refusal s id p) (device_refusal id p more)

-- some sub-agent has a source of a kind
abbrev pub has_kind : Bool → SourceId → List SubAgentState → Bool
has_kind flow id [] = false
has_kind flow id (s ∷ more) = is_among id (sources_of_kind flow s) || has_kind flow id more
