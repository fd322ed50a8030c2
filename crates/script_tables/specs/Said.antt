-- The set-ups of the sub-agents that lines set up. Every list of lines has the LATEST FIRST; set-ups stand in their order.
use Rattle.std.specs.Prelude.{◌≡◌, ℕ, ◌==◌, ◌++◌, Bool, true, false, List, [], ◌∷◌, map, reverse, set, slice_get, Some}
use Rattle.std.specs.List.{list_any}
use Rattle.wire_spec.specs.Heads.{AgentAddress}
use Rattle.data_format.specs.Addresses.{address_of}
use Rattle.data_format.specs.declared.source.SourceId.{SourceId}
use Rattle.data_format.specs.declared.heads.Form.{Form}
use Rattle.data_format.specs.declared.heads.Form.TheVariants.{Compact, Expanded}
use Rattle.agent_spec.specs.Sources as spec
use Rattle.agent_spec.specs.Spelled as spelled
use Rattle.agent_setups.specs.declared.setup.FlowSetup.{FlowSetup}
use Rattle.agent_setups.specs.declared.setup.CounterSetup.{CounterSetup}
use Rattle.agent_setups.specs.declared.setup.Setup.{Setup}
use Rattle.script_spec.specs.Lines.{Line, SubAgent}
use Rattle.script_spec.specs.Agents.{subs_in, flows_of, counters_of, max_of}

-- what a set-up says
pub record Said : Type 0 where
  pub agent : AgentAddress
  pub sub_agent : ℕ
  pub max_datagram : ℕ
  pub stage : ℕ
  pub first : ℕ
  pub flows : List spec.FlowSetup
  pub counters : List spec.CounterSetup

abbrev pub source_said : Bool → SourceId → spec.Source
source_said flow id = record { flow = flow; class = id.class; index = id.index }

abbrev pub flow_said : FlowSetup → spec.FlowSetup
flow_said f = record {
  source = source_said true f.source;
  rate = f.rate;
  skips = f.skips;
  first = f.first;
  pool = f.pool;
  drops = f.drops;
}

abbrev pub counter_said : CounterSetup → spec.CounterSetup
counter_said c = record { source = source_said false c.source; every = c.every; first = c.first }

abbrev pub setup_said : Setup → Said
setup_said u = record {
  agent = address_of u.agent;
  sub_agent = u.sub_agent;
  max_datagram = u.max_datagram;
  stage = u.stage;
  first = u.first;
  flows = map flow_said u.flows.items;
  counters = map counter_said u.counters.items;
}

-- what lines say of a sub-agent
abbrev pub said_of : List Line → SubAgent → Said
said_of lines s = record {
  agent = s.address;
  sub_agent = s.id;
  max_datagram = max_of lines;
  stage = s.stage;
  first = s.first;
  flows = flows_of s.id lines;
  counters = counters_of s.id lines;
}

abbrev pub said_in : List Line → List Said
said_in lines = map (said_of lines) (reverse (subs_in lines))

-- these are the set-ups of the sub-agents, in the order of their lines
abbrev pub AreSetUp : List Line → List Setup → Type 0
AreSetUp lines setups = map setup_said setups ≡ said_in lines

abbrev pub form_said : Form → spelled.Form
form_said Compact = spelled.Compact
form_said Expanded = spelled.Expanded

-- ---- set-ups that grow

-- the most bytes of a datagram so far, and the set-ups so far
pub record SetupsState : Type 0 where
  pub max : ℕ
  pub setups : List Setup

-- they are those of these lines
pub record SetsUp (t : SetupsState) (lines : List Line) : Type 0 where
  pub max : t.max ≡ max_of lines
  pub setups : AreSetUp lines t.setups

abbrev pub with_flow : spec.FlowSetup → Said → Said
with_flow f s = record s { flows = s.flows ++ f ∷ [] }

abbrev pub with_counter : spec.CounterSetup → Said → Said
with_counter c s = record s { counters = s.counters ++ c ∷ [] }

-- one of the set-ups has this ID
abbrev pub names : ℕ → List Setup → Bool
names id setups = list_any (λ (u : Setup). u.sub_agent == id) setups

-- what is said at a place is set anew
pub record IsSaidAt (with : Said → Said) (place : ℕ) (old new : List Setup) : Type 0 where
  pub said : Said
  pub there : slice_get (map setup_said old) place ≡ Some said
  pub made : map setup_said new ≡ set (map setup_said old) place (with said)
