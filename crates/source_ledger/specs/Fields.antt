-- The fields of the ledgers.
use Rattle.std.specs.Prelude.{◌≡◌, ◌+◌, ◌*◌, ◌^◌, ◌≤◌}
use Rattle.source_ledger.specs.Marks.{MarksState}
use Rattle.source_ledger.specs.Boots.{BootsState}
use Rattle.source_ledger.specs.Numbers.{NumbersState}
use Rattle.source_ledger.specs.Flows.{FlowState}
use Rattle.source_ledger.specs.declared.marks.MarkLedger.TheInside as marks
use Rattle.source_ledger.specs.declared.boots.BootLedger.TheInside as boots
use Rattle.source_ledger.specs.declared.generations.GenerationLedger.TheInside as generations
use Rattle.source_ledger.specs.declared.flow.FlowLedger.TheInside as flow

abbrev pub marks_state : marks.Inside → MarksState
marks_state l = record {
  width = l.width;
  entered = l.entered;
  issued = l.issued;
  received = l.received;
  lost = l.lost;
  repeated = l.repeated;
  late = l.late;
  window = l.window;
}

-- what each ledger of marks keeps
pub record IsMarkLedger (l : marks.Inside) : Type 0 where
  pub width_from : 1 ≤ l.width
  pub width_to : l.width ≤ 8192
  pub width_same : l.window.width ≡ l.width
  pub few : l.entered ≤ 2 ^ 62
  pub issued_few : l.issued + 2 ^ 32 * l.window.entered ≤ 2 ^ 32 * l.entered
  pub received_few : l.received + l.window.entered ≤ l.entered
  pub conserved : l.issued ≡ l.received + l.lost
  pub answers_few : l.repeated + l.late ≤ l.entered

abbrev pub boots_state : boots.Inside → BootsState
boots_state l = record { boot = l.boot; marks = l.marks }

abbrev pub numbers_state : generations.Inside → NumbersState
numbers_state l = record {
  boot = l.boot;
  generations = l.generations;
  in_boot = l.in_boot;
  stale = l.stale;
  opened = l.opened;
  newest = l.newest;
  marks = l.marks;
}

-- what each ledger over generations keeps
pub record IsGenerationLedger (l : generations.Inside) : Type 0 where
  pub few : l.marks.entered + l.stale ≤ 2 ^ 62
  pub few_generations : l.generations ≤ l.marks.entered
  pub few_in_boot : l.in_boot ≤ l.generations

abbrev pub flow_state : flow.Inside → FlowState
flow_state l = record { numbers = l.numbers; pool = l.pool; drops = l.drops; rate = l.rate }

-- what each ledger of flow samples keeps
pub record IsFlowLedger (l : flow.Inside) : Type 0 where
  pub few : l.numbers.marks.entered + l.numbers.stale ≤ 2 ^ 62
  pub pool_few : l.pool.total ≤ 2 ^ 32 * (l.numbers.marks.entered + l.numbers.stale)
  pub drops_few : l.drops.total ≤ 2 ^ 32 * (l.numbers.marks.entered + l.numbers.stale)
