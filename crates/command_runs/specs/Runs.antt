-- What a run of a command does that reads an input of this form: for each status, what it says of the input, of the sink
-- and of the counts of faults.
use Rattle.std.specs.Prelude.{◌≡◌, ◌≢◌, ◌⊎◌, ℕ, true, List, ◌++◌, Some}
use Rattle.std.specs.Io.KnownBytes.{IsAtEnd}
use Rattle.wire_spec.specs.Bytes.{AreBytes}
use Rattle.byte_ends.specs.Seen.{Takes, TakesPart, next_count}
use Rattle.command_runs.specs.declared.status.Status.{Status}
use Rattle.command_runs.specs.declared.status.Status.TheVariants.{Done, Found, Usage, ReadFault, WriteFault, Memory, LinkFault}
use Rattle.command_runs.specs.Acts.{Act}
use Rattle.command_runs.specs.Grammars.{Grammar}
use Rattle.command_runs.specs.Readings.{ReadsTo, text_at}
use Rattle.command_runs.specs.Outside.{Outside}

-- the statuses that the command may end with
abbrev pub MayEnd : {X : Type 0} → Act X → Status → Type 0
MayEnd a Found = a.may_find ≡ true
MayEnd a Usage = ⊥
MayEnd a LinkFault = ⊥
MayEnd a _ = Unit {0}

-- this was read, reading ended so, and the sink took what is written of it
pub record Wrote {X : Type 0} (g : Grammar X) (a : Act X) (input : List ℕ) (before after : Outside) (ending : Status)
    : Type 0 where
  pub read : X
  pub reads : ReadsTo g a input after.source.told read ending
  pub taken : Takes before.sink after.sink (text_at a read ending)

-- A write failed: while this was read, at the last of it, and no read had failed; or once reading had ended so. The sink
-- took a beginning of what is written of it.
pub data WroteBeginning {X : Type 0} (g : Grammar X) (a : Act X) (input : List ℕ) (before after : Outside) : Type 0 where
  midway : (read : X) → g.begins read input → after.source.faults ≡ before.source.faults
      → TakesPart before.sink after.sink (a.part read)
      → WroteBeginning g a input before after
  behind : (read : X) (ending : Status) → ReadsTo g a input after.source.told read ending
      → TakesPart before.sink after.sink (text_at a read ending)
      → WroteBeginning g a input before after

-- Memory was lacking: before a byte was read or written, or while this was read. Then no call had failed, and the sink took a
-- beginning of what is written of it.
pub data LacksMemory {X : Type 0} (g : Grammar X) (a : Act X) (input : List ℕ) (before after : Outside) : Type 0 where
  lacked_first : after ≡ before → LacksMemory g a input before after
  lacked_later : (read : X) → g.begins read input → (taken rest : List ℕ) → a.part read ≡ taken ++ rest
      → Takes before.sink after.sink taken → LacksMemory g a input before after

-- what a status says where the source told this input
abbrev pub Ends : {X : Type 0} → Grammar X → Act X → List ℕ → Outside → Outside → Status → Type 0
Ends g a input before after Memory = LacksMemory g a input before after
Ends g a input before after WriteFault = WroteBeginning g a input before after
Ends g a input before after status = Wrote g a input before after status

-- a run of the command, from what the outside showed before it to what it shows after it
pub record Runs {X : Type 0} (g : Grammar X) (a : Act X) (before after : Outside) (status : Status) : Type 0 where
  -- the command may end so, and the input, which is bytes, is such
  pub may : MayEnd a status
  pub ends : (input : List ℕ) → AreBytes input → before.source.told ≡ Some input → Ends g a input before after status
  -- where the input was read to its end, the source is there
  pub at_end : (status ≡ Done) ⊎ (status ≡ Found) → IsAtEnd after.source.told
  -- a command that writes at the end writes its text whole or doesn't begin it, unless a write failed
  pub quiet : a.at_end ≡ true → status ≢ Done → status ≢ Found → status ≢ WriteFault
      → after.sink.told ≡ before.sink.told
  -- memory is taken before the first byte is read or written
  pub early : a.memory_first ≡ true → status ≡ Memory → after ≡ before
  -- where the run ends with a fault of the source or the sink, one call of it failed, and else none
  pub read_fault : status ≡ ReadFault → after.source.faults ≡ next_count before.source.faults
  pub read_kept : status ≢ ReadFault → (status ≡ WriteFault → a.at_end ≡ true)
      → after.source.faults ≡ before.source.faults
  pub write_fault : status ≡ WriteFault → after.sink.faults ≡ next_count before.sink.faults
  pub write_kept : status ≢ WriteFault → after.sink.faults ≡ before.sink.faults
  -- no more than one read fails, also where a write fails then
  pub reads_once : (after.source.faults ≡ before.source.faults)
      ⊎ (after.source.faults ≡ next_count before.source.faults)
