-- How a run ends where no count of faults rose.
use Rattle.std.proofs.Common.{◌≡◌, ℕ, ◌⊎◌, inl, inr, List, Some, refl, arith}
use Rattle.wire_spec.specs.Bytes.{AreBytes}
use Rattle.byte_ends.specs.Seen.{Rose, next_count}
use Rattle.command_runs.specs.declared.status.Status.{Status}
use Rattle.command_runs.specs.declared.status.Status.TheVariants.{Done, Found, Usage, ReadFault, WriteFault, BadInput, Memory, LinkFault, Spent}
use Rattle.command_runs.specs.Acts.{Act}
use Rattle.command_runs.specs.Grammars.{Grammar}
use Rattle.command_runs.specs.Readings.{Decides, HasOneEnding}
use Rattle.command_runs.specs.Outside.{Outside}
use Rattle.command_runs.specs.Runs.{Ends, MayEnd, Runs}

-- by the status: it is what the input decides, or want of memory
module _ {X : Type 0} (g : Grammar X) (a : Act X) (exact : HasOneEnding g) (input : List ℕ) (are : AreBytes input)
    (before after : Outside) where
  by_status : (status ending : Status) → MayEnd a status → Ends g a input before after status
      → Decides g a input ending → (status ≡ ReadFault → ⊥) → (status ≡ WriteFault → ⊥)
      → (status ≡ ending) ⊎ (status ≡ Memory)
  by_status Done ending may ends decides read write =
      inl (exact.one a input Done ending are (ends.read, ends.reads) decides)
  by_status Found ending may ends decides read write =
      inl (exact.one a input Found ending are (ends.read, ends.reads) decides)
  by_status Usage ending may ends decides read write = absurd may
  by_status ReadFault ending may ends decides read write = absurd (read refl)
  by_status WriteFault ending may ends decides read write = absurd (write refl)
  by_status (BadInput at kind) ending may ends decides read write =
      inl (exact.one a input (BadInput at kind) ending are (ends.read, ends.reads) decides)
  by_status Memory ending may ends decides read write = inr refl
  by_status LinkFault ending may ends decides read write = absurd may
  by_status Spent ending may ends decides read write =
      inl (exact.one a input Spent ending are (ends.read, ends.reads) decides)

rose : (n m : ℕ) → m ≡ next_count n → Rose n m
rose n m is = omega (arith, is)

pub completed : {X : Type 0} (g : Grammar X) (a : Act X) → HasOneEnding g → (input : List ℕ) (before after : Outside)
    (status ending : Status) → Runs g a before after status → AreBytes input → before.source.told ≡ Some input
    → Decides g a input ending
    → ¬ Rose before.source.faults after.source.faults → ¬ Rose before.sink.faults after.sink.faults
    → (status ≡ ending) ⊎ (status ≡ Memory)
completed g a exact input before after status ending ran are told decides no_read no_write =
    by_status g a exact input are before after status ending ran.may (ran.ends input are told) decides
    (λ e. no_read (rose _ _ (ran.read_fault e))) (λ e. no_write (rose _ _ (ran.write_fault e)))
