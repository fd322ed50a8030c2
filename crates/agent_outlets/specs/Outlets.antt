-- What an outlet took, and the outlet over memory.
use Rattle.std.specs.Prelude.{◌≡◌, ℕ, List, [], ◌∷◌, ◌++◌}
use Rattle.std.specs.declared.option.Option.{Option}
use Rattle.std.specs.declared.option.Option.TheVariants.{Some}
use Rattle.agent_spec.specs.Counting.{next_count}
use Rattle.agent_outlets.specs.declared.list_outlet.Put.{Put}

-- a datagram that was put: the number of its boot, its own number in the boot, counted from 1, and its bytes
pub record PutView : Type 0 where
  pub boot : ℕ
  pub number : ℕ
  pub bytes : List ℕ

-- an outlet that tells what it took has taken these behind the others
abbrev pub Took : Option (List PutView) → Option (List PutView) → List PutView → Type 0
Took old new puts = (before : List PutView) → old ≡ Some before → new ≡ Some (before ++ puts)

-- ---- the outlet over memory

abbrev pub put_view : Put → PutView
put_view p = record { boot = p.boot; number = p.number; bytes = p.bytes.items }

-- what it took, the numbers of the puts that fail, and the counts of its puts, of those that failed, and of those among
-- them that failed for want of memory
pub record OutletState : Type 0 where
  pub taken : List PutView
  pub fails : List ℕ
  pub calls : ℕ
  pub faults : ℕ
  pub lacked : ℕ

abbrev pub outlet_taken : OutletState → Option (List PutView)
outlet_taken o = Some o.taken

abbrev pub outlet_faults : OutletState → ℕ
outlet_faults o = o.faults

-- after a put that was taken
abbrev pub outlet_put : PutView → OutletState → OutletState
outlet_put p o = record o { taken = o.taken ++ p ∷ []; calls = next_count o.calls }

-- after a put that failed
abbrev pub outlet_failed : OutletState → OutletState
outlet_failed o = record o { calls = next_count o.calls; faults = next_count o.faults }

-- after a put for which there was no memory
abbrev pub outlet_lacked : OutletState → OutletState
outlet_lacked o =
    record o { calls = next_count o.calls; faults = next_count o.faults; lacked = next_count o.lacked }
