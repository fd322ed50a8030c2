-- Values of any kind that are seen as values of the grammar.
use Rattle.std.specs.Prelude.{List, [], ◌∷◌, Result, Ok, Err}
use Rattle.wire_spec.specs.declared.fault.Fault.{Fault}
use Rattle.wire_spec.specs.Shapes.{Tree, Trees, none, ◌&◌}
use Rattle.wire_spec.specs.Fails.{Remaining}

abbrev pub trees_of : {A : Type 0} → (A → Tree) → List A → Trees
trees_of view [] = none
trees_of view (x ∷ xs) = view x & trees_of view xs

-- the values that were read, or none
abbrev pub list_of : {A : Type 0} → Result (List A × Remaining) Fault → List A
list_of (Ok x) = x.0
list_of (Err f) = []
