use Rattle.std.proofs.Common.{◌≡◌, ℕ, List, Some, [], ◌∷◌, length, refl, ap, arith, length-append}
use Rattle.relay_out.proofs.rows.worked_receivers.Goals as goal

same : (first : List ℕ) (l : List (List ℕ)) → Some (first ∷ []) ≡ Some l → first ∷ [] ≡ l
same first l e = cc

pub returns-clause-whole : goal.returns-clause-whole
returns-clause-whole c = record {
  took = (1 ∷ []) ∷ (2 ∷ []) ∷ [];
  missed = [];
  whole = refl;
  list = refl;
  number = refl;
  faults = refl;
  all = λ _. refl;
  aimed = λ _. refl;
}

pub returns-clause-second_failed : goal.returns-clause-second_failed
returns-clause-second_failed c = record {
  took = (1 ∷ []) ∷ [];
  missed = (2 ∷ []) ∷ [];
  whole = refl;
  list = refl;
  number = refl;
  faults = refl;
  all = λ free. absurd cc;
  aimed = λ free. absurd cc;
}

pub returns-clause-aim_failed : goal.returns-clause-aim_failed
returns-clause-aim_failed c = record {
  took = [];
  missed = (1 ∷ []) ∷ (2 ∷ []) ∷ [];
  whole = refl;
  list = refl;
  number = refl;
  faults = refl;
  all = λ free. absurd cc;
  aimed = λ free. absurd cc;
}

pub returns-clause-no_fault : goal.returns-clause-no_fault
returns-clause-no_fault c = λ so.
    omega (arith, so.number, ap length so.whole, length-append so.took so.missed, ap length (so.all refl))

pub returns-clause-other_agent : goal.returns-clause-other_agent
returns-clause-other_agent c = λ so. omega (arith, so.number, ap length so.whole, length-append so.took so.missed)

pub returns-clause-counted : goal.returns-clause-counted
returns-clause-counted c = λ so. omega (arith, so.number, ap length (same (1 ∷ []) so.took so.list))
