-- What a receiver missed, and why.
use Rattle.std.proofs.Common.{◌≡◌, ◌≤◌, ℕ, Bool, true, false, List, ◌++◌, length, if◌then◌else◌, sym, ap, ◌∙◌, arith, length-append, refl}
use Rattle.std.specs.Prelude.{option_map}
use Rattle.std.proofs.lemmas.List.{append-nil}
use Rattle.byte_ends.specs.Seen.{Rose, next_count}
use Rattle.datagram_links.specs.Receivers.{ReceiverSeen}
use Rattle.relay_out.specs.declared.progress.Progress.{Progress}
use Rattle.relay_out.specs.Runs.{HasServed, took_of}

module _ (place : List ℕ) (due : List (List ℕ)) (x y : ReceiverSeen) (now : Progress) (served : HasServed (λ s. s) place due x y now) where
  pub rose : now.stopped ≡ true → Rose x.faults y.faults
  rose held =
      let is : y.faults ≡ next_count x.faults = served.faults ∙ ap (λ (b : Bool). if b then next_count x.faults else x.faults) held in
      omega arith

  pub took_all : (Rose x.faults y.faults → ⊥) → took_of y ≡ option_map (λ (before : List (List ℕ)). before ++ due) (took_of x)
  took_all steady = go now.stopped refl
    where
      go : (b : Bool) → now.stopped ≡ b → took_of y ≡ option_map (λ (before : List (List ℕ)). before ++ due) (took_of x)
      go true held = absurd (steady (rose held))
      go false free =
          let all : served.took ≡ due = sym (append-nil served.took) ∙ ap (λ (l : List (List ℕ)). served.took ++ l) (sym (served.all free)) ∙ sym served.whole in
          served.list ∙ ap (λ (l : List (List ℕ)). option_map (λ (before : List (List ℕ)). before ++ l) (took_of x)) all

  pub number : now.passed ≤ length due
  number = omega (arith, served.number, ap length served.whole, length-append served.took served.missed)
