-- A counters sample fits a datagram alone.
use Rattle.std.proofs.Common.{◌≡◌, ℕ, zero, suc, ◌+◌, ◌<◌, inl, inr, Bool, true, List, [], ◌∷◌, length, set, refl, sym, ap, subst, ◌∙◌, arith}
use Rattle.std.specs.Prelude.{nat_le, slice_get, ◌==◌, ◌||◌}
use Rattle.std.specs.List.{AllByRecursion}
use Rattle.std.proofs.lemmas.Bool.{eqb-true, cases_Bool}
use Rattle.std.specs.declared.option.Option.TheVariants.{Some}
use Rattle.wire_spec.specs.Heads.{address_tree}
use Rattle.wire_spec.specs.Spelling.{spell}
use Rattle.data_format.specs.Addresses.{address_of}
use Rattle.data_format.specs.Samples.{IsCountersHead}
use Rattle.data_format.specs.declared.heads.Form.{Form}
use Rattle.data_format.specs.declared.heads.Form.TheVariants.{Compact, Expanded}
use Rattle.agent_poller.specs.Polling.{PollerState}
use Rattle.sub_agents.specs.declared.staged.StagedCounters.{StagedCounters}
use Rattle.sub_agents.specs.declared.staged.Staged.TheVariants.{Counters}
use Rattle.sub_agents.specs.Setups.{IsSourceIn}
use Rattle.sub_agents.specs.Staged.{staged_value}
use Rattle.sub_agents.specs.Sizes.{counters_bytes}
use Rattle.sub_agents.specs.Counts.{polled_sources}
use Rattle.sub_agents.specs.Polls.{counters_fit}
use Rattle.sub_agents.specs.Fields.{IsKept}
use Rattle.sub_agents.specs.SubAgents.{SubAgentState, staged_fit}
use Rattle.sub_agents.proofs.Lists.{some-eq, none-some}
use Rattle.sub_agents.proofs.Fits.{fits-by-size}
use Rattle.sub_agents.proofs.Sizes.{counters-size}

pub set-same : {X : Type 0} (xs : List X) (i : ℕ) (x : X) → slice_get xs i ≡ Some x → set xs i x ≡ xs
set-same [] i x e = refl
set-same (z ∷ more) zero x e = ap (λ y. y ∷ more) (sym (some-eq z x e))
set-same (z ∷ more) (suc i) x e = ap (λ l. z ∷ l) (set-same more i x e)

pub polled-in-form : (form : Form) (ps : List PollerState) (i : ℕ) (p : PollerState)
    → AllByRecursion (IsSourceIn form) (polled_sources ps) → slice_get ps i ≡ Some p → IsSourceIn form p.source
polled-in-form form [] i p h e = none-some p e
polled-in-form form (z ∷ more) zero p h e =
    subst (λ (k : PollerState). IsSourceIn form k.source) (some-eq z p e) h.0
polled-in-form form (z ∷ more) (suc i) p h e = polled-in-form form more i p h.1 e

head-fits : (form : Form) (st : StagedCounters) → IsSourceIn form st.head.source → IsCountersHead form st.head
head-fits Compact st h = h
head-fits Expanded st h = tt

not-none : (n : ℕ) (b : Bool) → 0 < n → ((n == 0) || b) ≡ true → b ≡ true
not-none n b some e = elim (cases_Bool (n == 0)) [
  | inl none ↦ absurd (omega (arith, some, eqb-true n 0 none))
  | inr other ↦ ap (λ (k : Bool). k || b) (sym other) ∙ e
]

pub counters-kept : (s : SubAgentState) (st : StagedCounters) → 0 < length s.pollers → counters_fit s ≡ true
    → IsSourceIn s.form st.head.source → st.counters.tail.now ≡ [] → IsKept s (Counters st)
counters-kept s st some fits source tail =
    let base : ℕ = 20 + length (spell (address_tree (address_of s.agent))) in
    let small : nat_le (base + counters_bytes s.form) s.max_datagram ≡ true =
    not-none (length s.pollers) (nat_le (base + counters_bytes s.form) s.max_datagram) some fits in
    let alone : staged_fit s (Counters st ∷ []) ≡ true =
    fits-by-size s (staged_value s.form (Counters st))
    ∙ ap (λ (n : ℕ). nat_le (base + n) s.max_datagram) (counters-size s.form st)
    ∙ small in
    ((head-fits s.form st source, tail), alone)
