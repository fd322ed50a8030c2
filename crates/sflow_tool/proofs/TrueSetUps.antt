-- The set-up of a sub-agent of lawful lines is that of a sub-agent of a history.
use Rattle.std.proofs.Common.{◌≡◌, ◌∙◌, ◌==◌, Bool, true, false, not, List, [], ◌∷◌, map, filter_map, Some, None, ℕ, refl, ap, sym, subst, if◌then◌else◌}
use Rattle.std.specs.List.{list_any}
use Rattle.std.proofs.lemmas.Bool.{and_parts, false_from_ne_true, or_from, or_parts, true≢false}
use Rattle.std.proofs.lemmas.Option.{same_Some}
use Rattle.books_spec.specs.Listing.{AreDistinct}
use Rattle.agent_spec.specs.Sources.{Source, same_source, FlowSetup, CounterSetup}
use Rattle.agent_spec.proofs.Keys.{source-eq}
use Rattle.account_spec.specs.Histories.{IsSetUp}
use Rattle.script_spec.specs.Values.{Place}
use Rattle.script_spec.specs.Lines.{Line, MaxLine, SubLine, FlowLine, CounterLine, PacketLine, PollLine, SendLine, RestartLine, ResetLine, DeliverLine, SubAgent, place_of}
use Rattle.script_spec.specs.Agents.{counter_in, counters_of, flow_in, flows_of, setup_of}
use Rattle.script_laws.specs.Written.{may_be_written}
use Rattle.script_laws.specs.Lawful.{AreLawful}
use Rattle.script_tables.proofs.ListTests.{all_turned, is_one, not-false, same_at, same_at-self, some_twice}
use Rattle.script_tables.proofs.OfKind.{each_of, none_twice}
use Rattle.script_tables.proofs.OfLines.{counter_told, flow_told}

-- ---- kinds

flow_kind : (id : ℕ) (line : Line) (f : FlowSetup) → may_be_written line ≡ true → flow_in id line ≡ Some f → f.source.flow ≡ true
flow_kind id (FlowLine owner g) f written e = go (owner == id) e
  where
    go : (b : Bool) → (if b then Some g else None) ≡ Some f → f.source.flow ≡ true
    go true made =
        subst (λ (x : FlowSetup). x.source.flow ≡ true) (same_Some _ _ made) (and_parts g.source.flow _ written).0
    go false made = absurd cc
flow_kind id (MaxLine n) f written e = absurd cc
flow_kind id (SubLine s) f written e = absurd cc
flow_kind id (CounterLine owner c) f written e = absurd cc
flow_kind id (PacketLine p k) f written e = absurd cc
flow_kind id (PollLine owner now) f written e = absurd cc
flow_kind id (SendLine owner now) f written e = absurd cc
flow_kind id (RestartLine owner at) f written e = absurd cc
flow_kind id (ResetLine s) f written e = absurd cc
flow_kind id (DeliverLine d) f written e = absurd cc

counter_kind : (id : ℕ) (line : Line) (c : CounterSetup) → may_be_written line ≡ true → counter_in id line ≡ Some c
    → c.source.flow ≡ false
counter_kind id (CounterLine owner g) c written e = go (owner == id) e
  where
    go : (b : Bool) → (if b then Some g else None) ≡ Some c → c.source.flow ≡ false
    go true made =
        subst (λ (x : CounterSetup). x.source.flow ≡ false) (same_Some _ _ made)
        (not-false g.source.flow (and_parts (not g.source.flow) _ written).0)
    go false made = absurd cc
counter_kind id (MaxLine n) c written e = absurd cc
counter_kind id (SubLine s) c written e = absurd cc
counter_kind id (FlowLine owner f) c written e = absurd cc
counter_kind id (PacketLine p k) c written e = absurd cc
counter_kind id (PollLine owner now) c written e = absurd cc
counter_kind id (SendLine owner now) c written e = absurd cc
counter_kind id (RestartLine owner at) c written e = absurd cc
counter_kind id (ResetLine s) c written e = absurd cc
counter_kind id (DeliverLine d) c written e = absurd cc

-- ---- no two are one source

other_place : (s t : Source) → same_at (place_of t) (place_of s) ≡ false → same_source s t ≡ false
other_place s t e =
    false_from_ne_true (same_source s t) (λ h.
    true≢false (sym (same_at-self (place_of t) (place_of s) (ap place_of (sym (source-eq s t h)))) ∙ e))

module _ {S : Type 0} (of : S → Source) where
  not_among : (s : Source) (xs : List S) → is_one (place_of s) (map (λ (x : S). place_of (of x)) xs) ≡ false
      → list_any (same_source s) (map of xs) ≡ false
  not_among s [] e = refl
  not_among s (x ∷ more) e =
      let parts = or_parts (same_at (place_of (of x)) (place_of s))
      (is_one (place_of s) (map (λ (y : S). place_of (of y)) more)) e in
      or_from (same_source s (of x)) (list_any (same_source s) (map of more)) (other_place s (of x) parts.0)
      (not_among s more parts.1)

  are_distinct : (xs : List S) → some_twice (map (λ (x : S). place_of (of x)) xs) ≡ false → AreDistinct same_source (map of xs)
  are_distinct [] e = tt
  are_distinct (x ∷ more) e =
      let places : List Place = map (λ (x : S). place_of (of x)) more in
      let parts = or_parts (is_one (place_of (of x)) places) (some_twice places) e in
      (not_among (of x) more parts.0, are_distinct more parts.1)

pub is_set_up : (lines : List Line) (s : SubAgent) → AreLawful lines → IsSetUp (setup_of lines s)
unfolding setup_of
is_set_up lines s lawful = record {
  flows = all_turned (λ (f : FlowSetup). f.source.flow ≡ true) (filter_map (flow_in s.id) lines)
      (each_of (λ (f : FlowSetup). f.source) true flow_in flow_told (λ (f : FlowSetup). f.source.flow ≡ true) s.id
      (flow_kind s.id) lines lawful);
  counters = all_turned (λ (c : CounterSetup). c.source.flow ≡ false) (filter_map (counter_in s.id) lines)
      (each_of (λ (c : CounterSetup). c.source) false counter_in counter_told (λ (c : CounterSetup). c.source.flow ≡ false) s.id
      (counter_kind s.id) lines lawful);
  flows_once = are_distinct (λ (f : FlowSetup). f.source) (flows_of s.id lines)
      (none_twice (λ (f : FlowSetup). f.source) true flow_in flow_told s.id lines lawful);
  counters_once = are_distinct (λ (c : CounterSetup). c.source) (counters_of s.id lines)
      (none_twice (λ (c : CounterSetup). c.source) false counter_in counter_told s.id lines lawful);
}
