-- What a sub-agent keeps when a source is exchanged or a sample is staged.
use Rattle.std.proofs.Common.{◌≡◌, ℕ, zero, suc, ◌<◌, List, [], ◌∷◌, ◌++◌, length, map, set, get_or, refl, sym, ap, subst, ◌∙◌, arith, length-append}
use Rattle.std.specs.Prelude.{slice_get}
use Rattle.std.specs.List.{AllByRecursion}
use Rattle.std.specs.Vec.{with_item}
use Rattle.std.specs.declared.option.Option.TheVariants.{Some}
use Rattle.circular_buffer.specs.Buffer.{Buffer, buffer}
use Rattle.data_format.specs.declared.source.SourceId.{SourceId}
use Rattle.data_format.specs.declared.heads.Form.{Form}
use Rattle.agent_poller.specs.Polling.{PollerState}
use Rattle.sub_agents.specs.declared.sources.FlowSource.{FlowSource}
use Rattle.sub_agents.specs.declared.staged.Staged.{Staged}
use Rattle.sub_agents.specs.declared.sub_agent.SubAgent.TheInside.{Inside}
use Rattle.sub_agents.specs.Setups.{IsSourceIn}
use Rattle.sub_agents.specs.Counts.{flow_sources, polled_sources}
use Rattle.agent_setups.specs.Ids.{AreDistinct}
use Rattle.sub_agents.specs.Fields.{sub_agent_state, IsKept, IsSubAgent}
use Rattle.sub_agents.proofs.Lists.{some-eq, none-some, map-set, each-last}

module _ {X : Type 0} (key : X → SourceId) where
  key-at : (xs : List X) (i : ℕ) (id : SourceId) (x : X) → slice_get (map key xs) i ≡ Some id → x ≡ get_or xs i x
      → (slice_get xs i ≡ Some x) × (key x ≡ id)
  key-at [] i id x e r = none-some id e
  key-at (z ∷ more) zero id x e r = (ap (λ (y : X). Some y) (sym r), ap key r ∙ some-eq (key z) id e)
  key-at (z ∷ more) (suc i) id x e r = key-at more i id x e r

  -- the element at the place of its source
  pub source-at : (xs : List X) (ids shown : List SourceId) (i : ℕ) (id : SourceId) (x : X) → ids ≡ map key xs
      → shown ≡ ids → slice_get shown i ≡ Some id → x ≡ get_or xs i x
      → (slice_get xs i ≡ Some x) × (key x ≡ id)
  source-at xs ids shown i id x are same e r =
      key-at xs i id x (subst (λ (l : List SourceId). slice_get l i ≡ Some id) (same ∙ are) e) r

  key-some : (xs : List X) (i : ℕ) (id : SourceId) → slice_get (map key xs) i ≡ Some id
      → (x : X) × (slice_get xs i ≡ Some x) × (key x ≡ id)
  key-some [] i id e = none-some id e
  key-some (z ∷ more) zero id e = (z, refl, some-eq (key z) id e)
  key-some (z ∷ more) (suc i) id e = key-some more i id e

  -- there is an element at the place of its source
  pub some-at : (xs : List X) (ids shown : List SourceId) (i : ℕ) (id : SourceId) → ids ≡ map key xs → shown ≡ ids
      → slice_get shown i ≡ Some id → (x : X) × (slice_get xs i ≡ Some x) × (key x ≡ id)
  some-at xs ids shown i id are same e =
      key-some xs i id (subst (λ (l : List SourceId). slice_get l i ≡ Some id) (same ∙ are) e)

-- a source can be said in the form
pub in-form-at : (form : Form) (fs : List FlowSource) (i : ℕ) (f : FlowSource)
    → AllByRecursion (IsSourceIn form) (flow_sources fs) → slice_get fs i ≡ Some f → IsSourceIn form f.source
in-form-at form [] i f h e = none-some f e
in-form-at form (z ∷ more) zero f h e =
    subst (λ (k : FlowSource). IsSourceIn form k.source) (some-eq z f e) h.0
in-form-at form (z ∷ more) (suc i) f h e = in-form-at form more i f h.1 e

pub flow-kept : (x : Inside) (place : ℕ) (f g : FlowSource) → IsSubAgent x → slice_get x.flows.items place ≡ Some f
    → g.source ≡ f.source → IsSubAgent (record x { flows = with_item x.flows place g })
flow-kept x place f g inv at same =
    let e : flow_sources (set x.flows.items place g) ≡ flow_sources x.flows.items =
    map-set (λ (k : FlowSource). k.source) x.flows.items place f g at same in
    record {
      room_is = inv.room_is;
      least = inv.least;
      most = inv.most;
      places = inv.places;
      few = inv.few;
      within = inv.within;
      flow_ids_are = inv.flow_ids_are ∙ sym e;
      counter_ids_are = inv.counter_ids_are;
      flows_distinct = subst (λ (ids : List SourceId). AreDistinct ids) (sym e) inv.flows_distinct;
      pollers_distinct = inv.pollers_distinct;
      flows_in_form = subst (λ (ids : List SourceId). AllByRecursion (IsSourceIn x.form) ids) (sym e) inv.flows_in_form;
      pollers_in_form = inv.pollers_in_form;
      kept = inv.kept;
    }

pub poller-kept : (x : Inside) (place : ℕ) (p q : PollerState) → IsSubAgent x
    → slice_get x.pollers.items place ≡ Some p → q.source ≡ p.source
    → IsSubAgent (record x { pollers = with_item x.pollers place q })
poller-kept x place p q inv at same =
    let e : polled_sources (set x.pollers.items place q) ≡ polled_sources x.pollers.items =
    map-set (λ (k : PollerState). k.source) x.pollers.items place p q at same in
    record {
      room_is = inv.room_is;
      least = inv.least;
      most = inv.most;
      places = inv.places;
      few = inv.few;
      within = inv.within;
      flow_ids_are = inv.flow_ids_are;
      counter_ids_are = inv.counter_ids_are ∙ sym e;
      flows_distinct = inv.flows_distinct;
      pollers_distinct = subst (λ (ids : List SourceId). AreDistinct ids) (sym e) inv.pollers_distinct;
      flows_in_form = inv.flows_in_form;
      pollers_in_form = subst (λ (ids : List SourceId). AllByRecursion (IsSourceIn x.form) ids) (sym e) inv.pollers_in_form;
      kept = inv.kept;
    }

-- a sample more is staged
pub push-kept : (x : Inside) (y : Staged) (stage : Buffer Staged) → IsSubAgent x
    → length x.stage.items < x.stage.capacity → stage ≡ buffer (x.stage.items ++ y ∷ []) x.stage.capacity
    → IsKept (sub_agent_state x) y → IsSubAgent (record x { stage = stage })
push-kept x y stage inv free e kept =
    let items : stage.items ≡ x.stage.items ++ y ∷ [] = ap (λ (k : Buffer Staged). k.items) e in
    let room : stage.capacity ≡ x.stage.capacity = ap (λ (k : Buffer Staged). k.capacity) e in
    record {
      room_is = inv.room_is;
      least = inv.least;
      most = inv.most;
      places = omega (arith, inv.places, room);
      few = omega (arith, inv.few, room);
      within = omega (arith, free, room, ap length items, length-append x.stage.items (y ∷ []));
      flow_ids_are = inv.flow_ids_are;
      counter_ids_are = inv.counter_ids_are;
      flows_distinct = inv.flows_distinct;
      pollers_distinct = inv.pollers_distinct;
      flows_in_form = inv.flows_in_form;
      pollers_in_form = inv.pollers_in_form;
      kept = subst (λ (l : List Staged). AllByRecursion (IsKept (sub_agent_state x)) l) (sym items)
          (each-last (IsKept (sub_agent_state x)) x.stage.items y inv.kept kept);
    }
