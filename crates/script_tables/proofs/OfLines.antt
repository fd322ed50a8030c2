-- The flow sources, the counter sources and the sub-agents of lawful lines.
use Rattle.std.proofs.Common.{◌≡◌, ◌∙◌, ◌≤◌, ◌<◌, ◌==◌, ◌&&◌, ◌++◌, ℕ, Bool, true, false, not, cond, List, [], ◌∷◌, length, reverse, find, filter_map, is_some, Option, Some, None, refl, ap, sym, subst, arith, if◌then◌else◌}
use Rattle.std.specs.Prelude.{nat_lt, nat_le}
use Rattle.std.specs.List.{AllByRecursion, cons_option}
use Rattle.std.proofs.lemmas.Bool.{and_parts, ltb-true, leb-true, eqb-true, false_from_ne_true}
use Rattle.std.proofs.lemmas.Option.{same_Some}
use Rattle.agent_spec.specs.Sources.{FlowSetup, CounterSetup}
use Rattle.script_spec.specs.Words.{number32, is_between}
use Rattle.script_spec.specs.Values.{address}
use Rattle.script_spec.specs.Forms.{boot_time}
use Rattle.script_spec.specs.Lines.{Line, MaxLine, SubLine, FlowLine, CounterLine, PacketLine, PollLine, SendLine, RestartLine, ResetLine, DeliverLine, SubAgent}
use Rattle.script_spec.specs.Agents.{sub_in, subs_in, is_of, flow_in, flows_of, counter_in, counters_of, max_in, max_of, first_or}
use Rattle.script_spec.specs.Rules.{may_follow, is_known}
use Rattle.script_laws.specs.Written.{may_be_written}
use Rattle.script_laws.specs.Lawful.{AreLawful}
use Rattle.script_tables.proofs.ListTests.{not-false, turned, all_turned, all_end}
use Rattle.script_tables.proofs.Owners.{rules_met}
use Rattle.script_tables.proofs.OfKind.{Tells}

-- ---- numbers

over_false : (most n : ℕ) → nat_le n most ≡ true → nat_lt most n ≡ false
over_false most n e =
    let low : n ≤ most = leb-true n most e in
    false_from_ne_true (nat_lt most n) (λ h. let high : most < n = ltb-true most n h in omega (arith, low, high))

not_zero : (n : ℕ) → nat_le 1 n ≡ true → (n == 0) ≡ false
not_zero n e =
    let low : 1 ≤ n = leb-true 1 n e in
    false_from_ne_true (n == 0) (λ h. let zero : n ≡ 0 = eqb-true n 0 h in omega (arith, low, zero))

fifth : (a b c d e : Bool) → (a && (b && (c && (d && e)))) ≡ true → e ≡ true
fifth a b c d e h =
    (and_parts d e (and_parts c (d && e) (and_parts b (c && (d && e)) (and_parts a (b && (c && (d && e))) h).1).1).1).1

-- ---- flow sources

flow_own : (owner : ℕ) (g : FlowSetup) (before : List Line) → may_be_written (FlowLine owner g) ≡ true
    → may_follow before (FlowLine owner g) ≡ true → Tells true owner g.source (length (flows_of owner before)) (FlowLine owner g) before
flow_own owner g before written may =
    let kind = and_parts g.source.flow _ written in
    let place = and_parts _ _ (and_parts _ _ kind.1).1 in
    let class = and_parts _ _ (and_parts _ _ place.0).0 in
    let rules = and_parts _ _ (and_parts _ _ (rules_met (FlowLine owner g) before may)).1 in
    record {
      kind = kind.0;
      owned = refl;
      free = rules.0;
      class = over_false 255 g.source.class class.1;
      room = rules.1;
    }

pub flow_told : (id : ℕ) (line : Line) (before : List Line) (f : FlowSetup) → flow_in id line ≡ Some f
    → may_be_written line ≡ true → may_follow before line ≡ true
    → Tells true id f.source (length (flows_of id before)) line before
flow_told id (FlowLine owner g) before f e written may = go (owner == id) refl e
  where
    go : (b : Bool) → (owner == id) ≡ b → (if b then Some g else None) ≡ Some f
        → Tells true id f.source (length (flows_of id before)) (FlowLine owner g) before
    go true is made =
        subst (λ (x : FlowSetup). Tells true id x.source (length (flows_of id before)) (FlowLine owner g) before)
        (same_Some _ _ made)
        (subst (λ (n : ℕ). Tells true n g.source (length (flows_of n before)) (FlowLine owner g) before) (eqb-true owner id is) (flow_own owner g before written may))
    go false is made = absurd cc
flow_told id (MaxLine n) before f e written may = absurd cc
flow_told id (SubLine s) before f e written may = absurd cc
flow_told id (CounterLine owner c) before f e written may = absurd cc
flow_told id (PacketLine p k) before f e written may = absurd cc
flow_told id (PollLine owner now) before f e written may = absurd cc
flow_told id (SendLine owner now) before f e written may = absurd cc
flow_told id (RestartLine owner at) before f e written may = absurd cc
flow_told id (ResetLine s) before f e written may = absurd cc
flow_told id (DeliverLine d) before f e written may = absurd cc

pub flow_rate : (id : ℕ) (line : Line) (f : FlowSetup) → may_be_written line ≡ true → flow_in id line ≡ Some f
    → (f.rate == 0) ≡ false
flow_rate id (FlowLine owner g) f written e = go (owner == id) e
  where
    go : (b : Bool) → (if b then Some g else None) ≡ Some f → (f.rate == 0) ≡ false
    go true made =
        let kind = and_parts g.source.flow _ written in
        let rate = and_parts _ _ (and_parts _ _ (and_parts _ _ kind.1).1).1 in
        subst (λ (x : FlowSetup). (x.rate == 0) ≡ false) (same_Some _ _ made) (not_zero g.rate (and_parts _ _ rate.0).0)
    go false made = absurd cc
flow_rate id (MaxLine n) f written e = absurd cc
flow_rate id (SubLine s) f written e = absurd cc
flow_rate id (CounterLine owner c) f written e = absurd cc
flow_rate id (PacketLine p k) f written e = absurd cc
flow_rate id (PollLine owner now) f written e = absurd cc
flow_rate id (SendLine owner now) f written e = absurd cc
flow_rate id (RestartLine owner at) f written e = absurd cc
flow_rate id (ResetLine s) f written e = absurd cc
flow_rate id (DeliverLine d) f written e = absurd cc

-- ---- counter sources

counter_own : (owner : ℕ) (g : CounterSetup) (before : List Line) → may_be_written (CounterLine owner g) ≡ true
    → may_follow before (CounterLine owner g) ≡ true → Tells false owner g.source (length (counters_of owner before)) (CounterLine owner g) before
counter_own owner g before written may =
    let kind = and_parts (not g.source.flow) _ written in
    let place = and_parts _ _ (and_parts _ _ kind.1).1 in
    let class = and_parts _ _ (and_parts _ _ place.0).0 in
    let rules = and_parts _ _ (and_parts _ _ (rules_met (CounterLine owner g) before may)).1 in
    record {
      kind = not-false g.source.flow kind.0;
      owned = refl;
      free = rules.0;
      class = over_false 255 g.source.class class.1;
      room = rules.1;
    }

pub counter_told : (id : ℕ) (line : Line) (before : List Line) (c : CounterSetup) → counter_in id line ≡ Some c
    → may_be_written line ≡ true → may_follow before line ≡ true
    → Tells false id c.source (length (counters_of id before)) line before
counter_told id (CounterLine owner g) before c e written may = go (owner == id) refl e
  where
    go : (b : Bool) → (owner == id) ≡ b → (if b then Some g else None) ≡ Some c
        → Tells false id c.source (length (counters_of id before)) (CounterLine owner g) before
    go true is made =
        subst (λ (x : CounterSetup). Tells false id x.source (length (counters_of id before)) (CounterLine owner g) before)
        (same_Some _ _ made)
        (subst (λ (n : ℕ). Tells false n g.source (length (counters_of n before)) (CounterLine owner g) before) (eqb-true owner id is) (counter_own owner g before written may))
    go false is made = absurd cc
counter_told id (MaxLine n) before c e written may = absurd cc
counter_told id (SubLine s) before c e written may = absurd cc
counter_told id (FlowLine owner f) before c e written may = absurd cc
counter_told id (PacketLine p k) before c e written may = absurd cc
counter_told id (PollLine owner now) before c e written may = absurd cc
counter_told id (SendLine owner now) before c e written may = absurd cc
counter_told id (RestartLine owner at) before c e written may = absurd cc
counter_told id (ResetLine s) before c e written may = absurd cc
counter_told id (DeliverLine d) before c e written may = absurd cc

pub counter_time : (id : ℕ) (line : Line) (c : CounterSetup) → may_be_written line ≡ true → counter_in id line ≡ Some c
    → (c.every == 0) ≡ false
counter_time id (CounterLine owner g) c written e = go (owner == id) e
  where
    go : (b : Bool) → (if b then Some g else None) ≡ Some c → (c.every == 0) ≡ false
    go true made =
        let kind = and_parts (not g.source.flow) _ written in
        let time = and_parts _ _ (and_parts _ _ (and_parts _ _ kind.1).1).1 in
        subst (λ (x : CounterSetup). (x.every == 0) ≡ false) (same_Some _ _ made) (not_zero g.every (and_parts _ _ time.0).0)
    go false made = absurd cc
counter_time id (MaxLine n) c written e = absurd cc
counter_time id (SubLine s) c written e = absurd cc
counter_time id (FlowLine owner f) c written e = absurd cc
counter_time id (PacketLine p k) c written e = absurd cc
counter_time id (PollLine owner now) c written e = absurd cc
counter_time id (SendLine owner now) c written e = absurd cc
counter_time id (RestartLine owner at) c written e = absurd cc
counter_time id (ResetLine s) c written e = absurd cc
counter_time id (DeliverLine d) c written e = absurd cc

-- ---- sub-agents

-- the stage has from 1 to 1,024 places
pub record IsStage (s : SubAgent) : Type 0 where
  pub some : (s.stage == 0) ≡ false
  pub most : nat_lt 1024 s.stage ≡ false

-- no two have one ID
abbrev pub AreApart : List SubAgent → Type 0
AreApart [] = Unit {0}
AreApart (s ∷ more) = AllByRecursion (λ (t : SubAgent). (s.id == t.id) ≡ false) more × AreApart more

apart_end : (xs : List SubAgent) (y : SubAgent) → AreApart xs
    → AllByRecursion (λ (x : SubAgent). (x.id == y.id) ≡ false) xs → AreApart (xs ++ y ∷ [])
apart_end [] y h a = (tt, tt)
apart_end (x ∷ more) y h a = (all_end (λ (t : SubAgent). (x.id == t.id) ≡ false) more y h.0 a.0, apart_end more y h.1 a.1)

-- what a line that sets a sub-agent up tells of it
record TellsSub (s : SubAgent) (before : List Line) : Type 0 where
  pub stage : IsStage s
  pub new : AllByRecursion (λ (t : SubAgent). (t.id == s.id) ≡ false) (subs_in before)
  pub room : nat_lt (length (subs_in before)) 64 ≡ true

none_found : (q : SubAgent → Bool) (xs : List SubAgent) → is_some (find q xs) ≡ false
    → AllByRecursion (λ (x : SubAgent). q x ≡ false) xs
none_found q [] e = tt
none_found q (x ∷ more) e = go (q x) refl (none_found q more) e
  where
    go : (b : Bool) → q x ≡ b → (is_some (find q more) ≡ false → AllByRecursion (λ (x : SubAgent). q x ≡ false) more)
        → is_some (cond b (Some x) (find q more)) ≡ false → AllByRecursion (λ (x : SubAgent). q x ≡ false) (x ∷ more)
    go true is others h = absurd cc
    go false is others h = (is, others h)

sub_told : (line : Line) (before : List Line) (s : SubAgent) → sub_in line ≡ Some s → may_be_written line ≡ true
    → may_follow before line ≡ true → TellsSub s before
sub_told (SubLine t) before s e written may =
    let rules = and_parts (not (is_known t.id before)) _ (rules_met (SubLine t) before may) in
    let stage = fifth (number32.may t.id) (address.may t.address) (number32.may t.first) (boot_time.may t.at) (is_between 1 1024 t.stage) written in
    let range = and_parts (nat_le 1 t.stage) (nat_le t.stage 1024) stage in
    subst (λ (x : SubAgent). TellsSub x before) (same_Some _ _ e) (record {
      stage = record { some = not_zero t.stage range.0; most = over_false 1024 t.stage range.1 };
      new = none_found (is_of t.id) (subs_in before) (not-false _ rules.0);
      room = rules.1;
    })
sub_told (MaxLine n) before s e written may = absurd cc
sub_told (FlowLine id f) before s e written may = absurd cc
sub_told (CounterLine id c) before s e written may = absurd cc
sub_told (PacketLine p k) before s e written may = absurd cc
sub_told (PollLine owner now) before s e written may = absurd cc
sub_told (SendLine owner now) before s e written may = absurd cc
sub_told (RestartLine owner at) before s e written may = absurd cc
sub_told (ResetLine t) before s e written may = absurd cc
sub_told (DeliverLine d) before s e written may = absurd cc

-- all sub-agents of lawful lines
pub record AreSubs (lines : List Line) : Type 0 where
  pub stages : AllByRecursion IsStage (reverse (subs_in lines))
  pub apart : AreApart (reverse (subs_in lines))
  pub few : length (subs_in lines) ≤ 64

pub subs_are : (lines : List Line) → AreLawful lines → AreSubs lines
subs_are [] l = record { stages = tt; apart = tt; few = omega arith }
subs_are (line ∷ before) l = go (sub_in line) refl (subs_are before l.2)
  where
    go : (o : Option SubAgent) → sub_in line ≡ o → AreSubs before → AreSubs (line ∷ before)
    go None is h =
        let same : subs_in (line ∷ before) ≡ subs_in before =
        ap (λ (o : Option SubAgent). cons_option o (filter_map sub_in before)) is in
        record {
          stages = subst (λ (xs : List SubAgent). AllByRecursion IsStage (reverse xs)) (sym same) h.stages;
          apart = subst (λ (xs : List SubAgent). AreApart (reverse xs)) (sym same) h.apart;
          few = subst (λ (xs : List SubAgent). length xs ≤ 64) (sym same) h.few;
        }
    go (Some s) is h =
        let t = sub_told line before s is l.0 l.1 in
        let same : subs_in (line ∷ before) ≡ s ∷ subs_in before =
        ap (λ (o : Option SubAgent). cons_option o (filter_map sub_in before)) is in
        let last : reverse (subs_in (line ∷ before)) ≡ reverse (subs_in before) ++ s ∷ [] = ap reverse same ∙ turned s (subs_in before) in
        let room : length (subs_in before) < 64 = ltb-true _ _ t.room in
        record {
          stages = subst (AllByRecursion IsStage) (sym last) (all_end IsStage (reverse (subs_in before)) s h.stages t.stage);
          apart = subst AreApart (sym last) (apart_end (reverse (subs_in before)) s h.apart
              (all_turned (λ (x : SubAgent). (x.id == s.id) ≡ false) (subs_in before) t.new));
          few = subst (λ (xs : List SubAgent). length xs ≤ 64) (sym same) (omega (arith, room));
        }

-- ---- the most bytes

pub record IsMax (n : ℕ) : Type 0 where
  pub least : nat_lt n 64 ≡ false
  pub most : nat_lt 65535 n ≡ false

max_told : (line : Line) (n : ℕ) → max_in line ≡ Some n → may_be_written line ≡ true → IsMax n
max_told (MaxLine m) n e written =
    let range = and_parts (nat_le 512 m) (nat_le m 65535) written in
    let low : 512 ≤ m = leb-true 512 m range.0 in
    subst IsMax (same_Some _ _ e) (record {
      least = false_from_ne_true (nat_lt m 64) (λ h. let below : m < 64 = ltb-true m 64 h in omega (arith, low, below));
      most = over_false 65535 m range.1;
    })
max_told (SubLine s) n e written = absurd cc
max_told (FlowLine id f) n e written = absurd cc
max_told (CounterLine id c) n e written = absurd cc
max_told (PacketLine p k) n e written = absurd cc
max_told (PollLine owner now) n e written = absurd cc
max_told (SendLine owner now) n e written = absurd cc
max_told (RestartLine owner at) n e written = absurd cc
max_told (ResetLine s) n e written = absurd cc
max_told (DeliverLine d) n e written = absurd cc

pub max_is : (lines : List Line) → AreLawful lines → IsMax (max_of lines)
max_is [] l = record { least = refl; most = refl }
max_is (line ∷ before) l = go (max_in line) refl (max_is before l.2)
  where
    go : (o : Option ℕ) → max_in line ≡ o → IsMax (max_of before) → IsMax (first_or 1400 (cons_option o (filter_map max_in before)))
    go None is h = h
    go (Some n) is h = max_told line n is l.0
