-- What the tables test is what the lines ask.
use Rattle.std.proofs.Common.{◌≡◌, ◌∙◌, ◌+◌, ◌-◌, ◌≤◌, ◌<◌, ◌==◌, ◌&&◌, ◌||◌, ◌++◌, ℕ, zero, suc, Bool, true, false, not, cond, List, [], ◌∷◌, length, map, reverse, find, filter_map, count_by, is_some, Option, Some, None, refl, ap, sym, subst, arith, if◌then◌else◌, slice_get, option_map, option_and_then}
use Rattle.std.specs.Prelude.{nat_le}
use Rattle.std.specs.List.{AllByRecursion, list_any, cons_option}
use Rattle.std.specs.Option.{option_map_or}
use Rattle.std.proofs.lemmas.Bool.{and_from, and_left, and_right, and_parts, eqb-true, eq-eqb, le-leb, leb-true, leb-false, false_from_ne_true, true≢false}
use Rattle.std.proofs.lemmas.List.{reverse-reverse, length-map, length-reverse}
use Rattle.std.proofs.lemmas.List.Sums.{sum_by-cons}
use Rattle.std.proofs.lemmas.List.Folds.{find-append}
use Rattle.std.proofs.lemmas.List.Sorted.{list_any-IsPermutation, IsPermutation-reverse}
use Rattle.std.specs.Option.{option_or}
use Rattle.std.proofs.lemmas.Option.{same_Some, slice_get-map, slice_get_past, slice_get-get_or}
use Rattle.agent_spec.specs.Sources as spec
use Rattle.agent_spec.specs.Sources.{same_kind}
use Rattle.script_spec.specs.Lines.{Line, MaxLine, SubLine, FlowLine, CounterLine, PacketLine, PollLine, SendLine, RestartLine, ResetLine, DeliverLine, SubAgent, Delivery}
use Rattle.script_spec.specs.Agents.{Owned, owned_in, AgentBoot, subs_in, sub_of, is_of, sources_in, flow_in, flows_of, counter_in, counters_of, boots_of, datagrams_of, numbered, boot_of, delivered_of, delivered}
use Rattle.script_spec.specs.Rules.{is_known, may_follow}
use Rattle.script_laws.specs.Written.{may_be_written}
use Rattle.script_laws.specs.Lawful.{AreLawful}
use Rattle.script_tables.specs.declared.rows.SourceRow.{SourceRow}
use Rattle.script_tables.specs.declared.rows.SubRow.{SubRow}
use Rattle.script_tables.specs.Tables.{TablesState, SubCount, row_said, boot_said, sub_said, boot_count, sub_count, Tells, knows, rows_of, has_sent, boots_sent, sub_sent}
use Rattle.script_tables.proofs.ListTests.{any_map, not-false, turned}
use Rattle.script_tables.proofs.OfLines.{AreApart, subs_are, flow_told, counter_told}
use Rattle.script_tables.proofs.OfKind.{Tells as TellsLine, kinds_agree}

any_reverse : {X : Type 0} (q : X → Bool) (xs : List X) → list_any q (reverse xs) ≡ list_any q xs
any_reverse q xs = sym (list_any-IsPermutation q xs (reverse xs) (IsPermutation-reverse xs))

-- ---- the tables' rows are those of the lines

module _ (t : TablesState) (lines : List Line) (tells : Tells t lines) where
  pub known : (id : ℕ) → knows id t.subs ≡ is_known id lines
  known id =
      any_map (λ (c : SubCount). c.id == id) sub_said t.subs
      ∙ ap (list_any (λ (c : SubCount). c.id == id)) tells.subs
      ∙ sym (any_map (λ (c : SubCount). c.id == id) (sub_count lines) (reverse (subs_in lines)))
      ∙ any_reverse (is_of id) (subs_in lines) ∙ any_found (subs_in lines)
    where
      any_found : (xs : List SubAgent) → list_any (is_of id) xs ≡ is_some (find (is_of id) xs)
      any_found [] = refl
      any_found (x ∷ more) = go (is_of id x) (any_found more)
        where
          go : (b : Bool) → list_any (is_of id) more ≡ is_some (find (is_of id) more)
              → (b || list_any (is_of id) more) ≡ is_some (cond b (Some x) (find (is_of id) more))
          go true h = refl
          go false h = h

  pub sourced : (q : Owned → Bool) → list_any (λ (o : SourceRow). q (row_said o)) t.sources ≡ list_any q (sources_in lines)
  sourced q = any_map q row_said t.sources ∙ ap (list_any q) tells.sources ∙ any_reverse q (sources_in lines)

  pub long : length t.subs ≡ length (subs_in lines)
  long =
      sym (length-map t.subs sub_said) ∙ ap length tells.subs ∙ length-map (reverse (subs_in lines)) (sub_count lines)
      ∙ length-reverse (subs_in lines)

-- ---- how many sources of a kind

count_more : {X : Type 0} (q : X → Bool) (x : X) (xs : List X) → count_by q (x ∷ xs) ≡ cond (q x) 1 0 + count_by q xs
count_more {X} q x xs = sum_by-cons (λ (y : X). cond (q y) 1 0) x xs

count_end : {X : Type 0} (q : X → Bool) (xs : List X) (x : X) → count_by q (xs ++ x ∷ []) ≡ cond (q x) 1 0 + count_by q xs
count_end q [] x = count_more q x []
count_end q (y ∷ more) x =
    let h = count_end q more x in
    let a = count_more q y (more ++ x ∷ []) in
    let b = count_more q y more in
    omega (arith, h, a, b)

count_turned : {X : Type 0} (q : X → Bool) (xs : List X) → count_by q (reverse xs) ≡ count_by q xs
count_turned q [] = refl
count_turned q (x ∷ more) =
    let a : count_by q (reverse (x ∷ more)) ≡ count_by q (reverse more ++ x ∷ []) = ap (count_by q) (turned x more) in
    let b = count_end q (reverse more) x in
    let c = count_more q x more in
    let h = count_turned q more in
    omega (arith, a, b, c, h)

count_map : {X Y : Type 0} (q : Y → Bool) (to : X → Y) (xs : List X) → count_by (λ (x : X). q (to x)) xs ≡ count_by q (map to xs)
count_map q to [] = refl
count_map {X} q to (x ∷ more) =
    count_more (λ (x : X). q (to x)) x more ∙ ap (λ n. cond (q (to x)) 1 0 + n) (count_map q to more)
    ∙ sym (count_more q (to x) (map to more))

-- the source is of this kind and sub-agent
abbrev is_owned_of : ℕ → Bool → Owned → Bool
is_owned_of owner flow o = (o.owner == owner) && same_kind flow o.source.flow

pub rows_counted : (t : TablesState) (lines : List Line) → Tells t lines → (owner : ℕ) (flow : Bool)
    → rows_of owner flow t.sources ≡ count_by (is_owned_of owner flow) (sources_in lines)
rows_counted t lines tells owner flow =
    count_map (is_owned_of owner flow) row_said t.sources ∙ ap (count_by (is_owned_of owner flow)) tells.sources
    ∙ count_turned (is_owned_of owner flow) (sources_in lines)

owned_count : {S : Type 0} (of : S → spec.Source) (flow : Bool) (pick : ℕ → Line → Option S)
    (tells : (id : ℕ) (line : Line) (before : List Line) (s : S) → pick id line ≡ Some s → may_be_written line ≡ true
    → may_follow before line ≡ true
    → TellsLine flow id (of s) (length (reverse (filter_map (pick id) before))) line before)
    (owner : ℕ)
    → ((line : Line) (o : Owned) → may_be_written line ≡ true → owned_in line ≡ Some o → pick owner line ≡ None
    → is_owned_of owner flow o ≡ false)
    → (lines : List Line) → AreLawful lines
    → count_by (is_owned_of owner flow) (sources_in lines) ≡ length (filter_map (pick owner) lines)
owned_count of flow pick tells owner others [] l = refl
owned_count {S} of flow pick tells owner others (line ∷ before) l =
    go (pick owner line) refl (owned_in line) refl (owned_count of flow pick tells owner others before l.2)
  where
    yes : (o : Owned) (s : S) → pick owner line ≡ Some s → owned_in line ≡ Some o → is_owned_of owner flow o ≡ true
    yes o s picked owned =
        let t = tells owner line before s picked l.0 l.1 in
        let same : record { owner = owner; source = of s } ≡ o = same_Some _ _ (sym t.owned ∙ owned) in
        subst (λ (x : Owned). is_owned_of owner flow x ≡ true) same
        (and_from _ _ (eq-eqb owner owner refl) (kinds_agree flow (of s).flow (sym t.kind)))

    go : (p : Option S) → pick owner line ≡ p → (o : Option Owned) → owned_in line ≡ o
        → count_by (is_owned_of owner flow) (sources_in before) ≡ length (filter_map (pick owner) before)
        → count_by (is_owned_of owner flow) (cons_option o (sources_in before))
        ≡ length (cons_option p (filter_map (pick owner) before))
    go None picked None owned h = h
    go None picked (Some o) owned h =
        let more = count_more (is_owned_of owner flow) o (sources_in before) in
        let none : cond {A = ℕ} (is_owned_of owner flow o) 1 0 ≡ 0 = ap (λ (b : Bool). cond {A = ℕ} b 1 0) (others line o l.0 owned picked) in
        omega (arith, more, none, h)
    go (Some s) picked None owned h =
        absurd (none_some (sym owned ∙ (tells owner line before s picked l.0 l.1).owned))
      where
        none_some : {X : Type 0} {x : X} → None ≡ Some x → ⊥
        none_some e = cc
    go (Some s) picked (Some o) owned h =
        let more = count_more (is_owned_of owner flow) o (sources_in before) in
        let one : cond {A = ℕ} (is_owned_of owner flow o) 1 0 ≡ 1 = ap (λ (b : Bool). cond {A = ℕ} b 1 0) (yes o s picked owned) in
        omega (arith, more, one, h)

-- a source that isn't picked is another sub-agent's, or of the other kind
flow_others : (owner : ℕ) (line : Line) (o : Owned) → may_be_written line ≡ true → owned_in line ≡ Some o
    → flow_in owner line ≡ None → is_owned_of owner true o ≡ false
flow_others owner (FlowLine id f) o written owned none = go (id == owner) refl none
  where
    go : (b : Bool) → (id == owner) ≡ b → (if b then Some f else None) ≡ None → is_owned_of owner true o ≡ false
    go true is made = absurd cc
    go false is made =
        subst (λ (x : Owned). is_owned_of owner true x ≡ false) (same_Some _ _ owned) (and_left _ (same_kind true f.source.flow) is)
flow_others owner (CounterLine id c) o written owned none =
    let kind = not-false c.source.flow (and_parts (not c.source.flow) _ written).0 in
    subst (λ (x : Owned). is_owned_of owner true x ≡ false) (same_Some _ _ owned) (and_right (id == owner) _ kind)
flow_others owner (MaxLine n) o written owned none = absurd cc
flow_others owner (SubLine s) o written owned none = absurd cc
flow_others owner (PacketLine p k) o written owned none = absurd cc
flow_others owner (PollLine id now) o written owned none = absurd cc
flow_others owner (SendLine id now) o written owned none = absurd cc
flow_others owner (RestartLine id at) o written owned none = absurd cc
flow_others owner (ResetLine s) o written owned none = absurd cc
flow_others owner (DeliverLine d) o written owned none = absurd cc

counter_others : (owner : ℕ) (line : Line) (o : Owned) → may_be_written line ≡ true → owned_in line ≡ Some o
    → counter_in owner line ≡ None → is_owned_of owner false o ≡ false
counter_others owner (CounterLine id c) o written owned none = go (id == owner) refl none
  where
    go : (b : Bool) → (id == owner) ≡ b → (if b then Some c else None) ≡ None → is_owned_of owner false o ≡ false
    go true is made = absurd cc
    go false is made =
        subst (λ (x : Owned). is_owned_of owner false x ≡ false) (same_Some _ _ owned) (and_left _ (same_kind false c.source.flow) is)
counter_others owner (FlowLine id f) o written owned none =
    let kind : f.source.flow ≡ true = (and_parts f.source.flow _ written).0 in
    subst (λ (x : Owned). is_owned_of owner false x ≡ false) (same_Some _ _ owned) (and_right (id == owner) _ (ap not kind))
counter_others owner (MaxLine n) o written owned none = absurd cc
counter_others owner (SubLine s) o written owned none = absurd cc
counter_others owner (PacketLine p k) o written owned none = absurd cc
counter_others owner (PollLine id now) o written owned none = absurd cc
counter_others owner (SendLine id now) o written owned none = absurd cc
counter_others owner (RestartLine id at) o written owned none = absurd cc
counter_others owner (ResetLine s) o written owned none = absurd cc
counter_others owner (DeliverLine d) o written owned none = absurd cc

pub flows_counted : (t : TablesState) (lines : List Line) → Tells t lines → AreLawful lines → (owner : ℕ)
    → rows_of owner true t.sources ≡ length (flows_of owner lines)
flows_counted t lines tells lawful owner =
    rows_counted t lines tells owner true
    ∙ owned_count (λ (f : spec.FlowSetup). f.source) true flow_in flow_told owner (flow_others owner) lines lawful
    ∙ sym (length-reverse (filter_map (flow_in owner) lines))

pub counters_counted : (t : TablesState) (lines : List Line) → Tells t lines → AreLawful lines → (owner : ℕ)
    → rows_of owner false t.sources ≡ length (counters_of owner lines)
counters_counted t lines tells lawful owner =
    rows_counted t lines tells owner false
    ∙ owned_count (λ (c : spec.CounterSetup). c.source) false counter_in counter_told owner (counter_others owner) lines lawful
    ∙ sym (length-reverse (filter_map (counter_in owner) lines))

-- ---- what was sent

find_turned : (id : ℕ) (xs : List SubAgent) → AreApart xs → find (is_of id) (reverse xs) ≡ find (is_of id) xs
find_turned id [] apart = refl
find_turned id (x ∷ more) apart =
    ap (find (is_of id)) (turned x more) ∙ find-append (is_of id) (reverse more) (x ∷ [])
    ∙ ap (λ o. option_or o (cond (is_of id x) (Some x) None)) (find_turned id more apart.1)
    ∙ go (is_of id x) refl
  where
    none : (ys : List SubAgent) → x.id ≡ id → AllByRecursion (λ (y : SubAgent). (x.id == y.id) ≡ false) ys
        → find (is_of id) ys ≡ None
    none [] e h = refl
    none (y ∷ ys) e h =
        ap (λ (b : Bool). cond b (Some y) (find (is_of id) ys))
        (false_from_ne_true (y.id == id) (λ same. true≢false (sym (eq-eqb x.id y.id (e ∙ sym (eqb-true y.id id same))) ∙ h.0)))
        ∙ none ys e h.1

    go : (b : Bool) → is_of id x ≡ b
        → option_or (find (is_of id) more) (cond b (Some x) None) ≡ cond b (Some x) (find (is_of id) more)
    go true e = ap (λ o. option_or o (Some x)) (none more (eqb-true x.id id e) apart.0)
    go false e = or_none (find (is_of id) more)
      where
        or_none : (o : Option SubAgent) → option_or o None ≡ o
        or_none None = refl
        or_none (Some s) = refl

-- what the counts of the sub-agents say
abbrev counts_sent : ℕ → ℕ → ℕ → List SubCount → Bool
counts_sent id boot number counts =
    option_map_or (λ (c : SubCount). boots_sent c.boots boot number) (find (λ (c : SubCount). c.id == id) counts) false

rows_sent : (id boot number : ℕ) (rows : List SubRow) → sub_sent id boot number rows ≡ counts_sent id boot number (map sub_said rows)
rows_sent id boot number [] = refl
rows_sent id boot number (r ∷ more) = go (r.id == id) (rows_sent id boot number more)
  where
    go : (b : Bool) → sub_sent id boot number more ≡ counts_sent id boot number (map sub_said more)
        → cond b (boots_sent (map boot_said r.boots.items) boot number) (sub_sent id boot number more)
        ≡ option_map_or (λ (c : SubCount). boots_sent c.boots boot number)
        (cond b (Some (sub_said r)) (find (λ (c : SubCount). c.id == id) (map sub_said more))) false
    go true h = refl
    go false h = h

lines_sent : (id boot number : ℕ) (lines : List Line) (subs : List SubAgent)
    → counts_sent id boot number (map (sub_count lines) subs)
    ≡ option_map_or (λ (s : SubAgent). boots_sent (sub_count lines s).boots boot number) (find (is_of id) subs) false
lines_sent id boot number lines [] = refl
lines_sent id boot number lines (s ∷ more) = go (s.id == id) (lines_sent id boot number lines more)
  where
    go : (b : Bool) → counts_sent id boot number (map (sub_count lines) more)
        ≡ option_map_or (λ (s : SubAgent). boots_sent (sub_count lines s).boots boot number) (find (is_of id) more) false
        → option_map_or (λ (c : SubCount). boots_sent c.boots boot number)
        (cond b (Some (sub_count lines s)) (find (λ (c : SubCount). c.id == id) (map (sub_count lines) more))) false
        ≡ option_map_or (λ (s : SubAgent). boots_sent (sub_count lines s).boots boot number)
        (cond b (Some s) (find (is_of id) more)) false
    go true h = refl
    go false h = h

has : {X : Type 0} (xs : List X) (k : ℕ) → k < length xs → is_some (slice_get xs k) ≡ true
has [] k low = absurd (omega (arith, low))
has (x ∷ xs) k low = ap is_some (slice_get-get_or (x ∷ xs) k x low)

-- a number counts an item where it is from 1 to the last
is_there : {X : Type 0} (items : List X) (n : ℕ) → is_some (numbered items n) ≡ (nat_le 1 n && nat_le n (length items))
is_there items n = go (n == 0) refl
  where
    go : (b : Bool) → (n == 0) ≡ b
        → is_some (if b then None else slice_get items (n - 1)) ≡ (nat_le 1 n && nat_le n (length items))
    go true e =
        let zero : n ≡ 0 = eqb-true n 0 e in
        sym (ap (λ (b : Bool). b && nat_le n (length items)) (ap (nat_le 1) zero))
    go false e =
        let some : 1 ≤ n = one_or_more n e in
        sym (ap (λ (b : Bool). b && nat_le n (length items)) (le-leb 1 n some) ∙ within (nat_le n (length items)) refl some)
      where
        one_or_more : (m : ℕ) → (m == 0) ≡ false → 1 ≤ m
        one_or_more zero e = absurd cc
        one_or_more (suc m) e = omega arith

        within : (b : Bool) → nat_le n (length items) ≡ b → 1 ≤ n → nat_le n (length items) ≡ is_some (slice_get items (n - 1))
        within true is some =
            let low : n ≤ length items = leb-true n (length items) is in
            is ∙ sym (has items (n - 1) (omega (arith, low, some)))
        within false is some =
            let high : length items < n = leb-false n (length items) is in
            is ∙ sym (ap is_some (slice_get_past items (n - 1) (omega (arith, high, some))))

numbered_map : {X Y : Type 0} (to : X → Y) (xs : List X) (n : ℕ) → numbered (map to xs) n ≡ option_map to (numbered xs n)
numbered_map to xs n = go (n == 0)
  where
    go : (b : Bool) → (if b then None else slice_get (map to xs) (n - 1)) ≡ option_map to (if b then None else slice_get xs (n - 1))
    go true = refl
    go false = slice_get-map to xs (n - 1)

boots_said : (lines : List Line) (s : SubAgent) (d : Delivery)
    → boots_sent (sub_count lines s).boots d.boot d.number ≡ is_some (delivered_of lines s d)
boots_said lines s d =
    ap (λ o. option_map_or (has_sent d.number) o false) (numbered_map (boot_count lines s) (reverse (boots_of lines s)) d.boot)
    ∙ go (boot_of lines s d.boot)
  where
    go : (o : Option AgentBoot) → option_map_or (has_sent d.number) (option_map (boot_count lines s) o) false
        ≡ is_some (option_and_then (λ b. numbered (datagrams_of lines s b) d.number) o)
    go None = refl
    go (Some b) = sym (is_there (datagrams_of lines s b) d.number)

pub was_sent : (t : TablesState) (lines : List Line) → Tells t lines → AreLawful lines → (d : Delivery)
    → sub_sent d.id d.boot d.number t.subs ≡ is_some (delivered lines d)
unfolding delivered
was_sent t lines tells lawful d =
    rows_sent d.id d.boot d.number t.subs ∙ ap (counts_sent d.id d.boot d.number) tells.subs
    ∙ lines_sent d.id d.boot d.number lines (reverse (subs_in lines))
    ∙ ap (λ o. option_map_or (λ (s : SubAgent). boots_sent (sub_count lines s).boots d.boot d.number) o false) same
    ∙ go (sub_of d.id lines)
  where
    same : find (is_of d.id) (reverse (subs_in lines)) ≡ find (is_of d.id) (subs_in lines)
    same =
        sym (find_turned d.id (reverse (subs_in lines)) (subs_are lines lawful).apart)
        ∙ ap (find (is_of d.id)) (reverse-reverse (subs_in lines))

    go : (o : Option SubAgent) → option_map_or (λ (s : SubAgent). boots_sent (sub_count lines s).boots d.boot d.number) o false
        ≡ is_some (option_and_then (λ s. delivered_of lines s d) o)
    go None = refl
    go (Some s) = boots_said lines s d
