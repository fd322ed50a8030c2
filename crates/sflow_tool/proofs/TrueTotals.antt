-- What all sub-agents did in all their boots, and how many sources they have.
use Rattle.std.proofs.Common.{◌≡◌, ◌∙◌, ◌+◌, ◌*◌, ◌%◌, ◌≤◌, ◌<◌, ◌++◌, ℕ, zero, suc, List, [], ◌∷◌, length, map, reverse, take, flat_map, Some, refl, ap, sym, arith, slice_get}
use Rattle.std.specs.List.{sum_by}
use Rattle.std.proofs.lemmas.List.{length-map, length-reverse, reverse-append}
use Rattle.std.proofs.lemmas.List.Sums.{sum_by-append, sum_by-cons}
use Rattle.std.proofs.lemmas.Option.{same_Some}
use Rattle.agent_spec.specs.Events.{Event}
use Rattle.agent_spec.specs.Boots.{Boot, happened}
use Rattle.script_spec.specs.Lines.{Line, SubAgent}
use Rattle.script_spec.specs.Agents.{AgentBoot, boots_of, setup_of, subs_in}
use Rattle.script_spec.specs.Sent.{boots_in}
use Rattle.script_tables.specs.Tables.{newest}
use Rattle.true_samples.specs.Bounds as bounds
use Rattle.true_samples.specs.declared.sub_agent.Totals.{Totals}
use Rattle.true_samples.specs.States.{TrueState}
use Rattle.true_samples.specs.Pairs.{Each}
use Rattle.sflow_tool.specs.ScriptBoots.{boot_now, boots_now}
use Rattle.sflow_tool.specs.Trues.{HasTotals, TrueOf, events_behind, events_in}
use Rattle.sflow_tool.proofs.TrueLines.{boots_few, subs_few}
use Rattle.sflow_tool.proofs.TrueStands.{StandsIn, all_boots, same_many}

-- ---- lists

take_suc : {X : Type 0} (xs : List X) (k : ℕ) (x : X) → slice_get xs k ≡ Some x → take (suc k) xs ≡ take k xs ++ x ∷ []
take_suc [] k x e = absurd cc
take_suc (y ∷ more) zero x e = ap (λ z. z ∷ []) (same_Some _ _ e)
take_suc (y ∷ more) (suc k) x e = ap (λ l. y ∷ l) (take_suc more k x e)

pub take_next : {X : Type 0} (xs : List X) (k : ℕ) (x : X) → slice_get xs k ≡ Some x → take (k + 1) xs ≡ take k xs ++ x ∷ []
take_next xs k x e =
    let one : k + 1 ≡ suc k = omega arith in
    ap (λ (n : ℕ). take n xs) one ∙ take_suc xs k x e

map_next : {X Y : Type 0} (f : X → Y) (xs : List X) (x : X) → map f (xs ++ x ∷ []) ≡ map f xs ++ f x ∷ []
map_next f [] x = refl
map_next f (y ∷ more) x = ap (λ l. f y ∷ l) (map_next f more x)

sum_next : {X : Type 0} (f : X → ℕ) (xs : List X) (k : ℕ) (x : X) → slice_get xs k ≡ Some x
    → sum_by f (take (k + 1) xs) ≡ sum_by f (take k xs) + f x
sum_next f xs k x e =
    omega (arith, ap (sum_by f) (take_next xs k x e), sum_by-append f (take k xs) (x ∷ []), sum_by-cons f x [])

pub sum_turned : {X : Type 0} (f : X → ℕ) (xs : List X) → sum_by f (reverse xs) ≡ sum_by f xs
sum_turned f [] = refl
sum_turned f (x ∷ xs) =
    omega (
      arith,
      ap (sum_by f) (reverse-append (x ∷ []) xs),
      sum_by-append f (reverse xs) (x ∷ []),
      sum_by-cons f x [],
      sum_by-cons f x xs,
      sum_turned f xs,
    )

pub sum_map : {X Y : Type 0} (f : Y → ℕ) (g : X → Y) (xs : List X) → sum_by f (map g xs) ≡ sum_by (λ (x : X). f (g x)) xs
sum_map f g [] = refl
sum_map f g (x ∷ xs) =
    omega (arith, sum_by-cons f (g x) (map g xs), sum_by-cons (λ (y : _). f (g y)) x xs, sum_map f g xs)

-- ---- sums over sub-agents

-- of what this counts in a boot
abbrev pub in_all : (Boot → ℕ) → List Line → SubAgent → ℕ
in_all count lines s =
    sum_by (λ (events : List Event). count (happened (setup_of lines s) events)) (map events_in (boots_of lines s))

abbrev as_boots : List Line → SubAgent → List Boot
as_boots lines s = map (λ (b : AgentBoot). happened (setup_of lines s) b.events) (boots_of lines s)

one_sum : (count : Boot → ℕ) (lines : List Line) (s : SubAgent) → sum_by count (as_boots lines s) ≡ in_all count lines s
one_sum count lines s =
    sum_map count (λ (b : AgentBoot). happened (setup_of lines s) b.events) (boots_of lines s)
    ∙ sym (sum_map (λ (events : List Event). count (happened (setup_of lines s) events)) events_in (boots_of lines s))

each_sum : (count : Boot → ℕ) (lines : List Line) (xs : List SubAgent)
    → sum_by count (flat_map (as_boots lines) xs) ≡ sum_by (in_all count lines) xs
each_sum count lines [] = refl
each_sum count lines (x ∷ xs) =
    omega (
      arith,
      sum_by-append count (as_boots lines x) (flat_map (as_boots lines) xs),
      one_sum count lines x,
      each_sum count lines xs,
      sum_by-cons (in_all count lines) x xs,
    )

pub all_sum : (count : Boot → ℕ) (lines : List Line)
    → sum_by (in_all count lines) (reverse (subs_in lines)) ≡ sum_by count (boots_in lines)
all_sum count lines = sum_turned (in_all count lines) (subs_in lines) ∙ sym (each_sum count lines (subs_in lines))

-- ---- so far

abbrev pub sent_of : Boot → ℕ
sent_of b = length b.sent

abbrev pub issued_of : Boot → ℕ
issued_of b = length b.issued

abbrev pub dropped_of : Boot → ℕ
dropped_of b = length b.dropped

-- the first so many sub-agents are counted, none of which did 2^96 of anything
pub record AreCounted (t : Totals) (lines : List Line) (k : ℕ) : Type 0 where
  pub datagrams : t.datagrams ≡ sum_by (in_all sent_of lines) (take k (reverse (subs_in lines)))
  pub issued : t.issued ≡ sum_by (in_all issued_of lines) (take k (reverse (subs_in lines)))
  pub dropped : t.dropped ≡ sum_by (in_all dropped_of lines) (take k (reverse (subs_in lines)))
  pub few_datagrams : t.datagrams ≤ k * 79228162514264337593543950336
  pub few_issued : t.issued ≤ k * 79228162514264337593543950336
  pub few_dropped : t.dropped ≤ k * 79228162514264337593543950336

pub none_counted : (t : Totals) (lines : List Line) → t.datagrams ≡ 0 → t.issued ≡ 0 → t.dropped ≡ 0 → AreCounted t lines 0
none_counted t lines d i o = record {
  datagrams = d;
  issued = i;
  dropped = o;
  few_datagrams = omega (arith, d);
  few_issued = omega (arith, i);
  few_dropped = omega (arith, o);
}

-- what a sub-agent did
pub record Did (r : Totals) (lines : List Line) (s : SubAgent) : Type 0 where
  pub datagrams : r.datagrams ≡ in_all sent_of lines s
  pub issued : r.issued ≡ in_all issued_of lines s
  pub dropped : r.dropped ≡ in_all dropped_of lines s
  pub few_datagrams : r.datagrams < 79228162514264337593543950336
  pub few_issued : r.issued < 79228162514264337593543950336
  pub few_dropped : r.dropped < 79228162514264337593543950336

-- the sums of two, where none wraps
wraps : (a b s u k f : ℕ) → k < 4294967296 → a ≡ s → b ≡ f → u ≡ s + f → a ≤ k * 79228162514264337593543950336
    → b < 79228162514264337593543950336
    → ((a + b) % 340282366920938463463374607431768211456 ≡ u)
    × ((a + b) % 340282366920938463463374607431768211456 ≤ (k + 1) * 79228162514264337593543950336)
wraps a b s u k f many is one whole few low =
    let small : a + b < 340282366920938463463374607431768211456 = omega (arith, many, few, low) in
    (omega (arith, small, is, one, whole), omega (arith, small, few, low))

pub counted : (t r t' : Totals) (lines : List Line) (k : ℕ) (s : SubAgent) → k < 4294967296
    → slice_get (reverse (subs_in lines)) k ≡ Some s
    → AreCounted t lines k → Did r lines s
    → t'.datagrams ≡ (t.datagrams + r.datagrams) % 340282366920938463463374607431768211456
    → t'.issued ≡ (t.issued + r.issued) % 340282366920938463463374607431768211456
    → t'.dropped ≡ (t.dropped + r.dropped) % 340282366920938463463374607431768211456 → AreCounted t' lines (k + 1)
counted t r t' lines k s many at h one d i o =
    let subs : List SubAgent = reverse (subs_in lines) in
    let a = wraps t.datagrams r.datagrams _ _ k _ many h.datagrams one.datagrams (sum_next (in_all sent_of lines) subs k s at)
    h.few_datagrams one.few_datagrams in
    let b = wraps t.issued r.issued _ _ k _ many h.issued one.issued (sum_next (in_all issued_of lines) subs k s at)
    h.few_issued one.few_issued in
    let c = wraps t.dropped r.dropped _ _ k _ many h.dropped one.dropped (sum_next (in_all dropped_of lines) subs k s at)
    h.few_dropped one.few_dropped in
    record {
      datagrams = d ∙ a.0;
      issued = i ∙ b.0;
      dropped = o ∙ c.0;
      few_datagrams = omega (arith, d, a.1);
      few_issued = omega (arith, i, b.1);
      few_dropped = omega (arith, o, c.1);
    }

pub all_counted : (t : Totals) (lines : List Line) (k : ℕ) → take k (reverse (subs_in lines)) ≡ reverse (subs_in lines)
    → AreCounted t lines k → HasTotals t lines
all_counted t lines k whole h = record {
  datagrams = h.datagrams ∙ ap (sum_by (in_all sent_of lines)) whole ∙ all_sum sent_of lines;
  issued = h.issued ∙ ap (sum_by (in_all issued_of lines)) whole ∙ all_sum issued_of lines;
  dropped = h.dropped ∙ ap (sum_by (in_all dropped_of lines)) whole ∙ all_sum dropped_of lines;
}

-- ---- the sub-agent at a place

earlier_many : (lines : List Line) (t : TrueState) (s : SubAgent) → length lines < 4294967296 → StandsIn lines t s
    → 1 + length t.earlier ≤ 4294967296
earlier_many lines t s many h =
    omega (
      arith,
      many,
      each_long _ t.earlier (reverse (events_behind (boots_of lines s))) h.earlier_are,
      length-reverse (events_behind (boots_of lines s)),
      ap length (all_boots lines s),
      length-map (boots_of lines s) events_in,
      (boots_few lines s).all,
    )
  where
    each_long : {A B : Type 0} (P : A → B → Type 0) (xs : List A) (ys : List B) → Each P xs ys → length xs ≡ length ys
    each_long P [] [] h = refl
    each_long P [] (y ∷ ys) h = absurd h
    each_long P (x ∷ xs) [] h = absurd h
    each_long P (x ∷ xs) (y ∷ ys) h = ap suc (each_long P xs ys h.1)

pub did : (r : Totals) (lines : List Line) (t : TrueState) (s : SubAgent) → length lines < 4294967296 → StandsIn lines t s
    → bounds.AreFew (1 + length t.earlier) r
    → r.datagrams ≡ sum_by (λ (events : List Event). length (happened (setup_of lines s) events).sent)
    ((newest (boots_of lines s)).events ∷ events_behind (boots_of lines s))
    → r.issued ≡ sum_by (λ (events : List Event). length (happened (setup_of lines s) events).issued)
    ((newest (boots_of lines s)).events ∷ events_behind (boots_of lines s))
    → r.dropped ≡ sum_by (λ (events : List Event). length (happened (setup_of lines s) events).dropped)
    ((newest (boots_of lines s)).events ∷ events_behind (boots_of lines s)) → Did r lines s
did r lines t s many h few d i o =
    let boots = earlier_many lines t s many h in
    record {
      datagrams = d ∙ ap (sum_by (λ (events : List Event). length (happened (setup_of lines s) events).sent)) (all_boots lines s);
      issued = i ∙ ap (sum_by (λ (events : List Event). length (happened (setup_of lines s) events).issued)) (all_boots lines s);
      dropped = o
          ∙ ap (sum_by (λ (events : List Event). length (happened (setup_of lines s) events).dropped)) (all_boots lines s);
      few_datagrams = omega (arith, few.datagrams, boots);
      few_issued = omega (arith, few.issued, boots);
      few_dropped = omega (arith, few.dropped, boots);
    }

pub within : (trues : List TrueState) (lines : List Line) (k : ℕ) → TrueOf trues lines → length lines < 4294967296
    → k < length trues → k < 4294967296
within trues lines k h many low =
    omega (arith, many, low, same_many lines trues (reverse (subs_in lines)) h, length-reverse (subs_in lines), subs_few lines)

-- ---- sources

pub as_places : {X : Type 0} (xs : List X) (ys zs : List ℕ) (f : X → ℕ) (k : ℕ) (x : X) (n : ℕ) → slice_get xs k ≡ Some x
    → n ≡ f x → ys ≡ map f (take k xs) → zs ≡ ys ++ n ∷ [] → zs ≡ map f (take (k + 1) xs)
as_places xs ys zs f k x n at is so pushed =
    pushed
    ∙ ap (λ (m : ℕ). ys ++ m ∷ []) is
    ∙ ap (λ (l : List ℕ). l ++ f x ∷ []) so
    ∙ sym (map_next f (take k xs) x)
    ∙ ap (map f) (sym (take_next xs k x at))

pub boots_long : (trues : List TrueState) (lines : List Line) → TrueOf trues lines → length trues ≡ length (boots_now lines)
boots_long trues lines h =
    same_many lines trues (reverse (subs_in lines)) h ∙ sym (length-map (reverse (subs_in lines)) (boot_now lines))
