-- Routes and the texts that say them.
use Rattle.std.proofs.Common.{◌≡◌, ◌∙◌, ◌+◌, ◌<◌, ◌≤◌, ◌==◌, ◌&&◌, ◌||◌, ℕ, zero, suc, Bool, true, false, cond, List, [], ◌∷◌, ◌++◌, length, get_or, take, drop, Option, Some, None, refl, sym, ap, subst, arith, length-append, if◌then◌else◌, nat_lt, nat_le}
use Rattle.std.specs.Prelude.{option_map, option_and_then}
use Rattle.std.specs.List.{list_any, AllByRecursion, AllZip, onto_first, join_with_byte, position_or_len, before_first, after_first}
use Rattle.std.proofs.Math.Seq.{take-append_seam, drop-append-add, get_or-append_seam}
use Rattle.std.proofs.lemmas.Bool.Decides.{nat_tests}
use Rattle.std.proofs.lemmas.List.{get_or-take, get_or_append_left, length-take}
use Rattle.std.proofs.lemmas.List.Folds.{list_any_none, list_any-append}
use Rattle.std.proofs.lemmas.List.Splits.{join_with_byte-slice_split, length-slice_split}
use Rattle.std.proofs.lemmas.List.Sums.{fails_before_first, passes_at_first, position_or_len_is, split_at_first}
use Rattle.std.proofs.lemmas.Slice.Zip.{AllZip-long}
use Rattle.wire_spec.specs.Heads.{AgentAddress}
use Rattle.script_spec.specs.Words.{Text, is_between, where_true}
use Rattle.script_spec.specs.Parts.{split_at}
use Rattle.script_spec.specs.Values.{each_in}
use Rattle.relay_out.specs.Routes.{Route, agent_in, place_in, route_of, route_in, routes_in}
use Rattle.relay_out.specs.Spelled.{SaysRoute, SaysRoutes}

-- ---- tests and options

same : {A : Type 0} (x y : A) → Some x ≡ Some y → x ≡ y
same x y e = cc

both_true : (a b : Bool) → (a && b) ≡ true → (a ≡ true) × (b ≡ true)
both_true true b e = (refl, e)
both_true false b e = absurd cc

and_true : (a b : Bool) → a ≡ true → b ≡ true → (a && b) ≡ true
and_true true b ea eb = eb
and_true false b ea eb = absurd cc

falses : (a b : Bool) → (a || b) ≡ false → (a ≡ false) × (b ≡ false)
falses true b e = absurd cc
falses false b e = (refl, e)

or_true : (b : Bool) → (b || true) ≡ true
or_true true = refl
or_true false = refl

chosen : {A : Type 0} (b : Bool) (x : Option A) (a : A) → (if b then x else None) ≡ Some a → (b ≡ true) × (x ≡ Some a)
chosen true x a e = (refl, e)
chosen false x a e = absurd cc

record Mapped {A B : Type 0} (f : A → B) (o : Option A) (b : B) : Type 0 where
  pub a : A
  pub is : o ≡ Some a
  pub to : f a ≡ b

mapped : {A B : Type 0} (f : A → B) (o : Option A) (b : B) → option_map f o ≡ Some b → Mapped f o b
mapped f None b e = absurd cc
mapped f (Some a) b e = record { a = a; is = refl; to = same (f a) b e }

record Bound {A B : Type 0} (f : A → Option B) (o : Option A) (b : B) : Type 0 where
  pub a : A
  pub is : o ≡ Some a
  pub to : f a ≡ Some b

bound : {A B : Type 0} (f : A → Option B) (o : Option A) (b : B) → option_and_then f o ≡ Some b → Bound f o b
bound f None b e = absurd cc
bound f (Some a) b e = record { a = a; is = refl; to = e }

-- ---- separators

abbrev Lacks : ℕ → Text → Type 0
Lacks c text = list_any (λ b. b == c) text ≡ false

abbrev AllLack : ℕ → List Text → Type 0
AllLack c parts = AllByRecursion (Lacks c) parts

is_itself : (c : ℕ) → (c == c) ≡ true
is_itself c = grind (arith, nat_tests)

onto_lacks : (c b : ℕ) (parts : List Text) → (b == c) ≡ false → AllLack c parts → AllLack c (onto_first b parts)
onto_lacks c b [] other lack = (ap (λ (x : Bool). x || false) other, tt)
onto_lacks c b (part ∷ more) other lack =
    (ap (λ (x : Bool). x || list_any (λ (d : ℕ). d == c) part) other ∙ lack.0, lack.1)

-- the parts of a text have no separator
split_lacks : (c : ℕ) (text : Text) → AllLack c (split_at c text)
split_lacks c [] = (refl, tt)
split_lacks c (b ∷ text) = go (b == c) refl (split_lacks c text)
  where
    go : (x : Bool) → (b == c) ≡ x → AllLack c (split_at c text)
        → AllLack c (cond x ([] ∷ split_at c text) (onto_first b (split_at c text)))
    go true e lack = (refl, lack)
    go false e lack = onto_lacks c b (split_at c text) e lack

split_before : (c : ℕ) (text rest : Text) → Lacks c text → split_at c (text ++ c ∷ rest) ≡ text ∷ split_at c rest
split_before c [] rest none =
    ap (λ (b : Bool). cond b ([] ∷ split_at c rest) (onto_first c (split_at c rest))) (is_itself c)
split_before c (b ∷ text) rest none =
    let parts = falses (b == c) _ none in
    ap (λ (x : Bool). cond x ([] ∷ split_at c (text ++ c ∷ rest)) (onto_first b (split_at c (text ++ c ∷ rest)))) parts.0
    ∙ ap (onto_first b) (split_before c text rest parts.1)

split_one : (c : ℕ) (text : Text) → Lacks c text → split_at c text ≡ text ∷ []
split_one c [] none = refl
split_one c (b ∷ text) none =
    let parts = falses (b == c) _ none in
    ap (λ (x : Bool). cond x ([] ∷ split_at c text) (onto_first b (split_at c text))) parts.0
    ∙ ap (onto_first b) (split_one c text parts.1)

-- parts that have no separator are the parts of their text
split_joined : (c : ℕ) (parts : List Text) → 0 < length parts → AllLack c parts → split_at c (join_with_byte c parts) ≡ parts
split_joined c [] some lack = absurd (omega (arith, some))
split_joined c (part ∷ []) some lack = split_one c part lack.0
split_joined c (part ∷ next ∷ more) some lack =
    split_before c part (join_with_byte c (next ∷ more)) lack.0
    ∙ ap (λ (l : List Text). part ∷ l) (split_joined c (next ∷ more) (omega arith) lack.1)

lacks_at : (c : ℕ) (text : Text) (k d : ℕ) → Lacks c text → k < length text → (get_or text k d == c) ≡ false
lacks_at c [] k d none lt = absurd (omega (arith, lt))
lacks_at c (b ∷ text) zero d none lt = (falses (b == c) _ none).0
lacks_at c (b ∷ text) (suc k) d none lt = lacks_at c text k d (falses (b == c) _ none).1 (omega (arith, lt))

-- ---- a text that is cut at its first equals sign

abbrev equals : ℕ → Bool
equals b = b == 61

abbrev first_equals : Text → ℕ
first_equals text = position_or_len equals text

inside : (text : Text) → list_any equals text ≡ true → first_equals text < length text
inside text some = go (nat_lt (first_equals text) (length text)) refl
  where
    go : (b : Bool) → nat_lt (first_equals text) (length text) ≡ b → first_equals text < length text
    go true e = grind (arith, nat_tests)
    go false e =
        let past : length text ≤ first_equals text = grind (arith, nat_tests) in
        let none : list_any equals text ≡ false = list_any_none equals text (λ k d lt. fails_before_first equals text k d (omega (arith, lt, past))) in
        let bad : true ≡ false = sym some ∙ none in
        absurd cc

cut_whole : (text : Text) → list_any equals text ≡ true → text ≡ before_first equals text ++ 61 ∷ after_first equals text
cut_whole text some =
    let there = inside text some in
    let passes : (get_or text (first_equals text) 0 == 61) ≡ true = passes_at_first equals text 0 there in
    let is : get_or text (first_equals text) 0 ≡ 61 = grind (arith, nat_tests) in
    split_at_first equals text 0 there ∙ ap (λ (b : ℕ). before_first equals text ++ b ∷ after_first equals text) is

cut_plain : (text : Text) → Lacks 61 (before_first equals text)
cut_plain text = list_any_none equals (before_first equals text) (λ k d lt. plain k d (within k lt))
  where
    within : (k : ℕ) → k < length (before_first equals text) → k < first_equals text
    within k lt = omega (arith, length-take (first_equals text) text, lt)

    plain : (k d : ℕ) → k < first_equals text → equals (get_or (before_first equals text) k d) ≡ false
    plain k d lt = ap equals (get_or-take (first_equals text) text k d lt) ∙ fails_before_first equals text k d lt

module _ (agent place : Text) (none : Lacks 61 agent) where
  first_is : first_equals (agent ++ 61 ∷ place) ≡ length agent
  first_is =
      position_or_len_is equals (agent ++ 61 ∷ place) (length agent) 0 (omega (arith, length-append agent (61 ∷ place)))
      (λ k lt. ap equals (get_or_append_left agent (61 ∷ place) 0 k lt) ∙ lacks_at 61 agent k 0 none lt)
      (λ lt. ap equals (get_or-append_seam agent 61 place 0))

  front_is : before_first equals (agent ++ 61 ∷ place) ≡ agent
  front_is = ap (λ (n : ℕ). take n (agent ++ 61 ∷ place)) first_is ∙ take-append_seam agent (61 ∷ place)

  back_is : after_first equals (agent ++ 61 ∷ place) ≡ place
  back_is = ap (λ (n : ℕ). drop (n + 1) (agent ++ 61 ∷ place)) first_is ∙ drop-append-add agent (61 ∷ place) 1

  some_is : list_any equals (agent ++ 61 ∷ place) ≡ true
  some_is = list_any-append equals agent (61 ∷ place) ∙ or_true (list_any equals agent)

-- ---- a route

abbrev placed : Option AgentAddress → Text → Route
placed a p = record { agent = a; place = p }

route_says : (text : Text) (route : Route) → route_in text ≡ Some route → SaysRoute text route
route_says text route e =
    let cut = chosen (list_any equals text) (route_of (before_first equals text) (after_first equals text)) route e in
    let b = bound (λ (a : Option AgentAddress). option_map (placed a) (place_in (after_first equals text))) (agent_in (before_first equals text)) route cut.1 in
    let m = mapped (placed b.a) (place_in (after_first equals text)) route b.to in
    let p = chosen (is_between 1 64 (length (after_first equals text))) (Some (after_first equals text)) m.a m.is in
    let place_is : after_first equals text ≡ route.place = same (after_first equals text) m.a p.1 ∙ ap (λ (r : Route). r.place) m.to in
    record {
      agent = before_first equals text;
      whole = cut_whole text cut.0 ∙ ap (λ (l : Text). before_first equals text ++ 61 ∷ l) place_is;
      says = b.is ∙ ap (λ (r : Route). Some r.agent) m.to;
      plain = cut_plain text;
      fits = ap (λ (l : Text). is_between 1 64 (length l)) (sym place_is) ∙ p.0;
    }

route_reads : (text : Text) (route : Route) → SaysRoute text route → route_in text ≡ Some route
route_reads text route s =
    ap route_in s.whole
    ∙ ap (λ (b : Bool). if b then route_of (before_first equals (s.agent ++ 61 ∷ route.place)) (after_first equals (s.agent ++ 61 ∷ route.place)) else None)
    (some_is s.agent route.place s.plain)
    ∙ ap (λ (l : Text). route_of l (after_first equals (s.agent ++ 61 ∷ route.place))) (front_is s.agent route.place s.plain)
    ∙ ap (λ (l : Text). route_of s.agent l) (back_is s.agent route.place s.plain)
    ∙ ap (option_and_then (λ (a : Option AgentAddress). option_map (placed a) (place_in route.place))) s.says
    ∙ ap (λ (b : Bool). option_map (placed route.agent) (if b then Some route.place else None)) s.fits

-- ---- routes

each_said : (texts : List Text) (routes : List Route) → each_in route_in texts ≡ Some routes → AllZip SaysRoute texts routes
each_said [] routes e = subst (λ (l : List Route). AllZip SaysRoute [] l) (same [] routes e) tt
each_said (text ∷ more) routes e =
    let b = bound (λ (r : Route). option_map (λ (others : List Route). r ∷ others) (each_in route_in more)) (route_in text) routes e in
    let m = mapped (λ (others : List Route). b.a ∷ others) (each_in route_in more) routes b.to in
    subst (λ (l : List Route). AllZip SaysRoute (text ∷ more) l) m.to (route_says text b.a b.is, each_said more m.a m.is)

each_reads : (texts : List Text) (routes : List Route) → AllZip SaysRoute texts routes → each_in route_in texts ≡ Some routes
each_reads [] [] said = refl
each_reads [] (r ∷ routes) said = absurd said
each_reads (text ∷ more) [] said = absurd said
each_reads (text ∷ more) (r ∷ routes) (first, rest) =
    ap (option_and_then (λ (a : Route). option_map (λ (others : List Route). a ∷ others) (each_in route_in more))) (route_reads text r first)
    ∙ ap (option_map (λ (others : List Route). r ∷ others)) (each_reads more routes rest)

some_parts : (text : Text) → 0 < length (split_at 59 text)
some_parts text = omega (arith, length-slice_split (λ (b : ℕ). b == 59) text)

pub said_by : (text : Text) (routes : List Route) → routes_in text ≡ Some routes → SaysRoutes text routes
said_by text routes e =
    let b = bound (λ (l : List Route). if nat_le (length l) 8 then Some l else None) (each_in route_in (split_at 59 text)) routes e in
    let few = chosen (nat_le (length b.a) 8) (Some b.a) routes b.to in
    let is : b.a ≡ routes = same b.a routes few.1 in
    let each = each_said (split_at 59 text) routes (b.is ∙ ap (λ (l : List Route). Some l) is) in
    let long : length routes ≡ length (split_at 59 text) = AllZip-long SaysRoute (split_at 59 text) routes each in
    let some = some_parts text in
    let least : 1 ≤ length routes = omega arith in
    record {
      parts = split_at 59 text;
      whole = sym (join_with_byte-slice_split 59 text);
      apart = split_lacks 59 text;
      each = each;
      many = and_true (nat_le 1 (length routes)) (nat_le (length routes) 8) (at_least (length routes) least)
          (ap (λ (l : List Route). nat_le (length l) 8) (sym is) ∙ few.0);
    }
  where
    at_least : (n : ℕ) → 1 ≤ n → nat_le 1 n ≡ true
    at_least n le = grind (arith, nat_tests)

pub read_as : (text : Text) (routes : List Route) → SaysRoutes text routes → routes_in text ≡ Some routes
read_as text routes s =
    let counts = both_true (nat_le 1 (length routes)) (nat_le (length routes) 8) s.many in
    let least = at_least (length routes) counts.0 in
    let long : length routes ≡ length s.parts = AllZip-long SaysRoute s.parts routes s.each in
    let some : 0 < length s.parts = omega arith in
    ap routes_in s.whole
    ∙ ap (λ (l : List Text). where_true (λ (r : List Route). nat_le (length r) 8) (each_in route_in l)) (split_joined 59 s.parts some s.apart)
    ∙ ap (where_true (λ (r : List Route). nat_le (length r) 8)) (each_reads s.parts routes s.each)
    ∙ ap (λ (b : Bool). if b then Some routes else None) counts.1
  where
    at_least : (n : ℕ) → nat_le 1 n ≡ true → 1 ≤ n
    at_least n e = grind (arith, nat_tests)

pub one_said : (text : Text) (routes others : List Route) → SaysRoutes text routes → SaysRoutes text others → routes ≡ others
one_said text routes others a b = same routes others (sym (read_as text routes a) ∙ read_as text others b)
