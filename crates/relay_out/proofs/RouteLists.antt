-- Routes, one after the other.
use Rattle.std.proofs.Common.{◌≡◌, ◌∙◌, ◌<◌, ◌≤◌, Bool, true, false, List, [], ◌∷◌, ◌++◌, Option, Some, None, Result, Ok, Err, length, refl, ap, sym, arith, append_assoc, length-append, if◌then◌else◌, nat_le}
use Rattle.std.specs.Prelude.{option_map, option_and_then, OnErr, is_err}
use Rattle.std.proofs.lemmas.Bool.Decides.{nat_tests}
use Rattle.std.proofs.lemmas.List.{append-nil}
use Rattle.script_spec.specs.Words.{Text, where_true}
use Rattle.script_spec.specs.Values.{each_in}
use Rattle.relay_out.specs.Routes.{Route, route_in}

abbrev pub said : List Text → Option (List Route)
said texts = each_in route_in texts

abbrev pub few : List Route → Bool
few routes = nat_le (length routes) 8

abbrev pub behind : List Route → Option (List Route) → Option (List Route)
behind items o = option_map (λ (more : List Route). items ++ more) o

pub behind_nothing : (o : Option (List Route)) → o ≡ behind [] o
behind_nothing None = refl
behind_nothing (Some more) = refl

behind_more : (items : List Route) (r : Route) (o : Option (List Route))
    → behind items (option_map (λ (more : List Route). r ∷ more) o) ≡ behind (items ++ r ∷ []) o
behind_more items r None = refl
behind_more items r (Some more) = ap Some (rw append_assoc refl)

within : (l : List Route) → length l ≤ 8 → where_true few (Some l) ≡ Some l
within l small = go (nat_le (length l) 8) refl
  where
    go : (b : Bool) → nat_le (length l) 8 ≡ b → (if b then Some l else None) ≡ Some l
    go true is = refl
    go false is = absurd (grind (arith, nat_tests))

beyond : (l : List Route) → 8 < length l → where_true few (Some l) ≡ None
beyond l large = go (nat_le (length l) 8) refl
  where
    go : (b : Bool) → nat_le (length l) 8 ≡ b → (if b then Some l else None) ≡ None
    go true is = absurd (grind (arith, nat_tests))
    go false is = refl

-- no part is left
pub all_said : (all parts : List Text) (items : List Route) → said all ≡ behind items (said parts) → parts ≡ []
    → length items ≤ 8 → Some items ≡ where_true few (said all)
all_said all parts items read none small =
    sym (ap (where_true few) (read ∙ ap (λ (l : List Text). behind items (said l)) none ∙ ap Some (append-nil items)) ∙ within items small)

module _ (all parts more : List Text) (text : Text) (items : List Route)
    (read : said all ≡ behind items (said parts)) (first : parts ≡ text ∷ more) where
  step : (o : Option Route) → route_in text ≡ o
      → said all ≡ behind items (option_and_then (λ r. option_map (λ (others : List Route). r ∷ others) (said more)) o)
  step o is =
      read ∙ ap (λ (l : List Text). behind items (said l)) first
      ∙ ap (λ (p : Option Route). behind items (option_and_then (λ r. option_map (λ (others : List Route). r ∷ others) (said more)) p)) is

  pub route_step : (r : Route) → route_in text ≡ Some r → said all ≡ behind (items ++ r ∷ []) (said more)
  route_step r is = step (Some r) is ∙ behind_more items r (said more)

  pub route_stops : route_in text ≡ None → where_true few (said all) ≡ None
  route_stops is = ap (where_true few) (step None is)

  long : (r : Route) (o : Option (List Route)) → length items ≡ 8 → where_true few (behind (items ++ r ∷ []) o) ≡ None
  long r None full = refl
  long r (Some others) full =
      beyond _ (omega (arith, length-append (items ++ r ∷ []) others, length-append items (r ∷ [])))

  -- more routes than there is room for
  pub route_long : (r : Route) → route_in text ≡ Some r → length items ≡ 8 → where_true few (said all) ≡ None
  route_long r is full = ap (where_true few) (route_step r is) ∙ long r (said more) full

-- what a failed push leaves
pub at_err : {T E : Type 0} (r : Result T E) (P : Type 0) → OnErr r P → is_err r ≡ true → P
at_err (Ok x) P h e = absurd cc
at_err (Err x) P h e = h
