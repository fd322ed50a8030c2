-- Deliveries in order of their boots, none of them late: what is delivered of a source, one datagram after the other.
use Rattle.std.proofs.Common.{◌≡◌, ℕ, ◌+◌, ◌<◌, ◌≤◌, inl, inr, Bool, true, false, cond, not, ◌&&◌, List, [], ◌∷◌, ◌++◌, length, map, ℤ, refl, sym, ap, subst, ◌∙◌, arith}
use Rattle.std.specs.Prelude.{◌==◌}
use Rattle.std.specs.List.{filter, sum_by}
use Rattle.std.proofs.lemmas.Bool.{cases_order, eqb-true, ne_eqb}
use Rattle.std.proofs.lemmas.List.Sums.{sum_by-cons}
use Rattle.count_spec.specs.Windows.{has}
use Rattle.count_spec.specs.Stretches.{placed}
use Rattle.count_spec.specs.TrueStretches.{newest_index, true_stretches}
use Rattle.count_spec.specs.declared.stretch_place.StretchPlace.TheVariants.{Current}
use Rattle.count_spec.proofs.TrueStretches.{AreNumbered, true_stretches-step}
use Rattle.books_spec.specs.Items.{SourceId}
use Rattle.books_spec.specs.Listing.{same_id}
use Rattle.books_spec.specs.Books.{onto}
use Rattle.agent_spec.specs.Boots.{IsAmong}
use Rattle.account_spec.specs.Deliveries.{Delivery, boot_of, number_of, numbers_of, id_in}
use Rattle.account_spec.specs.TrueNumbers.{is_late, in_time}
use Rattle.account_spec.specs.Arrivals.{Arrived, is_first_in_time, arrived_from, brought, arrived, arrived_of, source_boots}
use Rattle.account_laws.specs.Distinct.{held_by}
use Rattle.account_laws.proofs.Lists.{filter-onto}
use Rattle.account_laws.proofs.Parts.{all_of, HasCurrent, current, current-all, place-later, place-same}

-- ---- lists

length-onto : {X : Type 0} (xs ys : List X) → length (onto xs ys) ≡ length xs + length ys
length-onto [] ys = omega arith
length-onto (x ∷ xs) ys = let later = length-onto xs (x ∷ ys) in omega (arith, later)

pub among-front : {X : Type 0} (x : X) (xs ys : List X) → IsAmong x xs → IsAmong x (xs ++ ys)
among-front x [] ys h = absurd h
among-front x (y ∷ xs) ys (inl e) = inl e
among-front x (y ∷ xs) ys (inr h) = inr (among-front x xs ys h)

pub among-behind : {X : Type 0} (x : X) (xs ys : List X) → IsAmong x ys → IsAmong x (xs ++ ys)
among-behind x [] ys h = h
among-behind x (y ∷ xs) ys h = inr (among-behind x xs ys h)

-- ---- deliveries in order of their boots, none of them late

abbrev pub AreInTime : ℕ → List Delivery → Type 0
AreInTime w [] = Unit {0}
AreInTime w (d ∷ before) =
    (newest_index boot_of before ≤ boot_of d)
    × (is_late w (numbers_of (all_of boot_of d.boot before)) (number_of d) ≡ false) × AreInTime w before

abbrev pub seen_before : List Delivery → Delivery → Bool
seen_before before d = has (numbers_of (all_of boot_of d.boot before)) (number_of d)

pub none-later : (i : ℕ) (xs : List Delivery) → newest_index boot_of xs < i → all_of boot_of i xs ≡ []
none-later i [] h = refl
none-later i (x ∷ xs) h =
    ap (λ (b : Bool). cond b (x ∷ all_of boot_of i xs) (all_of boot_of i xs)) (ne_eqb (boot_of x) i (λ e. omega arith))
    ∙ none-later i xs (omega arith)

all-in-time : (w i : ℕ) (xs : List Delivery) → AreInTime w xs
    → in_time w (numbers_of (all_of boot_of i xs)) ≡ numbers_of (all_of boot_of i xs)
all-in-time w i [] h = refl
all-in-time w i (d ∷ before) h = go (boot_of d == i) refl (all-in-time w i before h.2)
  where
    rest : List Delivery
    rest = all_of boot_of i before

    go : (b : Bool) → (boot_of d == i) ≡ b → in_time w (numbers_of rest) ≡ numbers_of rest
        → in_time w (numbers_of (cond b (d ∷ rest) rest)) ≡ numbers_of (cond b (d ∷ rest) rest)
    go true e k =
        let late : is_late w (numbers_of rest) (number_of d) ≡ false =
        subst (λ (j : ℕ). is_late w (numbers_of (all_of boot_of j before)) (number_of d) ≡ false) (eqb-true (boot_of d) i e) h.1 in
        ap (λ (b : Bool). cond b (in_time w (numbers_of rest)) (number_of d ∷ in_time w (numbers_of rest))) late
        ∙ ap (λ (ns : List ℤ). number_of d ∷ ns) k
    go false e k = k

-- whether a delivery is the first of its datagram
first-is : (w : ℕ) (d : Delivery) (before : List Delivery) → AreInTime w (d ∷ before)
    → is_first_in_time w (all_of boot_of d.boot before) d ≡ not (seen_before before d)
first-is w d before h =
    let cur : List Delivery = all_of boot_of d.boot before in
    ap (λ (b : Bool). not b && not (has (in_time w (numbers_of cur)) (number_of d))) h.1
    ∙ ap (λ (ns : List ℤ). not (has ns (number_of d))) (all-in-time w d.boot before h.2)

-- ---- what is delivered goes on

abbrev pub new_count : SourceId → List Delivery → Delivery → ℕ
new_count id before d = cond (seen_before before d) 0 (length (held_by id d))

arrived-more : (w : ℕ) (id : SourceId) (d : Delivery) (cur : List Delivery)
    → length (arrived_of w id (d ∷ cur))
    ≡ length (filter (λ (x : Arrived). same_id id (id_in x.sample)) (brought w cur d)) + length (arrived_of w id cur)
arrived-more w id d cur =
    ap (λ (xs : List Arrived). length xs) (filter-onto (λ (x : Arrived). same_id id (id_in x.sample)) (brought w cur d) (arrived w cur))
    ∙ length-onto (filter (λ (x : Arrived). same_id id (id_in x.sample)) (brought w cur d)) (arrived_of w id cur)

brought-count : (w : ℕ) (id : SourceId) (d : Delivery) (before : List Delivery) → AreInTime w (d ∷ before)
    → length (filter (λ (x : Arrived). same_id id (id_in x.sample)) (brought w (all_of boot_of d.boot before) d)) ≡ new_count id before d
brought-count w id d before h =
    ap (λ (b : Bool). length (filter (λ (x : Arrived). same_id id (id_in x.sample)) (cond b (arrived_from d.boot (number_of d) 0 d.datagram.samples) [])))
    (first-is w d before h)
    ∙ go (seen_before before d)
  where
    go : (b : Bool) → length (filter (λ (x : Arrived). same_id id (id_in x.sample)) (cond (not b) (arrived_from d.boot (number_of d) 0 d.datagram.samples) []))
        ≡ cond b 0 (length (held_by id d))
    go true = refl
    go false = refl

abbrev pub delivered_count : ℕ → SourceId → List Delivery → ℕ
delivered_count w id ds = sum_by length (source_boots w id ds)

joins-it : (w : ℕ) (id : SourceId) (d : Delivery) (cur : List Delivery) (closed : List (List Delivery))
    → sum_by length (map (arrived_of w id) ((d ∷ cur) ∷ closed))
    ≡ length (filter (λ (x : Arrived). same_id id (id_in x.sample)) (brought w cur d)) + sum_by length (map (arrived_of w id) (cur ∷ closed))
joins-it w id d cur closed =
    let a = sum_by-cons (λ (s : List Arrived). length s) (arrived_of w id (d ∷ cur)) (map (arrived_of w id) closed) in
    let b = sum_by-cons (λ (s : List Arrived). length s) (arrived_of w id cur) (map (arrived_of w id) closed) in
    let c = arrived-more w id d cur in
    omega (arith, a, b, c)

begins-it : (w : ℕ) (id : SourceId) (d : Delivery) (ss : List (List Delivery))
    → sum_by length (map (arrived_of w id) ((d ∷ []) ∷ ss))
    ≡ length (filter (λ (x : Arrived). same_id id (id_in x.sample)) (brought w [] d)) + sum_by length (map (arrived_of w id) ss)
begins-it w id d ss =
    let a = sum_by-cons (λ (s : List Arrived). length s) (arrived_of w id (d ∷ [])) (map (arrived_of w id) ss) in
    let c = arrived-more w id d [] in
    let none : length (arrived_of w id []) ≡ 0 = refl in
    omega (arith, a, c, none)

pub count-goes-on : (w : ℕ) (id : SourceId) (d : Delivery) (before : List Delivery) → AreNumbered boot_of (d ∷ before)
    → AreInTime w (d ∷ before)
    → delivered_count w id (d ∷ before) ≡ new_count id before d + delivered_count w id before
count-goes-on w id d before numbered h = elim (cases_order (boot_of d) (newest_index boot_of before)) [
  | inl same ↦ on_same before numbered h same
  | inr other ↦ elim other [
    | inl earlier ↦ (let l = h.0 in absurd (omega arith))
    | inr above ↦ on_later above
  ]
]
  where
    on_later : newest_index boot_of before < boot_of d → delivered_count w id (d ∷ before) ≡ new_count id before d + delivered_count w id before
    on_later above =
        ap (λ ss. sum_by length (map (arrived_of w id) ss))
        (true_stretches-step boot_of d before numbered ∙ ap (λ p. placed p d (true_stretches boot_of before)) (place-later boot_of d before above))
        ∙ begins-it w id d (true_stretches boot_of before)
        ∙ ap (λ (cur : List Delivery). length (filter (λ (x : Arrived). same_id id (id_in x.sample)) (brought w cur d)) + delivered_count w id before)
        (sym (none-later d.boot before above))
        ∙ ap (λ (n : ℕ). n + delivered_count w id before) (brought-count w id d before h)

    on_same : (before : List Delivery) → AreNumbered boot_of (d ∷ before) → AreInTime w (d ∷ before) → boot_of d ≡ newest_index boot_of before
        → delivered_count w id (d ∷ before) ≡ new_count id before d + delivered_count w id before
    on_same [] numbered h same = let one : 1 ≤ boot_of d = numbered.0 in absurd (omega arith)
    on_same (e ∷ more) numbered h same =
        let us : List Delivery = e ∷ more in
        let c : HasCurrent boot_of us = current boot_of e more numbered.1 in
        let cur : List Delivery = c.head ∷ c.tail in
        let is : cur ≡ all_of boot_of d.boot us = current-all boot_of us c ∙ ap (λ (i : ℕ). all_of boot_of i us) (sym same) in
        ap (λ ss. sum_by length (map (arrived_of w id) ss))
        (true_stretches-step boot_of d us numbered ∙ ap (λ p. placed p d (true_stretches boot_of us)) (place-same boot_of d us same)
        ∙ ap (λ ss. placed Current d ss) c.are)
        ∙ joins-it w id d cur c.closed
        ∙ (let a = ap (λ (ys : List Delivery). length (filter (λ (x : Arrived). same_id id (id_in x.sample)) (brought w ys d))) is ∙ brought-count w id d us h in
        let b = ap (λ ss. sum_by length (map (arrived_of w id) ss)) (sym c.are) in
        λ j. a j + b j)
