-- Interface counters rise as they truly did.
use Rattle.std.proofs.Common.{◌≡◌, ℕ, ◌+◌, ◌%◌, ◌<◌, ◌≤◌, Bool, true, false, cond, List, [], ◌∷◌, length, map, ℤ, ◌-ℤ◌, refl, sym, ap, ◌∙◌, arith}
use Rattle.std.specs.Prelude.{Option, Some, None, nat_lt, int_lt}
use Rattle.std.specs.Ordering.{int_eq}
use Rattle.std.specs.List.{AllByRecursion, sum_by}
use Rattle.std.proofs.lemmas.Bool.{lt-ltb}
use Rattle.std.proofs.lemmas.List.{length-map}
use Rattle.std.proofs.lemmas.List.Sums.{sum_by-cons}
use Rattle.wire_spec.specs.Shapes.{Tree}
use Rattle.count_spec.specs.Windows.{greatest, least, answer, counted}
use Rattle.count_spec.specs.declared.entered.Entered.{Entered}
use Rattle.count_spec.specs.declared.entered.Entered.TheVariants.{First, Repeat, Late}
use Rattle.count_spec.specs.Rise.{NumberedValue, numbers, value_at, with_value, first_values}
use Rattle.count_spec.specs.CounterRise.{step_between, counter_rise}
use Rattle.count_spec.specs.TrueStretches.{true_stretches}
use Rattle.count_spec.proofs.CounterRises.{counter_rise-is, step-of_32_bits, step-of_64_bits}
use Rattle.books_spec.specs.InterfaceRise.{InterfaceCounters, InterfaceCounter, interface_counters, NumberedCounters, values_of, rise_of, interface_view, interface_shown, with_counters, first_counters}
use Rattle.books_spec.specs.SourceViews.{with_current, joined}
use Rattle.agent_spec.specs.Samples.{Content, Sampled, Counted}
use Rattle.account_spec.specs.Readings.{counters_in}
use Rattle.account_spec.specs.TrueNumbers.{is_late}
use Rattle.account_spec.specs.Arrivals.{Arrived, generation_of, sample_number, sample_numbers}
use Rattle.account_spec.specs.Accounts.{kept, values, difference, differences, generations_of}
use Rattle.account_spec.specs.Truths.{AreCongruent, AgreesWith, RisesSlowly}
use Rattle.account_laws.proofs.Lists.{all-both, all-append, map-on}
use Rattle.account_laws.proofs.Parts.{stretch-all, each-stretch}
use Rattle.account_laws.proofs.Moved.{base}
use Rattle.account_laws.proofs.Orders.{distinct}
use Rattle.account_laws.proofs.Opened.{mark_shown}
use Rattle.account_laws.proofs.Values.{at_counted, kept-all, firsts-are, rise-told, kept-distinct}
use Rattle.account_laws.proofs.Views.{IsGood, HasSome}
use Rattle.account_laws.proofs.Issued.{Carries}
use Rattle.account_laws.proofs.Seen.{carried_in, carried_by}

-- ---- moduli of which steps are told

pub record IsExact (m : ℕ) : Type 0 where
  pub none : 0 % m ≡ 0
  pub twice : (n : ℕ) → (n % m) % m ≡ n % m
  pub exact : (from to : ℕ) → from ≤ to → to < from + m → step_between m (from % m) (to % m) + from ≡ to
  pub same : (a b c d : ℕ) → a % m ≡ c % m → b % m ≡ d % m → step_between m a b ≡ step_between m c d

of_32 : IsExact 4294967296
of_32 = record { none = refl; twice = λ n. omega arith; exact = step-of_32_bits; same = equal }
  where
    equal : (a b c d : ℕ) → a % 4294967296 ≡ c % 4294967296 → b % 4294967296 ≡ d % 4294967296
        → step_between 4294967296 a b ≡ step_between 4294967296 c d
    equal a b c d e f = omega arith

of_64 : IsExact 18446744073709551616
of_64 = record { none = refl; twice = λ n. omega arith; exact = step-of_64_bits; same = equal }
  where
    equal : (a b c d : ℕ) → a % 18446744073709551616 ≡ c % 18446744073709551616 → b % 18446744073709551616 ≡ d % 18446744073709551616
        → step_between 18446744073709551616 a b ≡ step_between 18446744073709551616 c d
    equal a b c d e f = omega arith

all-exact : AllByRecursion (λ (c : InterfaceCounter). IsExact c.modulus) interface_counters
all-exact = (of_64, (of_32, (of_32, (of_32, (of_32, (of_32, (of_32, (of_64, (of_32, (of_32, (of_32, (of_32, (of_32, tt)))))))))))))

-- ---- values that are congruent rise alike

abbrev AreAlike : ℕ → (Arrived → ℕ) → (Arrived → ℕ) → List Arrived → Type 0
AreAlike m v t xs = AllByRecursion (λ (x : Arrived). v x % m ≡ t x % m) xs

module _ (m : ℕ) (e : IsExact m) (v t : Arrived → ℕ) (c : ℤ) where
  abbrev of_v : List Arrived → List NumberedValue
  of_v xs = map (at_counted v c) xs

  abbrev of_t : List Arrived → List NumberedValue
  of_t xs = map (at_counted t c) xs

  numbers-alike : (xs : List Arrived) → numbers (of_v xs) ≡ numbers (of_t xs)
  numbers-alike [] = refl
  numbers-alike (x ∷ xs) = ap (λ (ns : List ℤ). (sample_number x -ℤ c) ∷ ns) (numbers-alike xs)

  value_at-alike : (xs : List Arrived) (n : ℤ) → AreAlike m v t xs → value_at (of_v xs) n % m ≡ value_at (of_t xs) n % m
  value_at-alike [] n h = refl
  value_at-alike (x ∷ xs) n h = go (int_eq (sample_number x -ℤ c) n) (value_at-alike xs n h.1)
    where
      go : (b : Bool) → value_at (of_v xs) n % m ≡ value_at (of_t xs) n % m
          → cond b (v x) (value_at (of_v xs) n) % m ≡ cond b (t x) (value_at (of_t xs) n) % m
      go true k = h.0
      go false k = k

  rise-alike : (xs : List Arrived) → AreAlike m v t xs → counter_rise m (of_v xs) ≡ counter_rise m (of_t xs)
  rise-alike [] h = refl
  rise-alike (x ∷ []) h = refl
  rise-alike (x ∷ y ∷ more) h =
      let us : List Arrived = y ∷ more in
      let n : ℤ = sample_number x -ℤ c in
      let ns = numbers-alike us in
      let later = rise-alike (y ∷ more) h.1 in
      let g : ℤ = greatest (numbers (of_v us)) in
      let b : ℤ = least (numbers (of_v us)) in
      let up : step_between m (value_at (of_v us) g) (v x) ≡ step_between m (value_at (of_t us) (greatest (numbers (of_t us)))) (t x) =
      e.same (value_at (of_v us) g) (v x) (value_at (of_t us) g) (t x) (value_at-alike us g h.1) h.0
      ∙ ap (λ (ks : List ℤ). step_between m (value_at (of_t us) (greatest ks)) (t x)) ns in
      let down : step_between m (v x) (value_at (of_v us) b) ≡ step_between m (t x) (value_at (of_t us) (least (numbers (of_t us)))) =
      e.same (v x) (value_at (of_v us) b) (t x) (value_at (of_t us) b) h.0 (value_at-alike us b h.1)
      ∙ ap (λ (ks : List ℤ). step_between m (t x) (value_at (of_t us) (least ks))) ns in
      λ j. later j + (cond (int_lt (greatest (ns j)) n) (up j) 0 + cond (int_lt n (least (ns j))) (down j) 0)

-- ---- one counter over one generation

-- the samples of a generation carry readings
abbrev pub AllCarry : List Arrived → Type 0
AllCarry xs = AllByRecursion (λ (x : Arrived). Carries x.sample.content) xs

abbrev counters_of : Content → InterfaceCounters
counters_of (Sampled packet) = counters_in (Tree.word 0)
counters_of (Counted reading) = counters_in reading

abbrev pub shown_counters : Arrived → InterfaceCounters
shown_counters x = counters_of x.sample.content

carried-some : (content : Content) → Carries content → carried_in content ≡ Some (counters_of content)
carried-some (Sampled packet) h = absurd h
carried-some (Counted reading) h = refl

values-shown : (counter : InterfaceCounter) (width : ℕ) (xs : List Arrived) → AllCarry xs
    → values_of counter (first_counters mark_shown carried_by width xs)
    ≡ first_values mark_shown (λ (x : Arrived). counter.value (shown_counters x)) width xs
values-shown counter width [] h = refl
values-shown counter width (x ∷ before) h =
    ap (λ (o : Option InterfaceCounters). values_of counter (with_counters (answer width (counted width (map mark_shown before)) (mark_shown x)) o
    (first_counters mark_shown carried_by width before))) (carried-some x.sample.content h.0)
    ∙ go (answer width (counted width (map mark_shown before)) (mark_shown x)) (values-shown counter width before h.1)
  where
    old : List NumberedCounters
    old = first_counters mark_shown carried_by width before

    go : (a : Entered) → values_of counter old ≡ first_values mark_shown (λ (y : Arrived). counter.value (shown_counters y)) width before
        → values_of counter (with_counters a (Some (shown_counters x)) old)
        ≡ with_value a (counter.value (shown_counters x)) (first_values mark_shown (λ (y : Arrived). counter.value (shown_counters y)) width before)
    go (First p n) k = ap (λ (r : List NumberedValue). record { number = n; value = counter.value (shown_counters x) } ∷ r) k
    go Repeat k = k
    go Late k = k

kept-alike : (m : ℕ) (v t : Arrived → ℕ) (width : ℕ) (xs : List Arrived) → AreAlike m v t xs → AreAlike m v t (kept width xs)
kept-alike m v t width xs h = kept-all (λ (x : Arrived). v x % m ≡ t x % m) width xs h

mod-mod : (m : ℕ) → IsExact m → (n : ℕ) → (n % m) % m ≡ n % m
mod-mod m e n = e.twice n

rise-is : (counter : InterfaceCounter) (value : Arrived → ℕ) (width rate : ℕ) (g : List Arrived) → IsExact counter.modulus
    → IsGood width rate g → AllCarry g
    → AreAlike counter.modulus (λ (x : Arrived). counter.value (shown_counters x)) (λ (x : Arrived). value x % counter.modulus) g
    → RisesSlowly value counter.modulus width g
    → rise_of counter (first_counters mark_shown carried_by width g) ≡ difference value width g
rise-is counter value width rate g e good carry alike slow =
    let m : ℕ = counter.modulus in
    let v : Arrived → ℕ = λ (x : Arrived). counter.value (shown_counters x) in
    let t : Arrived → ℕ = λ (x : Arrived). value x % m in
    let c : ℤ = base (sample_numbers g) in
    let differ = distinct good.generation g good.of good.order in
    ap (counter_rise m) (values-shown counter width g carry ∙ firsts-are v width g good.close differ)
    ∙ rise-alike m e v t c (kept width g) (kept-alike m v t width g alike)
    ∙ sym (ap (counter_rise m) (firsts-are t width g good.close differ))
    ∙ rise-told m value good.generation width g good.of good.order good.close
    (counter_rise-is m e.exact e.none (values value (kept width g)) (kept-distinct value good.generation width g good.of good.order)
    slow.monotone slow.less)

-- ---- over all generations

plus : (a b c d : ℕ) → a ≡ b → c ≡ d → a + c ≡ b + d
plus a b c d e f = omega arith

-- what is known of each generation
pub record IsTrue (truth : Arrived → InterfaceCounters) (g : List Arrived) : Type 0 where
  pub carry : AllCarry g
  pub agree : AllByRecursion (λ (x : Arrived). AgreesWith (truth x) x.sample.content) g

congruent-of : (truth : Arrived → InterfaceCounters) (x : Arrived) → Carries x.sample.content → AgreesWith (truth x) x.sample.content
    → AreCongruent (truth x) (shown_counters x)
congruent-of truth x = go x.sample.content
  where
    go : (content : Content) → Carries content → AgreesWith (truth x) content → AreCongruent (truth x) (counters_of content)
    go (Sampled packet) k a = absurd k
    go (Counted reading) k a = a

module _ (truth : Arrived → InterfaceCounters) (width rate : ℕ) where
  abbrev of_counter : InterfaceCounter → Arrived → ℕ
  of_counter c x = c.value (truth x)

  -- a fact of one counter, of the facts of all
  abbrev Each : (InterfaceCounter → Type 0) → Type 0
  Each P = AllByRecursion P interface_counters

  rises-are : (c : InterfaceCounter) → IsExact c.modulus
      → ((x : Arrived) → AreCongruent (truth x) (shown_counters x) → c.value (truth x) % c.modulus ≡ c.value (shown_counters x) % c.modulus)
      → (gs : List (List Arrived)) → AllByRecursion (IsGood width rate) gs → AllByRecursion (IsTrue truth) gs
      → AllByRecursion (RisesSlowly (of_counter c) c.modulus width) gs
      → sum_by (rise_of c) (map (first_counters mark_shown carried_by width) gs) ≡ differences (of_counter c) width gs
  rises-are c e pick [] good true_ slow = refl
  rises-are c e pick (g ∷ gs) good true_ slow =
      sum_by-cons (rise_of c) (first_counters mark_shown carried_by width g) (map (first_counters mark_shown carried_by width) gs)
      ∙ plus (rise_of c (first_counters mark_shown carried_by width g)) (difference (of_counter c) width g)
      (sum_by (rise_of c) (map (first_counters mark_shown carried_by width) gs)) (differences (of_counter c) width gs)
      (rise-is c (of_counter c) width rate g e good.0 true_.0.carry
      (all-both (λ (x : Arrived). Carries x.sample.content) (λ (x : Arrived). AgreesWith (truth x) x.sample.content)
      (λ (x : Arrived). c.value (shown_counters x) % c.modulus ≡ (c.value (truth x) % c.modulus) % c.modulus)
      (λ x k a. sym (pick x (congruent-of truth x k a)) ∙ sym (mod-mod c.modulus e (c.value (truth x)))) g true_.0.carry true_.0.agree)
      slow.0)
      (rises-are c e pick gs good.1 true_.1 slow.1)
      ∙ sym (sum_by-cons (difference (of_counter c) width) g gs)

  -- ---- how many came in time

  kept-count : (g : List Arrived) → IsGood width rate g → AllCarry g
      → length (first_counters mark_shown carried_by width g) ≡ length (kept width g)
  kept-count g good carry =
      let c : InterfaceCounter = record { value = λ (k : InterfaceCounters). k.in_octets; modulus = 4294967296 } in
      let v : Arrived → ℕ = λ (x : Arrived). c.value (shown_counters x) in
      sym (length-map (first_counters mark_shown carried_by width g) (λ (s : NumberedCounters). record { number = s.number; value = c.value s.counters }))
      ∙ ap length (values-shown c width g carry ∙ firsts-are v width g good.close (distinct good.generation g good.of good.order))
      ∙ length-map (kept width g) (at_counted v (base (sample_numbers g)))

  counts-are : (gs : List (List Arrived)) → AllByRecursion (IsGood width rate) gs → AllByRecursion (IsTrue truth) gs
      → sum_by length (map (first_counters mark_shown carried_by width) gs) ≡ sum_by (λ (g : List Arrived). length (kept width g)) gs
  counts-are [] good true_ = refl
  counts-are (g ∷ gs) good true_ =
      sum_by-cons (λ (s : List NumberedCounters). length s) (first_counters mark_shown carried_by width g) (map (first_counters mark_shown carried_by width) gs)
      ∙ plus (length (first_counters mark_shown carried_by width g)) (length (kept width g))
      (sum_by length (map (first_counters mark_shown carried_by width) gs)) (sum_by (λ (h : List Arrived). length (kept width h)) gs)
      (kept-count g good.0 true_.0.carry) (counts-are gs good.1 true_.1)
      ∙ sym (sum_by-cons (λ (h : List Arrived). length (kept width h)) g gs)

  some-kept : (x : Arrived) (before : List Arrived) → 1 ≤ length (kept width (x ∷ before))
  some-kept x [] = omega arith
  some-kept x (y ∷ more) = go (is_late width (sample_numbers (y ∷ more)) (sample_number x)) (some-kept y more)
    where
      go : (b : Bool) → 1 ≤ length (kept width (y ∷ more)) → 1 ≤ length (cond b (kept width (y ∷ more)) (x ∷ kept width (y ∷ more)))
      go true h = h
      go false h = omega arith

  some-in-time : (gs : List (List Arrived)) → HasSome gs → 0 < sum_by (λ (g : List Arrived). length (kept width g)) gs
  some-in-time [] h = absurd h
  some-in-time ([] ∷ gs) h =
      let later = some-in-time gs h in
      let e = sum_by-cons (λ (g : List Arrived). length (kept width g)) [] gs in
      omega (arith, later, e)
  some-in-time ((x ∷ xs) ∷ gs) h =
      let here = some-kept x xs in
      let e = sum_by-cons (λ (g : List Arrived). length (kept width g)) (x ∷ xs) gs in
      omega (arith, here, e)

  -- What is shown of stretches is what truly was
  pub shown-is : (gs : List (List Arrived)) → AllByRecursion (IsGood width rate) gs → AllByRecursion (IsTrue truth) gs → HasSome gs
      → AllByRecursion (λ (c : InterfaceCounter). AllByRecursion (RisesSlowly (of_counter c) c.modulus width) gs) interface_counters
      → interface_shown (map (first_counters mark_shown carried_by width) gs) ≡ Some (record {
        samples = sum_by (λ (g : List Arrived). length (kept width g)) gs;
        rises = map (λ (c : InterfaceCounter). differences (of_counter c) width gs) interface_counters;
      })
  shown-is gs good true_ some slow =
      let n = counts-are gs good true_ in
      let all : AllByRecursion (λ (c : InterfaceCounter). sum_by (rise_of c) (map (first_counters mark_shown carried_by width) gs) ≡ differences (of_counter c) width gs) interface_counters =
      all-both (λ (c : InterfaceCounter). IsExact c.modulus × ((x : Arrived) → AreCongruent (truth x) (shown_counters x) → c.value (truth x) % c.modulus ≡ c.value (shown_counters x) % c.modulus))
      (λ (c : InterfaceCounter). AllByRecursion (RisesSlowly (of_counter c) c.modulus width) gs)
      (λ (c : InterfaceCounter). sum_by (rise_of c) (map (first_counters mark_shown carried_by width) gs) ≡ differences (of_counter c) width gs)
      (λ c e s. rises-are c e.0 e.1 gs good true_ s) interface_counters (known interface_counters all-exact (λ x a. a)) slow in
      let rises = map-on (λ (c : InterfaceCounter). sum_by (rise_of c) (map (first_counters mark_shown carried_by width) gs))
      (λ (c : InterfaceCounter). differences (of_counter c) width gs) interface_counters all in
      ap (λ (b : Bool). cond b (Some (interface_view (map (first_counters mark_shown carried_by width) gs))) None)
      (ap (nat_lt 0) n ∙ lt-ltb 0 (sum_by (λ (g : List Arrived). length (kept width g)) gs) (some-in-time gs some))
      ∙ (λ j. Some (record { samples = n j; rises = rises j }))
    where
      known : (cs : List InterfaceCounter) → AllByRecursion (λ (c : InterfaceCounter). IsExact c.modulus) cs
          → ((x : Arrived) → AreCongruent (truth x) (shown_counters x)
          → AllByRecursion (λ (c : InterfaceCounter). c.value (truth x) % c.modulus ≡ c.value (shown_counters x) % c.modulus) cs)
          → AllByRecursion (λ (c : InterfaceCounter). IsExact c.modulus × ((x : Arrived) → AreCongruent (truth x) (shown_counters x) → c.value (truth x) % c.modulus ≡ c.value (shown_counters x) % c.modulus)) cs
      known [] e f = tt
      known (c ∷ more) e f = ((e.0, λ x a. (f x a).0), known more e.1 (λ x a. (f x a).1))

-- ---- facts of boots are facts of generations

pub over-all : (P : Arrived → Type 0) (boots : List (List Arrived)) → AllByRecursion (AllByRecursion P) boots
    → AllByRecursion (AllByRecursion P) (generations_of boots)
over-all P [] h = tt
over-all P (b ∷ more) h =
    all-append (AllByRecursion P) (with_current (true_stretches generation_of b)) (joined (map (true_stretches generation_of) more))
    (first (true_stretches generation_of b) (one b h.0)) (rest more h.1)
  where
    one : (xs : List Arrived) → AllByRecursion P xs → AllByRecursion (AllByRecursion P) (true_stretches generation_of xs)
    one xs k = each-stretch generation_of (AllByRecursion P) xs (λ i. stretch-all generation_of P i xs k)

    first : (gs : List (List Arrived)) → AllByRecursion (AllByRecursion P) gs → AllByRecursion (AllByRecursion P) (with_current gs)
    first [] k = (tt, tt)
    first (g ∷ gs) k = k

    rest : (bs : List (List Arrived)) → AllByRecursion (AllByRecursion P) bs
        → AllByRecursion (AllByRecursion P) (joined (map (true_stretches generation_of) bs))
    rest [] k = tt
    rest (c ∷ cs) k = all-append (AllByRecursion P) (true_stretches generation_of c) (joined (map (true_stretches generation_of) cs)) (one c k.0) (rest cs k.1)
