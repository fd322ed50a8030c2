-- A window over true numbers, with one number more.
use Rattle.std.proofs.Common.{◌≡◌, ◌≢◌, ◌∙◌, ◌≤◌, ◌<◌, ◌+◌, ◌-◌, ◌*◌, ◌/◌, ◌%◌, ℕ, suc, inl, inr, Bool, true, false, cond, ◌&&◌, ◌||◌, Option, Some, None, List, [], ◌∷◌, ℤ, pos, ◌-ℤ◌, ◌≤ℤ◌, ◌<ℤ◌, refl, sym, ap, subst, arith}
use Rattle.std.specs.Prelude.{◌==◌, nat_le, int_le}
use Rattle.std.specs.Ordering.{int_eq}
use Rattle.std.specs.Int.{int_max}
use Rattle.std.proofs.Math.Nat.{mul-le-mul_left}
use Rattle.std.proofs.lemmas.Int.{ints, clamps}
use Rattle.std.proofs.lemmas.Option.{same_Some}
use Rattle.std.proofs.lemmas.Bool.{cases_lt, cases_Bool, or_cases, eqb-true, eqb-false, eq-eqb, ne_eqb, false≢true}
use Rattle.std.proofs.lemmas.Bool.Decides.{Decides-and, Decides-like, same_from_decides}
use Rattle.count_spec.specs.Windows.{greatest, has}
use Rattle.count_spec.proofs.Integers.{int_eq-same, int_eq-other}
use Rattle.count_spec.proofs.Sets.{or-right, has-greatest-bound}
use Rattle.account_spec.specs.TrueNumbers.{is_late, in_time}
use Rattle.trial_spec.proofs.Tests.{decides-le, decides-int_le}
use Rattle.trial_premises.specs.ByIndex.{kept}
use Rattle.trial_premises.specs.Newest.{as_int, greatest_of, newer_of}
use Rattle.trial_premises.specs.Window.{WindowState, is_behind, is_kept, StandsFor}
use Rattle.trial_premises.proofs.Numbers.{greatest-more}

-- ---- what is late

behind-some : (w m n : ℕ) → (nat_le n m && nat_le w (m - n)) ≡ int_le (pos n) (pos m -ℤ pos w)
behind-some w m n = same_from_decides (nat_le n m && nat_le w (m - n)) (int_le (pos n) (pos m -ℤ pos w))
    (Decides-and (nat_le n m) (nat_le w (m - n)) (decides-le n m) (decides-le w (m - n)))
    (Decides-like (int_le (pos n) (pos m -ℤ pos w)) back forth (decides-int_le (pos n) (pos m -ℤ pos w)))
  where
    back : pos n ≤ℤ (pos m -ℤ pos w) → (n ≤ m) × (w ≤ m - n)
    back h = (omega (arith, ints), omega (arith, ints))

    forth : (n ≤ m) × (w ≤ m - n) → pos n ≤ℤ (pos m -ℤ pos w)
    forth h = let a : n ≤ m = h.0 in let b : w ≤ m - n = h.1 in omega (arith, ints)

pub behind-is : (w : ℕ) (o : Option ℕ) (ns : List ℤ) (n : ℕ) → as_int o ≡ greatest_of ns
    → is_behind w o n ≡ is_late w ns (pos n)
behind-is w None [] n e = refl
behind-is w None (m ∷ more) n e = absurd cc
behind-is w (Some m) [] n e = absurd cc
behind-is w (Some m) (k ∷ more) n e =
    let same : pos m ≡ greatest (k ∷ more) = same_Some (pos m) (greatest (k ∷ more)) e in
    behind-some w m n ∙ ap (λ (g : ℤ). int_le (pos n) (g -ℤ pos w)) same

-- a late number leaves all as it is
pub window-stays : (s : WindowState) (n : ℕ) (ns : List ℤ) → is_late s.width ns (pos n) ≡ true → StandsFor s ns
    → StandsFor s (pos n ∷ ns)
window-stays s n [] late st = absurd (false≢true late)
window-stays s n (m ∷ more) late st =
    let low : pos n ≤ℤ (greatest (m ∷ more) -ℤ pos s.width) =
    (decides-int_le (pos n) (greatest (m ∷ more) -ℤ pos s.width)).0 late in
    let top : int_max (pos n) (greatest (m ∷ more)) ≡ greatest (m ∷ more) = omega (arith, ints, clamps) in
    record {
      newest_is = st.newest_is ∙ ap Some (sym top);
      counted_are = λ k in_time_now.
          st.counted_are k (ap (λ (g : ℤ). int_le (pos k) (g -ℤ pos s.width)) (sym top) ∙ in_time_now)
          ∙ ap (λ (b : Bool). has (cond b (in_time s.width (m ∷ more)) (pos n ∷ in_time s.width (m ∷ more))) (pos k))
          (sym late);
    }

-- ---- what is counted

-- what is in time was delivered
in_time-has : (w : ℕ) (ns : List ℤ) (k : ℤ) → has (in_time w ns) k ≡ true → has ns k ≡ true
in_time-has w [] k e = e
in_time-has w (n ∷ before) k e = go (is_late w before n) e (in_time-has w before k)
  where
    go : (b : Bool) → has (cond b (in_time w before) (n ∷ in_time w before)) k ≡ true
        → (has (in_time w before) k ≡ true → has before k ≡ true) → (int_eq n k || has before k) ≡ true
    go true h later = or-right (int_eq n k) (has before k) (later h)
    go false h later = elim (or_cases (int_eq n k) (has (in_time w before) k) h) [
      | inl same ↦ ap (λ (b : Bool). b || has before k) same
      | inr rest ↦ or-right (int_eq n k) (has before k) (later rest)
    ]

-- numbers of one slot that aren't one are a width apart
apart-by : (w n k : ℕ) → 1 ≤ w → n % w ≡ k % w → n ≢ k → n < k + w → n + w ≤ k
apart-by w n k wide same apart near = elim (cases_lt (n / w) (k / w)) [
  | inl less ↦
      let m : w * suc (n / w) ≤ w * (k / w) = mul-le-mul_left w (omega arith) in
      omega (arith, m)
  | inr not_less ↦ elim (cases_lt (k / w) (n / w)) [
    | inl more ↦
        let m : w * suc (k / w) ≤ w * (n / w) = mul-le-mul_left w (omega arith) in
        absurd (omega (arith, m))
    | inr not_more ↦
        let q : n / w ≡ k / w = omega arith in
        let e : w * (n / w) ≡ w * (k / w) = ap (λ (x : ℕ). w * x) q in
        absurd (apart (omega (arith, e)))
  ]
]

-- none above the greatest was counted
above-none : (w : ℕ) (ns : List ℤ) (k : ℤ) → ((m : ℤ) (more : List ℤ) → ns ≡ m ∷ more → greatest (m ∷ more) <ℤ k)
    → has (in_time w ns) k ≡ false
above-none w [] k above = refl
above-none w (m ∷ more) k above = elim (cases_Bool (has (in_time w (m ∷ more)) k)) [
  | inl there ↦
      let low : k ≤ℤ greatest (m ∷ more) = has-greatest-bound m more k (in_time-has w (m ∷ more) k there) in
      let high : greatest (m ∷ more) <ℤ k = above m more refl in
      absurd (omega (arith, ints, low, high))
  | inr none ↦ none
]

-- a number that isn't late is above the greatest less the width
not-late : (w : ℕ) (n m : ℤ) (more : List ℤ) → is_late w (m ∷ more) n ≡ false → (greatest (m ∷ more) -ℤ pos w) <ℤ n
not-late w n m more e = elim (cases_Bool (int_le n (greatest (m ∷ more) -ℤ pos w))) [
  | inl late ↦ absurd (false≢true (sym e ∙ late))
  | inr in_time_now ↦ omega (arith, ints)
]

module _ (s : WindowState) (now : List (Option ℕ)) (n : ℕ) (ns : List ℤ) (wide : 1 ≤ s.width)
    (early : is_late s.width ns (pos n) ≡ false)
    (slots : (i : ℕ) → kept now i ≡ cond (n % s.width == i) (Some n) (kept s.slots i)) (st : StandsFor s ns) where
  -- the number itself
  counts-it : (k : ℕ) → n ≡ k → is_kept (kept now (k % s.width)) k ≡ (int_eq (pos n) (pos k) || has (in_time s.width ns) (pos k))
  counts-it k e =
      let slot : n % s.width ≡ k % s.width = ap (λ (x : ℕ). x % s.width) e in
      ap (λ (o : Option ℕ). is_kept o k)
      (slots (k % s.width) ∙ ap (λ (b : Bool). cond b (Some n) (kept s.slots (k % s.width)))
      (eq-eqb (n % s.width) (k % s.width) slot))
      ∙ eq-eqb n k e
      ∙ ap (λ (b : Bool). b || has (in_time s.width ns) (pos k))
      (sym (ap (λ (x : ℕ). int_eq (pos x) (pos k)) e ∙ int_eq-same (pos k)))

  -- a number that was late before is late still
  before-late : (k : ℕ) → is_late s.width (pos n ∷ ns) (pos k) ≡ false → is_late s.width ns (pos k) ≡ false
  before-late k h = go ns h
    where
      go : (ms : List ℤ) → is_late s.width (pos n ∷ ms) (pos k) ≡ false → is_late s.width ms (pos k) ≡ false
      go [] e = refl
      go (m ∷ more) e =
          let above : (greatest (pos n ∷ m ∷ more) -ℤ pos s.width) <ℤ pos k = not-late s.width (pos k) (pos n) (m ∷ more) e in
          let top : greatest (m ∷ more) ≤ℤ greatest (pos n ∷ m ∷ more) = omega (arith, ints, clamps) in
          elim (cases_Bool (int_le (pos k) (greatest (m ∷ more) -ℤ pos s.width))) [
            | inl late ↦
                let low : pos k ≤ℤ (greatest (m ∷ more) -ℤ pos s.width) =
                (decides-int_le (pos k) (greatest (m ∷ more) -ℤ pos s.width)).0 late in
                absurd (omega (arith, ints, above, top, low))
            | inr fine ↦ fine
          ]

  -- another number of its slot was never counted
  shares : (k : ℕ) → n ≢ k → n % s.width ≡ k % s.width → is_late s.width (pos n ∷ ns) (pos k) ≡ false
      → has (in_time s.width ns) (pos k) ≡ false
  shares k apart slot h = above-none s.width ns (pos k) (λ m more is.
      let early_of : is_late s.width (m ∷ more) (pos n) ≡ false =
      subst (λ (ms : List ℤ). is_late s.width ms (pos n) ≡ false) is early in
      let late_of : is_late s.width (pos n ∷ m ∷ more) (pos k) ≡ false =
      subst (λ (ms : List ℤ). is_late s.width (pos n ∷ ms) (pos k) ≡ false) is h in
      let a : (greatest (m ∷ more) -ℤ pos s.width) <ℤ pos n = not-late s.width (pos n) m more early_of in
      let b : (greatest (pos n ∷ m ∷ more) -ℤ pos s.width) <ℤ pos k = not-late s.width (pos k) (pos n) (m ∷ more) late_of in
      let top : pos n ≤ℤ greatest (pos n ∷ m ∷ more) = omega (arith, ints, clamps) in
      let near : n < k + s.width = omega (arith, ints, b, top) in
      let far : n + s.width ≤ k = apart-by s.width n k wide slot apart near in
      omega (arith, ints, a, far))

  counts-other : (k : ℕ) → n ≢ k → is_late s.width (pos n ∷ ns) (pos k) ≡ false
      → is_kept (kept now (k % s.width)) k ≡ has (in_time s.width ns) (pos k)
  counts-other k apart h =
      ap (λ (o : Option ℕ). is_kept o k) (slots (k % s.width)) ∙ go (n % s.width == k % s.width) refl
    where
      go : (b : Bool) → (n % s.width == k % s.width) ≡ b
          → is_kept (cond b (Some n) (kept s.slots (k % s.width))) k ≡ has (in_time s.width ns) (pos k)
      go true e = ne_eqb n k apart ∙ sym (shares k apart (eqb-true (n % s.width) (k % s.width) e) h)
      go false e = st.counted_are k (before-late k h)

  int_apart : (k : ℕ) → n ≢ k → pos n ≢ pos k
  int_apart k apart same = apart (omega (arith, ints, same))

  pub window-counts : StandsFor (record { width = s.width; newest = Some (newer_of s.newest n); slots = now }) (pos n ∷ ns)
  window-counts = record {
    newest_is = greatest-more s.newest n ns st.newest_is;
    counted_are = λ k h. counted k h (n == k) refl
        ∙ ap (λ (b : Bool). has (cond b (in_time s.width ns) (pos n ∷ in_time s.width ns)) (pos k)) (sym early);
  }
    where
      counted : (k : ℕ) → is_late s.width (pos n ∷ ns) (pos k) ≡ false → (b : Bool) → (n == k) ≡ b
          → is_kept (kept now (k % s.width)) k ≡ (int_eq (pos n) (pos k) || has (in_time s.width ns) (pos k))
      counted k h true e = counts-it k (eqb-true n k e)
      counted k h false e =
          let apart : n ≢ k = eqb-false n k e in
          counts-other k apart h
          ∙ ap (λ (b : Bool). b || has (in_time s.width ns) (pos k)) (sym (int_eq-other (pos n) (pos k) (int_apart k apart)))

-- none is counted yet
pub window-begins : (width : ℕ) (slots : List (Option ℕ)) → ((i : ℕ) → kept slots i ≡ None)
    → StandsFor (record { width = width; newest = None; slots = slots }) []
window-begins width slots none = record {
  newest_is = refl;
  counted_are = λ k h. ap (λ (o : Option ℕ). is_kept o k) (none (k % width));
}
