-- What is found of the boots and datagrams, and how much there is of each.
use Rattle.std.proofs.Common.{◌≡◌, ◌∙◌, ℕ, zero, suc, ◌+◌, ◌-◌, Bool, true, false, Some, None, List, [], ◌∷◌, ◌++◌, length, reverse, refl, ap, subst, arith}
use Rattle.std.specs.Prelude.{Option, slice_get, ◌==◌, if◌then◌else◌, option_and_then, IfSome, IfNone}
use Rattle.std.specs.List.{sum_by}
use Rattle.std.proofs.lemmas.List.{reverse-append, length-reverse}
use Rattle.std.proofs.lemmas.List.Sums.{sum_by-cons, sum_by-append}
use Rattle.agent_spec.specs.Samples.{Datagram, Setup}
use Rattle.agent_spec.specs.Events.{Event}
use Rattle.agent_spec.specs.Boots.{happened}
use Rattle.agent_spec.specs.Spelled.{Sender}
use Rattle.script_spec.specs.Agents.{numbered}
use Rattle.true_samples.specs.Pairs.{Each}
use Rattle.true_samples.specs.States.{SentState, BootState, TrueState}
use Rattle.true_samples.specs.Samples.{IsSent}
use Rattle.true_samples.specs.Standing.{IsBoot, StandsFor, sent_at, AreSame}
use Rattle.true_samples.proofs.Lists.{each-next, each-length}

-- there is an item on both sides, or on neither
abbrev Both : {A B : Type 0} → (A → B → Type 0) → Option A → Option B → Type 0
Both P None None = Unit {0}
Both P None (Some b) = ⊥
Both P (Some a) None = ⊥
Both P (Some a) (Some b) = P a b

module _ {A B : Type 0} (P : A → B → Type 0) where
  both-get : (xs : List A) (ys : List B) (i : ℕ) → Each P xs ys → Both P (slice_get xs i) (slice_get ys i)
  both-get [] [] i h = tt
  both-get [] (y ∷ ys) i h = absurd h
  both-get (x ∷ xs) [] i h = absurd h
  both-get (x ∷ xs) (y ∷ ys) zero h = h.0
  both-get (x ∷ xs) (y ∷ ys) (suc i) h = both-get xs ys i h.1

  both-numbered : (xs : List A) (ys : List B) (n : ℕ) → Each P xs ys → Both P (numbered xs n) (numbered ys n)
  both-numbered xs ys n h = go (n == 0)
    where
      go : (b : Bool) → Both P (if b then None else slice_get xs (n - 1)) (if b then None else slice_get ys (n - 1))
      go true = tt
      go false = both-get xs ys (n - 1) h

-- what holds of an answer holds of what it stands for
pub when-some : {R X : Type 0} (r : Option R) (now : R → X) (o : Option X) (Q : Option X → Type 0)
    → IfSome r (λ (x : R). o ≡ Some (now x)) → Q o → IfSome r (λ (x : R). Q (Some (now x)))
when-some None now o Q h q = tt
when-some (Some x) now o Q h q = subst Q h q

pub when-none : {R X : Type 0} (r : Option R) (o : Option X) (Q : Option X → Type 0) → IfNone r (o ≡ None) → Q o
    → IfNone r (Q None)
when-none None o Q h q = subst Q h q
when-none (Some x) o Q h q = tt

-- ---- datagrams

module _ (sender : Sender) (s : Setup) where
  same-by : (r : Option SentState) (d : Option Datagram) → Both (IsSent sender s) r d → AreSame sender s r d
  same-by None None h = tt
  same-by None (Some d) h = absurd h
  same-by (Some t) None h = absurd h
  same-by (Some t) (Some d) h = h

  boots-are : (t : TrueState) (events : List Event) (earlier : List (List Event)) → StandsFor sender s t events earlier
      → Each (IsBoot sender s) (t.earlier ++ t.current ∷ []) (reverse (events ∷ earlier))
  boots-are t events earlier st = each-next (IsBoot sender s) t.earlier earlier t.current events st.earlier_are (record {
    sent_are = st.follows.sent_are;
    issued_is = st.follows.issued_is;
    dropped_is = st.follows.dropped_is;
  })

  found-in : (b : Option BootState) (es : Option (List Event)) (number : ℕ) → Both (IsBoot sender s) b es
      → AreSame sender s (option_and_then (λ (x : BootState). numbered x.datagrams number) b)
      (option_and_then (λ (x : List Event). numbered (reverse (happened s x).sent) number) es)
  found-in None None number h = tt
  found-in None (Some es) number h = absurd h
  found-in (Some b) None number h = absurd h
  found-in (Some b) (Some es) number h =
      same-by (numbered b.datagrams number) (numbered (reverse (happened s es).sent) number)
      (both-numbered (IsSent sender s) b.datagrams (reverse (happened s es).sent) number h.sent_are)

  -- what is found in the boot of this number, if there is one
  pub found : (t : TrueState) (events : List Event) (earlier : List (List Event)) (boot number : ℕ)
      → StandsFor sender s t events earlier
      → AreSame sender s (option_and_then (λ (x : BootState). numbered x.datagrams number)
      (numbered (t.earlier ++ t.current ∷ []) boot)) (sent_at s (events ∷ earlier) boot number)
  found t events earlier boot number st =
      found-in (numbered (t.earlier ++ t.current ∷ []) boot) (numbered (reverse (events ∷ earlier)) boot) number
      (both-numbered (IsBoot sender s) (t.earlier ++ t.current ∷ []) (reverse (events ∷ earlier)) boot (boots-are t events earlier st))

-- ---- totals

sum-reverse : {X : Type 0} (f : X → ℕ) (xs : List X) → sum_by f (reverse xs) ≡ sum_by f xs
sum-reverse f [] = refl
sum-reverse {X} f (x ∷ xs) =
    let parts : sum_by f (reverse (x ∷ xs)) ≡ sum_by f (reverse xs) + sum_by f (x ∷ []) =
    ap (sum_by f) (reverse-append (x ∷ []) xs) ∙ sum_by-append f (reverse xs) (x ∷ []) in
    omega (arith, parts, sum_by-cons f x [], sum_by-cons f x xs, sum-reverse f xs)

sums-same : {A B : Type 0} (P : A → B → Type 0) (f : A → ℕ) (g : B → ℕ) (xs : List A) (ys : List B)
    → ((a : A) (b : B) → P a b → f a ≡ g b) → Each P xs ys → sum_by f xs ≡ sum_by g ys
sums-same P f g [] [] to h = refl
sums-same P f g [] (y ∷ ys) to h = absurd h
sums-same P f g (x ∷ xs) (y ∷ ys) to h =
    let e : f x ≡ g y = to x y h.0 in
    let rest : sum_by f xs ≡ sum_by g ys = sums-same P f g xs ys to h.1 in
    omega (arith, e, rest, sum_by-cons f x xs, sum_by-cons g y ys)
sums-same P f g (x ∷ xs) [] to h = absurd h

module _ (sender : Sender) (s : Setup) (t : TrueState) (events : List Event) (earlier : List (List Event))
    (st : StandsFor sender s t events earlier) where
  -- of all boots together
  total : (f : BootState → ℕ) (g : List Event → ℕ) → ((b : BootState) (es : List Event) → IsBoot sender s b es → f b ≡ g es)
      → f t.current + sum_by f t.earlier ≡ sum_by g (events ∷ earlier)
  total f g to =
      let now : f t.current ≡ g events = to t.current events (record {
        sent_are = st.follows.sent_are;
        issued_is = st.follows.issued_is;
        dropped_is = st.follows.dropped_is;
      }) in
      let before : sum_by f t.earlier ≡ sum_by g earlier =
      sums-same (IsBoot sender s) f g t.earlier (reverse earlier) to st.earlier_are ∙ sum-reverse g earlier in
      omega (arith, now, before, sum_by-cons g events earlier)

  pub datagrams-in-all : length t.current.datagrams + sum_by (λ (b : BootState). length b.datagrams) t.earlier
      ≡ sum_by (λ (es : List Event). length (happened s es).sent) (events ∷ earlier)
  datagrams-in-all = total (λ b. length b.datagrams) (λ es. length (happened s es).sent)
      (λ b es h. each-length (IsSent sender s) b.datagrams (reverse (happened s es).sent) h.sent_are
      ∙ length-reverse (happened s es).sent)

  pub issued-in-all : t.current.issued + sum_by (λ (b : BootState). b.issued) t.earlier
      ≡ sum_by (λ (es : List Event). length (happened s es).issued) (events ∷ earlier)
  issued-in-all = total (λ b. b.issued) (λ es. length (happened s es).issued) (λ b es h. h.issued_is)

  pub dropped-in-all : t.current.dropped + sum_by (λ (b : BootState). b.dropped) t.earlier
      ≡ sum_by (λ (es : List Event). length (happened s es).dropped) (events ∷ earlier)
  dropped-in-all = total (λ b. b.dropped) (λ es. length (happened s es).dropped) (λ b es h. h.dropped_is)
