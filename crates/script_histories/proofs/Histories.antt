-- What lawful lines say is a history, in which each sub-agent is found by its stream.
use Rattle.std.proofs.Common.{◌≡◌, ◌∙◌, ◌==◌, ◌++◌, inl, inr, ℕ, Bool, true, false, not, cond, List, [], ◌∷◌, map, reverse, find, is_some, Option, Some, None, refl, ap, sym, subst, slice_get, option_map}
use Rattle.std.specs.List.{AllByRecursion, cons_option}
use Rattle.std.proofs.lemmas.Bool.{and_parts, eqb-true, eq-eqb, false_from_ne_true, or_left, or_right, true≢false}
use Rattle.std.proofs.lemmas.Option.{same_Some, slice_get-map}
use Rattle.std.proofs.lemmas.List.{reverse-reverse}
use Rattle.books_spec.specs.Listing.{among, same_address, same_stream, AreDistinct}
use Rattle.books_spec.proofs.Keys.{stream-same}
use Rattle.agent_spec.specs.Boots.{IsAmong, MayHappen}
use Rattle.account_spec.specs.Histories.{stream_in, agent_of, IsSubAgent, IsHistory}
use Rattle.script_spec.specs.Lines.{Line, SubLine, SubAgent}
use Rattle.script_spec.specs.Agents.{AgentBoot, sub_in, subs_in, sub_of, is_of, setup_of, boots_of}
use Rattle.script_spec.specs.Rules.{is_known, may_follow}
use Rattle.script_laws.specs.Lawful.{AreLawful}
use Rattle.script_laws.proofs.Happens.{boots_may}
use Rattle.script_histories.specs.Histories.{agent_in, history_of, stream_of}
use Rattle.script_histories.proofs.Lists.{among_at, all_map, all_turned, distinct_turned, each_own, map_map, turned}
use Rattle.script_histories.proofs.LineKinds.{sub_line}
use Rattle.script_histories.proofs.SetUps.{not_true, rules_met, set_up}

-- ---- sub-agents

is_sub_agent : (lines : List Line) → AreLawful lines → (s : SubAgent) → IsSubAgent (agent_in lines s)
is_sub_agent lines l s = record {
  setup = set_up lines s l;
  boots = all_map (MayHappen (setup_of lines s)) (λ (b : AgentBoot). b.events) (reverse (boots_of lines s))
      (all_turned (λ (b : AgentBoot). MayHappen (setup_of lines s) b.events) (boots_of lines s) (boots_may lines s l));
}

-- ---- their streams

none_found : (id : ℕ) (xs : List SubAgent) → is_some (find (is_of id) xs) ≡ false
    → AllByRecursion (λ (x : SubAgent). (x.id == id) ≡ false) xs
none_found id [] e = tt
none_found id (x ∷ more) e = go (x.id == id) refl (none_found id more) e
  where
    go : (b : Bool) → (x.id == id) ≡ b
        → (is_some (find (is_of id) more) ≡ false → AllByRecursion (λ (y : SubAgent). (y.id == id) ≡ false) more)
        → is_some (cond b (Some x) (find (is_of id) more)) ≡ false
        → AllByRecursion (λ (y : SubAgent). (y.id == id) ≡ false) (x ∷ more)
    go true is others h = absurd cc
    go false is others h = (is, others h)

other_stream : (s : SubAgent) (xs : List SubAgent) → AllByRecursion (λ (x : SubAgent). (x.id == s.id) ≡ false) xs
    → AllByRecursion (λ (x : SubAgent). same_stream (stream_of x) (stream_of s) ≡ false) xs
other_stream s [] h = tt
other_stream s (x ∷ more) h = (
  false_from_ne_true (same_stream (stream_of x) (stream_of s))
      (λ e. true≢false (sym (and_parts (same_address x.address s.address) (x.id == s.id) e).1 ∙ h.0)),
  other_stream s more h.1,
)

new_id : (line : Line) (before : List Line) (s : SubAgent) → sub_in line ≡ Some s → may_follow before line ≡ true
    → AllByRecursion (λ (x : SubAgent). (x.id == s.id) ≡ false) (subs_in before)
new_id line before s e may =
    let rules = rules_met (SubLine s) before (subst (λ (l : Line). may_follow before l ≡ true) (sub_line line s e) may) in
    none_found s.id (subs_in before) (not_true (is_known s.id before) (and_parts (not (is_known s.id before)) _ rules).0)

pub streams_once : (lines : List Line) → AreLawful lines → AreDistinct same_stream (map stream_of (reverse (subs_in lines)))
streams_once [] l = tt
streams_once (line ∷ before) l = go (sub_in line) refl (streams_once before l.2)
  where
    go : (o : Option SubAgent) → sub_in line ≡ o → AreDistinct same_stream (map stream_of (reverse (subs_in before)))
        → AreDistinct same_stream (map stream_of (reverse (cons_option o (subs_in before))))
    go None is h = h
    go (Some s) is h = distinct_turned same_stream stream_of s (subs_in before) h
        (other_stream s (subs_in before) (new_id line before s is l.1))

-- ---- all of them

pub is_history : (lines : List Line) → AreLawful lines → IsHistory (history_of lines)
is_history lines l = record {
  agents = all_map IsSubAgent (agent_in lines) (reverse (subs_in lines))
      (each_own (λ (s : SubAgent). IsSubAgent (agent_in lines s)) (is_sub_agent lines l) (reverse (subs_in lines)));
  once = subst (AreDistinct same_stream) (sym (map_map (agent_in lines) stream_in (reverse (subs_in lines))))
      (streams_once lines l);
}

-- ---- the sub-agent of a stream

stream_among : (s : SubAgent) (xs : List SubAgent) → IsAmong s xs → among same_stream (map stream_of xs) (stream_of s) ≡ true
stream_among s [] h = absurd h
stream_among s (x ∷ more) (inl e) =
    or_left (same_stream (stream_of s) (stream_of x)) (among same_stream (map stream_of more) (stream_of s))
    (ap (λ (t : SubAgent). same_stream (stream_of s) (stream_of t)) (sym e) ∙ stream-same.self (stream_of s))
stream_among s (x ∷ more) (inr h) =
    or_right (same_stream (stream_of s) (stream_of x)) (among same_stream (map stream_of more) (stream_of s))
    (stream_among s more h)

not_before : (s x : SubAgent) (more : List SubAgent) → among same_stream (map stream_of more) (stream_of x) ≡ false
    → IsAmong s more → same_stream (stream_of x) (stream_of s) ≡ false
not_before s x more once h =
    false_from_ne_true (same_stream (stream_of x) (stream_of s))
    (λ e. true≢false (sym (stream_among s more h)
    ∙ ap (among same_stream (map stream_of more)) (sym (stream-same.to (stream_of x) (stream_of s) e)) ∙ once))

one_agent : (lines : List Line) (s : SubAgent) (xs : List SubAgent) → AreDistinct same_stream (map stream_of xs) → IsAmong s xs
    → agent_of (map (agent_in lines) xs) (stream_of s) ≡ agent_in lines s
one_agent lines s [] once h = absurd h
one_agent lines s (x ∷ more) once (inl e) =
    let same : same_stream (stream_of x) (stream_of s) ≡ true =
    ap (λ (t : SubAgent). same_stream (stream_of t) (stream_of s)) (sym e) ∙ stream-same.self (stream_of s) in
    ap (λ (b : Bool). cond b (agent_in lines x) (agent_of (map (agent_in lines) more) (stream_of s))) same
    ∙ ap (agent_in lines) (sym e)
one_agent lines s (x ∷ more) once (inr h) =
    ap (λ (b : Bool). cond b (agent_in lines x) (agent_of (map (agent_in lines) more) (stream_of s)))
    (not_before s x more once.0 h)
    ∙ one_agent lines s more once.1 h

among_left : {X : Type 0} (x : X) (xs ys : List X) → IsAmong x xs → IsAmong x (xs ++ ys)
among_left x [] ys h = absurd h
among_left x (y ∷ more) ys (inl e) = inl e
among_left x (y ∷ more) ys (inr h) = inr (among_left x more ys h)

among_last : {X : Type 0} (x : X) (xs : List X) → IsAmong x (xs ++ x ∷ [])
among_last x [] = inl refl
among_last x (y ∷ more) = inr (among_last x more)

pub among_turned : {X : Type 0} (x : X) (xs : List X) → IsAmong x xs → IsAmong x (reverse xs)
among_turned x [] h = absurd h
among_turned {X} x (y ∷ more) (inl e) =
    subst (IsAmong x) (sym (turned y more))
    (subst (λ (z : X). IsAmong x (reverse more ++ z ∷ [])) e (among_last x (reverse more)))
among_turned x (y ∷ more) (inr h) =
    subst (IsAmong x) (sym (turned y more)) (among_left x (reverse more) (y ∷ []) (among_turned x more h))

pub found_among : {X : Type 0} (q : X → Bool) (xs : List X) (x : X) → find q xs ≡ Some x → IsAmong x xs
found_among q [] x e = absurd cc
found_among {X} q (y ∷ more) x e = go (q y) (found_among q more x) e
  where
    go : (b : Bool) → (find q more ≡ Some x → IsAmong x more) → cond b (Some y) (find q more) ≡ Some x → IsAmong x (y ∷ more)
    go true others is = inl (sym (same_Some _ _ is))
    go false others is = inr (others is)

pub agent_found : (lines : List Line) (id : ℕ) (s : SubAgent) → AreLawful lines → sub_of id lines ≡ Some s
    → agent_of (history_of lines) (stream_of s) ≡ agent_in lines s
agent_found lines id s l e =
    one_agent lines s (reverse (subs_in lines)) (streams_once lines l)
    (among_turned s (subs_in lines) (found_among (is_of id) (subs_in lines) s e))

-- ---- the sub-agent of an ID

all_among : {X : Type 0} (P : X → Type 0) (xs : List X) (x : X) → AllByRecursion P xs → IsAmong x xs → P x
all_among P [] x h a = absurd a
all_among P (y ∷ more) x h (inl e) = subst P (sym e) h.0
all_among P (y ∷ more) x h (inr a) = all_among P more x h.1 a

first_found : (s t : SubAgent) (more : List SubAgent) → AllByRecursion (λ (x : SubAgent). (x.id == t.id) ≡ false) more
    → (IsAmong s more → find (is_of s.id) more ≡ Some s) → IsAmong s (t ∷ more) → find (is_of s.id) (t ∷ more) ≡ Some s
first_found s t more apart others (inl e) =
    ap (λ (b : Bool). cond b (Some t) (find (is_of s.id) more)) (eq-eqb t.id s.id (ap (λ (x : SubAgent). x.id) (sym e)))
    ∙ ap (λ (x : SubAgent). Some x) (sym e)
first_found s t more apart others (inr h) =
    let other : (s.id == t.id) ≡ false = all_among (λ (x : SubAgent). (x.id == t.id) ≡ false) more s apart h in
    let not_first : (t.id == s.id) ≡ false =
    false_from_ne_true (t.id == s.id) (λ e. true≢false (sym (eq-eqb s.id t.id (sym (eqb-true t.id s.id e))) ∙ other)) in
    ap (λ (b : Bool). cond b (Some t) (find (is_of s.id) more)) not_first ∙ others h

sub_among : (lines : List Line) (s : SubAgent) → AreLawful lines → IsAmong s (subs_in lines) → sub_of s.id lines ≡ Some s
sub_among [] s l h = absurd h
sub_among (line ∷ before) s l h = go (sub_in line) refl (sub_among before s l.2) h
  where
    go : (o : Option SubAgent) → sub_in line ≡ o → (IsAmong s (subs_in before) → sub_of s.id before ≡ Some s)
        → IsAmong s (cons_option o (subs_in before)) → find (is_of s.id) (cons_option o (subs_in before)) ≡ Some s
    go None is others a = others a
    go (Some t) is others a = first_found s t (subs_in before) (new_id line before t is l.1) others a

pub sub_at : (lines : List Line) (place : ℕ) (s : SubAgent) → AreLawful lines
    → slice_get (reverse (subs_in lines)) place ≡ Some s → sub_of s.id lines ≡ Some s
sub_at lines place s l e =
    sub_among lines s l (subst (IsAmong s) (reverse-reverse (subs_in lines))
    (among_turned s (reverse (subs_in lines)) (among_at (reverse (subs_in lines)) place s e)))

pub agent_at : (lines : List Line) (place : ℕ) (s : SubAgent) → slice_get (reverse (subs_in lines)) place ≡ Some s
    → slice_get (history_of lines) place ≡ Some (agent_in lines s)
agent_at lines place s e =
    slice_get-map (agent_in lines) (reverse (subs_in lines)) place ∙ ap (option_map (agent_in lines)) e
