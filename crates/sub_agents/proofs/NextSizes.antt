-- How many samples the next datagram takes.
use Rattle.std.proofs.Common.{◌≡◌, ℕ, zero, suc, ◌+◌, ◌-◌, ◌<◌, ◌≤◌, inl, inr, Bool, true, false, cond, List, [], ◌∷◌, length, map, take, drop, length-drop, refl, sym, ap, subst, ◌∙◌, arith, ◌++◌, take_at}
use Rattle.std.specs.Prelude.{slice_get}
use Rattle.std.specs.List.{AllByRecursion}
use Rattle.std.specs.declared.option.Option.TheVariants.{Some}
use Rattle.std.proofs.lemmas.Bool.{cases_lt, leb-true, le-leb, lt-leb}
use Rattle.wire_spec.specs.Heads.{Head, address_tree}
use Rattle.wire_spec.specs.Shapes.{Tree}
use Rattle.wire_spec.specs.Spelling.{spell}
use Rattle.data_format.specs.Addresses.{address_of}
use Rattle.agent_spec.specs.Packing.{longest}
use Rattle.agent_spec.proofs.Prefixes.{longest-some, longest-fits}
use Rattle.agent_spec.proofs.Sized.{datagram-size}
use Rattle.sub_agents.specs.declared.staged.Staged.{Staged}
use Rattle.sub_agents.specs.Staged.{IsWritable, staged_value, staged_size, values, datagram_bytes}
use Rattle.std.specs.Global.{Vec}
use Rattle.circular_buffer.specs.Buffer.{Buffer, buffer}
use Rattle.sub_agents.specs.declared.sub_agent.SubAgent.TheInside.{Inside}
use Rattle.sub_agents.specs.Fields.{sub_agent_state, IsKept, IsSubAgent}
use Rattle.sub_agents.specs.Sent.{staged_values, next_size, next_head, next_put}
use Rattle.sub_agents.specs.SubAgents.{SubAgentState, size_with, trees_fit, staged_fit}
use Rattle.sub_agents.specs.Written.{size_of}
use Rattle.sub_agents.proofs.Cuts.{map-take}
use Rattle.sub_agents.proofs.Lists.{each-get, each-map}
use Rattle.sub_agents.proofs.Appends.{next-size, fewer, size-one}

module _ {X : Type 0} (fits : List X → Bool) where
  -- what the longest prefix is
  longest-is : (items : List X) (n k : ℕ) → 1 ≤ k → k ≤ n → fits (take k items) ≡ true
      → ((j : ℕ) → k < j → j ≤ n → fits (take j items) ≡ false) → k ≡ longest fits items n
  longest-is items zero k some most fit none = absurd (omega (arith, some, most))
  longest-is items (suc n) k some most fit none = elim (cases_lt k (suc n)) [
    | inl less ↦
        longest-is items n k some (omega (arith, less)) fit (λ j above within. none j above (omega (arith, within)))
        ∙ ap (λ (b : Bool). cond b (suc n) (longest fits items n)) (sym (none (suc n) less (omega arith)))
    | inr last ↦
        let same : k ≡ suc n = omega (arith, last, most) in
        same ∙ ap (λ (b : Bool). cond b (suc n) (longest fits items n))
        (sym (subst (λ (m : ℕ). fits (take m items) ≡ true) same fit))
  ]

  longest-few : (items : List X) (n : ℕ) → 1 ≤ n → longest fits items n ≤ n
  longest-few items zero some = absurd (omega (arith, some))
  longest-few items (suc zero) some = go (fits (take 1 items))
    where
      go : (b : Bool) → cond b 1 1 ≤ 1
      go true = omega arith
      go false = omega arith
  longest-few items (suc (suc n)) some =
      go (fits (take (suc (suc n)) items)) (longest fits items (suc n)) (longest-few items (suc n) (omega arith))
    where
      go : (b : Bool) (k : ℕ) → k ≤ suc n → cond b (suc (suc n)) k ≤ suc (suc n)
      go true k h = omega arith
      go false k h = omega (arith, h)

-- how many bytes a datagram with these samples has
pub with-samples : (s : SubAgentState) (ts : List Tree)
    → size_with s ts ≡ 20 + length (spell (address_tree (address_of s.agent))) + size_of ts
with-samples s ts =
    datagram-size (record { agent = address_of s.agent; sub_agent = s.sub_agent; sequence = 0; uptime = 0 }) (values ts)

-- the samples at the front
abbrev pub front : SubAgentState → ℕ → List Tree
front s i = map (staged_value s.form) (take i s.stage.items)

pub front-step : (s : SubAgentState) (i : ℕ) (x : Staged) → slice_get s.stage.items i ≡ Some x
    → size_with s (front s (i + 1)) ≡ size_with s (front s i) + staged_size s.form x
front-step s i x at = omega (
  arith,
  with-samples s (front s (i + 1)),
  with-samples s (front s i),
  next-size (staged_value s.form) s.stage.items i x at,
)

-- what is staged is kept
pub kept-in : (x : Inside) (s : SubAgentState) → sub_agent_state x ≡ s → IsSubAgent x
    → AllByRecursion (IsKept s) s.stage.items
kept-in x s view inv = subst (λ (k : SubAgentState). AllByRecursion (IsKept k) k.stage.items) view inv.kept

-- before the first sample
pub start-size : (x : Inside) (s : SubAgentState) (n : ℕ) → sub_agent_state x ≡ s
    → n ≡ 20 + length (spell (address_tree (address_of x.agent))) → n ≡ size_with s (front s 0)
start-size x s n view e =
    subst (λ (k : SubAgentState). n ≡ size_with k (front k 0)) view
    (omega (arith, e, with-samples (sub_agent_state x) (front (sub_agent_state x) 0)))

pub start-fits : (x : Inside) (s : SubAgentState) (n : ℕ) → sub_agent_state x ≡ s → IsSubAgent x → n ≤ 40
    → n ≤ s.max_datagram
start-fits x s n view inv few =
    subst (λ (k : SubAgentState). n ≤ k.max_datagram) view (omega (arith, few, inv.least))

front-more : (s : SubAgentState) (i j : ℕ) → i ≤ j → size_with s (front s i) ≤ size_with s (front s j)
front-more s i j h = omega (
  arith,
  with-samples s (front s i),
  with-samples s (front s j),
  fewer (staged_value s.form) s.stage.items i j h,
)

front-fits : (s : SubAgentState) (i : ℕ) → size_with s (front s i) ≤ s.max_datagram
    → trees_fit s (take i (staged_values s)) ≡ true
front-fits s i h =
    ap (trees_fit s) (sym (map-take (staged_value s.form) i s.stage.items))
    ∙ le-leb (size_with s (front s i)) s.max_datagram h

front-large : (s : SubAgentState) (i : ℕ) → s.max_datagram < size_with s (front s i)
    → trees_fit s (take i (staged_values s)) ≡ false
front-large s i h =
    ap (trees_fit s) (sym (map-take (staged_value s.form) i s.stage.items))
    ∙ lt-leb (size_with s (front s i)) s.max_datagram h

-- the first sample fits
pub first-fits : (s : SubAgentState) (x : Staged) → AllByRecursion (IsKept s) s.stage.items
    → slice_get s.stage.items 0 ≡ Some x → size_with s (front s 1) ≤ s.max_datagram
first-fits s x kept at =
    let alone : staged_fit s (x ∷ []) ≡ true = (each-get (IsKept s) s.stage.items 0 x kept at).1 in
    let size : size_with s (staged_value s.form x ∷ []) ≤ s.max_datagram =
    leb-true (size_with s (staged_value s.form x ∷ [])) s.max_datagram alone in
    omega (
      arith,
      size,
      front-step s 0 x at,
      with-samples s (front s 0),
      with-samples s (staged_value s.form x ∷ []),
      size-one (staged_value s.form x),
    )

-- the sample at this place has no room any more
pub size-at : (s : SubAgentState) (i : ℕ) (x : Staged) → AllByRecursion (IsKept s) s.stage.items
    → slice_get s.stage.items i ≡ Some x → i < length s.stage.items → size_with s (front s i) ≤ s.max_datagram
    → s.max_datagram < size_with s (front s (i + 1)) → i ≡ next_size s
size-at s zero x kept at within fit large =
    absurd (omega (arith, large, first-fits s x kept at))
size-at s (suc i) x kept at within fit large =
    longest-is (trees_fit s) (staged_values s) (length s.stage.items) (suc i) (omega arith) (omega (arith, within))
    (front-fits s (suc i) fit)
    (λ j above most. front-large s j (omega (arith, large, front-more s (suc i + 1) j (omega (arith, above)))))

-- all of them have room
pub size-all : (s : SubAgentState) (i : ℕ) → 1 ≤ length s.stage.items → i ≡ length s.stage.items
    → size_with s (front s i) ≤ s.max_datagram → i ≡ next_size s
size-all s i some all fit =
    longest-is (trees_fit s) (staged_values s) (length s.stage.items) i (omega (arith, some, all)) (omega (arith, all))
    (front-fits s i fit) (λ j above most. absurd (omega (arith, above, most, all)))

-- ---- the next datagram

pub next-few : (s : SubAgentState) → 1 ≤ length s.stage.items → next_size s ≤ length s.stage.items
next-few s some = longest-few (trees_fit s) (staged_values s) (length s.stage.items) some

first-of : {X : Type 0} (xs : List X) → 1 ≤ length xs → (x : X) × (slice_get xs 0 ≡ Some x)
first-of [] some = absurd (omega (arith, some))
first-of (x ∷ more) some = (x, refl)

-- it has room
pub next-fits : (s : SubAgentState) → AllByRecursion (IsKept s) s.stage.items → 1 ≤ length s.stage.items
    → size_with s (front s (next_size s)) ≤ s.max_datagram
next-fits s kept some =
    let n : ℕ = next_size s in
    let least : 1 ≤ n = longest-some (trees_fit s) (staged_values s) (length s.stage.items) in
    elim (cases_lt 1 n) [
      | inl many ↦
          let fit : trees_fit s (take n (staged_values s)) ≡ true =
          longest-fits (trees_fit s) (staged_values s) (length s.stage.items) many in
          let fit_front : trees_fit s (front s n) ≡ true =
          ap (trees_fit s) (map-take (staged_value s.form) n s.stage.items) ∙ fit in
          leb-true (size_with s (front s n)) s.max_datagram fit_front
      | inr one ↦
          let x = first-of s.stage.items some in
          let same : 1 ≡ n = omega (arith, one, least) in
          subst (λ (k : ℕ). size_with s (front s k) ≤ s.max_datagram) same (first-fits s x.0 kept x.1)
    ]

-- what is left in the stage
pub dropped : (xs : List Staged) (size left : ℕ) → size ≤ length xs → left ≡ length xs - size
    → drop (length xs - left) xs ≡ drop size xs
dropped xs size left h e =
    let same : length xs - left ≡ size = omega (arith, h, e) in
    ap (λ (n : ℕ). drop n xs) same

each-drop : (P : Staged → Type 0) (n : ℕ) (xs : List Staged) → AllByRecursion P xs → AllByRecursion P (drop n xs)
each-drop P zero xs h = h
each-drop P (suc n) [] h = h
each-drop P (suc n) (x ∷ more) h = each-drop P n more h.1

-- what a sub-agent keeps when samples leave the stage
pub leave-kept : (x : Inside) (room : Vec ℕ) (stage : Buffer Staged) (numbered n : ℕ) → IsSubAgent x
    → length room.items ≡ length x.room.items → stage ≡ buffer (drop n x.stage.items) x.stage.capacity
    → IsSubAgent (record x { room = room; stage = stage; numbered = numbered })
leave-kept x room stage numbered n inv size e =
    let items : stage.items ≡ drop n x.stage.items = ap (λ (k : Buffer Staged). k.items) e in
    let places : stage.capacity ≡ x.stage.capacity = ap (λ (k : Buffer Staged). k.capacity) e in
    record {
      room_is = size ∙ inv.room_is;
      least = inv.least;
      most = inv.most;
      places = omega (arith, inv.places, places);
      few = omega (arith, inv.few, places);
      within = omega (arith, places, ap length items, length-drop n x.stage.items, inv.within);
      flow_ids_are = inv.flow_ids_are;
      counter_ids_are = inv.counter_ids_are;
      flows_distinct = inv.flows_distinct;
      pollers_distinct = inv.pollers_distinct;
      flows_in_form = inv.flows_in_form;
      pollers_in_form = inv.pollers_in_form;
      kept = subst (λ (l : List Staged). AllByRecursion (IsKept (sub_agent_state x)) l) (sym items)
          (each-drop (IsKept (sub_agent_state x)) n x.stage.items inv.kept);
    }

pub writable : (s : SubAgentState) (xs : List Staged) → AllByRecursion (IsKept s) xs
    → AllByRecursion (IsWritable s.form) xs
writable s xs kept = each-map (IsKept s) (IsWritable s.form) xs (λ x h. h.0) kept

pub next-writes : (s : SubAgentState) (h : Head) (n : ℕ) → h.agent ≡ address_of s.agent
    → length (datagram_bytes h (front s n)) ≡ size_with s (front s n)
next-writes s h n same =
    datagram-size h (values (front s n))
    ∙ ap (λ a. 20 + length (spell (address_tree a)) + size_of (front s n)) same
    ∙ sym (with-samples s (front s n))

-- ---- while it is written

-- a room whose bytes are all written anew
pub refilled : (n : ℕ) (old new : List ℕ) → n ≡ length old → length new ≡ length old
    → take n (new ++ drop (length new) old) ≡ new
refilled n old new size same = take_at new (drop (length new) old) n (omega (arith, size, same))

module _ (x : Inside) (s : SubAgentState) (n : ℕ) (view : sub_agent_state x ≡ s) (size : n ≡ next_size s)
    (some : 1 ≤ length s.stage.items) where
  pub count-in : n ≤ length x.stage.items
  count-in = omega (arith, size, next-few s some, ap (λ (k : SubAgentState). length k.stage.items) view)

  pub room-for : (uptime : ℕ) (h : Head) → IsSubAgent x → h ≡ next_head s uptime
      → length (datagram_bytes h (map (staged_value x.form) (take n x.stage.items))) ≤ length x.room.items
  room-for uptime h inv e =
      let z : SubAgentState = sub_agent_state x in
      let m : n ≡ next_size z = subst (λ (k : SubAgentState). n ≡ next_size k) (sym view) size in
      let here : 1 ≤ length z.stage.items = subst (λ (k : SubAgentState). 1 ≤ length k.stage.items) (sym view) some in
      let agent : h.agent ≡ address_of z.agent =
      ap (λ (k : Head). k.agent) e ∙ ap (λ (k : SubAgentState). address_of k.agent) (sym view) in
      let fit : size_with z (front z n) ≤ z.max_datagram =
      subst (λ (k : ℕ). size_with z (front z k) ≤ z.max_datagram) (sym m) (next-fits z inv.kept here) in
      omega (arith, next-writes z h n agent, fit, inv.room_is)

  -- the bytes of the next datagram
  pub bytes-are : (uptime : ℕ) (h : Head) → h ≡ next_head s uptime
      → datagram_bytes h (map (staged_value x.form) (take n x.stage.items)) ≡ (next_put s uptime).bytes
  bytes-are uptime h e =
      let here : map (staged_value x.form) (take n x.stage.items) ≡ map (staged_value s.form) (take n s.stage.items) =
      ap (λ (k : SubAgentState). front k n) view in
      (λ i. datagram_bytes (e i) (here i))
      ∙ ap (λ (k : ℕ). datagram_bytes (next_head s uptime) (front s k)) size
      ∙ ap (datagram_bytes (next_head s uptime)) (map-take (staged_value s.form) (next_size s) s.stage.items)

  -- the next datagram, as it is put
  pub put-is : (uptime : ℕ) (h : Head) (number : ℕ) (bytes : List ℕ) → h ≡ next_head s uptime → number ≡ x.numbered + 1
      → bytes ≡ datagram_bytes h (map (staged_value x.form) (take n x.stage.items))
      → record { boot = x.boot; number = number; bytes = bytes } ≡ next_put s uptime
  put-is uptime h number bytes e one written =
      let numbers : number ≡ 1 + s.numbered = omega (arith, one, ap (λ (k : SubAgentState). k.numbered) view) in
      let text : bytes ≡ (next_put s uptime).bytes = written ∙ bytes-are uptime h e in
      λ i. record { boot = (view i).boot; number = numbers i; bytes = text i }
