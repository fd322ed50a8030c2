-- What stands behind some entries is read there.
use Rattle.std.proofs.Common.{◌≡◌, ◌≢◌, ℕ, zero, suc, ◌+◌, ◌^◌, ◌<◌, ◌≤◌, ◌==◌, nat_lt, List, [], ◌∷◌, ◌++◌, length, take, drop, Option, Some, None, refl, sym, ap, ap₂, subst, ◌∙◌, append_assoc, append-nil, arith, take_at, drop_at, length-append, lt-ltb, le-ltb}
use Rattle.std.proofs.lemmas.Bool.{cond-true, cond-false, eq-eqb, ne_eqb}
use Rattle.std.proofs.lemmas.List.{drop-drop}
use Rattle.wire_spec.specs.declared.input_kind.InputKind.{InputKind}
use Rattle.wire_spec.specs.declared.input_kind.InputKind.TheVariants.{Cut, Long, Padding, Item, Address, Port, Count, After}
use Rattle.wire_spec.specs.Captures.{Entry, IsBroken, entry_bytes}
use Rattle.wire_spec.specs.CaptureReading.{front_of, IsFront}
use Rattle.wire_spec.specs.CaptureReading as entries
use Rattle.wire_spec.specs.Heads.{AgentAddress, unknown, ipv4, ipv6}
use Rattle.wire_spec.proofs.CaptureFronts.{front_shows}
use Rattle.wire_spec.proofs.CaptureFrontsBack.{front_back}
use Rattle.wire_spec.specs.Bytes.{AreBytes}
use Rattle.capture_spec.specs.declared.capture_version.CaptureVersion.{CaptureVersion}
use Rattle.capture_spec.specs.declared.capture_version.CaptureVersion.TheVariants.{One, Two}
use Rattle.capture_spec.specs.Items.{word, hyper, Sender, Received, IsAddress, IsSender, IsItem, address_kind, address_bytes, entry_of, sent_by, item_by, item_head, item_front, datagram_bytes, sent_bytes, end_item}
use Rattle.capture_spec.specs.BrokenItems.{IsBrokenBehind, IsCutItem, in_word, in_head, in_sender, behind_sender, in_end, IsBrokenItem}
use Rattle.capture_spec.specs.ItemReading.{Front, Stops, Holds, Breaks, word_in, hyper_in, moved_by, front_from, no_address, front_of_tail, front_of_port, front_of_address, front_of_kind, front_of_head, front_of_end, front_of_word, front_of_item, front_in, IsFrontAt}
use Rattle.capture_spec.proofs.Words.{reads_word, reads_hyper}
use Rattle.capture_spec.proofs.ItemFronts.{item_shows, item_head_is, item_front_is, sent_bytes_are, end_item_is, entry_is}

-- ---- one field after the other

pub item_goes : (count : ℕ) (rest tail : List ℕ) (n : ℕ) → rest ≡ word n ++ tail → n < 2 ^ 32
    → front_of_item count rest ≡ front_of_word count n tail
unfolding front_of_item
item_goes count rest tail n e small =
    let r = reads_word rest tail n e small in
    cond-false (nat_lt (length rest) 4) _ _ (le-ltb _ _ (omega (arith, r.long)))
    ∙ ap₂ (front_of_word count) r.is r.tail_is

pub item_short : (count : ℕ) (rest : List ℕ) → length rest < 4 → front_of_item count rest ≡ Breaks 0 Cut
unfolding front_of_item
item_short count rest short = cond-true (nat_lt (length rest) 4) _ _ (lt-ltb (length rest) 4 short)

pub head_goes : (rest behind tail : List ℕ) (arrival kind : ℕ) → rest ≡ hyper arrival ++ behind → behind ≡ word kind ++ tail
    → arrival < 2 ^ 64 → kind < 2 ^ 32 → front_of_head rest ≡ front_of_kind arrival kind tail
unfolding front_of_head
head_goes rest behind tail arrival kind e f time small =
    let h = reads_hyper rest behind arrival e time in
    let w = reads_word behind tail kind f small in
    let kind_is : word_in (drop 8 rest) ≡ kind = ap word_in h.tail_is ∙ w.is in
    let tail_is : drop 12 rest ≡ tail = sym (drop-drop 4 8 rest) ∙ ap (drop 4) h.tail_is ∙ w.tail_is in
    cond-false (nat_lt (length rest) 12) _ _ (le-ltb _ _ (omega (arith, h.long, w.long)))
    ∙ ap (λ n. front_of_kind n (word_in (drop 8 rest)) (drop 12 rest)) h.is
    ∙ ap₂ (front_of_kind arrival) kind_is tail_is

pub head_short : (rest : List ℕ) → length rest < 12 → front_of_head rest ≡ Breaks 0 Cut
unfolding front_of_head
head_short rest short = cond-true (nat_lt (length rest) 12) _ _ (lt-ltb (length rest) 12 short)

pub past_head : (count : ℕ) (rest tail : List ℕ) (arrival kind : ℕ) → rest ≡ item_head arrival kind ++ tail
    → arrival < 2 ^ 64 → kind < 2 ^ 32 → front_of_item count rest ≡ front_of_kind arrival kind tail
past_head count rest tail arrival kind e time small =
    let split : rest ≡ word 1 ++ (hyper arrival ++ (word kind ++ tail)) =
    e ∙ ap (λ l. l ++ tail) (item_head_is arrival kind) ∙ regroup (word 1) (hyper arrival) (word kind) tail in
    item_goes count rest (hyper arrival ++ (word kind ++ tail)) 1 split (omega arith)
    ∙ head_goes (hyper arrival ++ (word kind ++ tail)) (word kind ++ tail) tail arrival kind refl refl time small
  where
    regroup : (a b c d : List ℕ) → (a ++ (b ++ c)) ++ d ≡ a ++ (b ++ (c ++ d))
    regroup a b c d = simp append_assoc

module _ (arrival : ℕ) (address : List ℕ → AgentAddress) (size : ℕ) where
  pub address_goes : (rest bytes behind tail : List ℕ) (port : ℕ) → rest ≡ bytes ++ behind → behind ≡ word port ++ tail
      → length bytes ≡ size → port < 2 ^ 32
      → front_of_address arrival address size rest ≡ front_of_port arrival (address bytes) size port tail
  unfolding front_of_address
  address_goes rest bytes behind tail port e f size_is small =
      let w = reads_word behind tail port f small in
      let front : take size rest ≡ bytes = ap (take size) e ∙ take_at bytes behind size size_is in
      let back : drop size rest ≡ behind = ap (drop size) e ∙ drop_at bytes behind size size_is in
      let port_is : word_in (drop size rest) ≡ port = ap word_in back ∙ w.is in
      let tail_is : drop (size + 4) rest ≡ tail = sym (drop-drop 4 size rest) ∙ ap (drop 4) back ∙ w.tail_is in
      cond-false (nat_lt (length rest) (size + 4)) _ _
      (le-ltb _ _ (omega (arith, ap length e, length-append bytes behind, w.long, size_is)))
      ∙ ap (λ l. front_of_port arrival (address l) size (word_in (drop size rest)) (drop (size + 4) rest)) front
      ∙ ap₂ (front_of_port arrival (address bytes) size) port_is tail_is

  pub address_short : (rest : List ℕ) → length rest < size + 4
      → front_of_address arrival address size rest ≡ Breaks 0 Cut
  unfolding front_of_address
  address_short rest short =
      cond-true (nat_lt (length rest) (size + 4)) _ _ (lt-ltb (length rest) (size + 4) short)

pub kind_goes : (arrival : ℕ) (address : AgentAddress) (rest tail : List ℕ) (port : ℕ) → IsAddress address
    → rest ≡ address_bytes address ++ (word port ++ tail) → port < 2 ^ 32
    → front_of_kind arrival (address_kind address) rest
    ≡ front_of_port arrival address (length (address_bytes address)) port tail
kind_goes arrival unknown rest tail port lawful e small =
    address_goes arrival no_address 0 rest [] (word port ++ tail) tail port e refl refl small
kind_goes arrival (ipv4 bytes) rest tail port lawful e small =
    address_goes arrival ipv4 4 rest bytes (word port ++ tail) tail port e refl lawful small
    ∙ ap (λ n. front_of_port arrival (ipv4 bytes) n port tail) (sym lawful)
kind_goes arrival (ipv6 bytes) rest tail port lawful e small =
    address_goes arrival ipv6 16 rest bytes (word port ++ tail) tail port e refl lawful small
    ∙ ap (λ n. front_of_port arrival (ipv6 bytes) n port tail) (sym lawful)

kind_short : (arrival : ℕ) (address : AgentAddress) (rest : List ℕ) → IsAddress address
    → length rest < length (address_bytes address) + 4 → front_of_kind arrival (address_kind address) rest ≡ Breaks 0 Cut
kind_short arrival unknown rest lawful short = address_short arrival no_address 0 rest short
kind_short arrival (ipv4 bytes) rest lawful short =
    address_short arrival ipv4 4 rest (subst (λ n. length rest < n + 4) lawful short)
kind_short arrival (ipv6 bytes) rest lawful short =
    address_short arrival ipv6 16 rest (subst (λ n. length rest < n + 4) lawful short)

few_kinds : (address : AgentAddress) → address_kind address < 2 ^ 32
few_kinds unknown = omega arith
few_kinds (ipv4 bytes) = omega arith
few_kinds (ipv6 bytes) = omega arith

pub past_front : (count : ℕ) (rest tail : List ℕ) (arrival : ℕ) (address : AgentAddress) (port : ℕ)
    → rest ≡ item_front arrival address port ++ tail → arrival < 2 ^ 64 → IsAddress address → port < 2 ^ 32
    → front_of_item count rest ≡ front_of_port arrival address (length (address_bytes address)) port tail
past_front count rest tail arrival address port e time lawful small =
    let behind : List ℕ = address_bytes address ++ (word port ++ tail) in
    let split : rest ≡ item_head arrival (address_kind address) ++ behind =
    e ∙ ap (λ l. l ++ tail) (item_front_is arrival address port)
    ∙ regroup (item_head arrival (address_kind address)) (address_bytes address) (word port) tail in
    past_head count rest behind arrival (address_kind address) split time (few_kinds address)
    ∙ kind_goes arrival address behind tail port lawful refl small
  where
    regroup : (a b c d : List ℕ) → (a ++ (b ++ c)) ++ d ≡ a ++ (b ++ (c ++ d))
    regroup a b c d = simp append_assoc

pub port_long : (arrival : ℕ) (address : AgentAddress) (size port : ℕ) (tail : List ℕ) → 65535 < port
    → front_of_port arrival address size port tail ≡ Breaks (16 + size) Port
unfolding front_of_port
port_long arrival address size port tail over = cond-true (nat_lt 65535 port) _ _ (lt-ltb 65535 port over)

pub port_goes : (arrival : ℕ) (address : AgentAddress) (size port : ℕ) (tail : List ℕ) → port ≤ 65535
    → front_of_port arrival address size port tail
    ≡ front_from (Some (record { address = address; port = port })) (12 + size) (front_of (hyper arrival ++ tail))
unfolding front_of_port front_of_tail
port_goes arrival address size port tail fits = cond-false (nat_lt 65535 port) _ _ (le-ltb _ _ fits)

-- from the sender on, version 1 decides
pub past_sender : (count : ℕ) (rest tail : List ℕ) (arrival : ℕ) (s : Sender) (front : entries.Front)
    → rest ≡ item_front arrival s.address s.port ++ tail → arrival < 2 ^ 64 → IsSender s
    → IsFront (hyper arrival ++ tail) front
    → front_of_item count rest ≡ front_from (Some s) (12 + length (address_bytes s.address)) front
past_sender count rest tail arrival s front e time lawful h =
    past_front count rest tail arrival s.address s.port e time lawful.address (omega (arith, lawful.port))
    ∙ port_goes arrival s.address (length (address_bytes s.address)) s.port tail lawful.port
    ∙ ap (front_from (Some s) (12 + length (address_bytes s.address))) (front_back (hyper arrival ++ tail) front h)

-- ---- each front

holds_sent : (count : ℕ) (e : Entry) (s : Sender) (rest more : List ℕ) → IsItem (sent_by (Some s) e) → IsSender s
    → rest ≡ sent_bytes s e ++ more → front_of_item count rest ≡ Holds (sent_by (Some s) e) more
holds_sent count e s rest more h lawful whole =
    let tail : List ℕ = datagram_bytes e.bytes ++ more in
    let split : rest ≡ item_front e.arrival s.address s.port ++ tail =
    whole ∙ ap (λ l. l ++ more) (sent_bytes_are s e)
    ∙ append_assoc (item_front e.arrival s.address s.port) (datagram_bytes e.bytes) more in
    let entry : hyper e.arrival ++ tail ≡ entry_bytes e ++ more =
    sym (append_assoc (hyper e.arrival) (datagram_bytes e.bytes) more) ∙ ap (λ l. l ++ more) (sym (entry_is e)) in
    past_sender count rest tail e.arrival s (entries.Holds e more) split h.entry.arrival lawful (h.entry, entry)

sender_known : (e : Received) (s : Sender) → e.sender ≡ Some s → sent_by (Some s) (entry_of e) ≡ e
sender_known e s is = ap (λ (o : Option Sender). sent_by o (entry_of e)) (sym is)

holds_back : (count : ℕ) (e : Received) (rest more : List ℕ) → IsItem e → rest ≡ item_by e.sender (entry_of e) ++ more
    → front_of_item count rest ≡ Holds e more
holds_back count e rest more h whole =
    let same = sender_known e h.from h.sender_is in
    holds_sent count (entry_of e) h.from rest more (subst IsItem (sym same) h) h.sender
    (whole ∙ ap (λ (o : Option Sender). item_by o (entry_of e) ++ more) h.sender_is)
    ∙ ap (λ (x : Received). Holds x more) same

broken_back : (count : ℕ) (rest : List ℕ) (within : ℕ) (kind : InputKind) (h : IsBrokenBehind rest within kind)
    → front_of_item count rest ≡ moved_by (12 + length (address_bytes h.sender.address)) h.place kind
broken_back count rest within kind h =
    past_sender count rest h.tail h.arrival h.sender (entries.Breaks h.place kind) h.whole h.time h.lawful h.broken

pub end_short : (count : ℕ) (part : List ℕ) → length part < 8 → front_of_end count part ≡ Breaks 0 Cut
unfolding front_of_end
end_short count part short = cond-true (nat_lt (length part) 8) _ _ (lt-ltb (length part) 8 short)

cut_back : (count : ℕ) (rest : List ℕ) → IsCutItem rest → front_of_item count rest ≡ Breaks 0 Cut
cut_back count rest (in_word short) = item_short count rest short
cut_back count rest (in_head part e short) = item_goes count rest part 1 e (omega arith) ∙ head_short part short
cut_back count rest (in_sender arrival address part time lawful e short) =
    past_head count rest part arrival (address_kind address) e time (few_kinds address)
    ∙ kind_short arrival address part lawful short
cut_back count rest (behind_sender within h) =
    broken_back count rest within Cut h
cut_back count rest (in_end part e short) = item_goes count rest part 0 e (omega arith) ∙ end_short count part short

other_item : (count : ℕ) (rest tail : List ℕ) (n : ℕ) → rest ≡ word n ++ tail → 1 < n → n < 2 ^ 32
    → front_of_item count rest ≡ Breaks 0 Item
other_item count rest tail n e over small = item_goes count rest tail n e small ∙ above count n tail over
  where
    above : (count n : ℕ) (tail : List ℕ) → 1 < n → front_of_word count n tail ≡ Breaks 0 Item
    above count zero tail over = absurd (omega (arith, over))
    above count (suc zero) tail over = absurd (omega (arith, over))
    above count (suc (suc n)) tail over = refl

pub other_kind : (arrival kind : ℕ) (tail : List ℕ) → 2 < kind → front_of_kind arrival kind tail ≡ Breaks 12 Address
other_kind arrival zero tail over = absurd (omega (arith, over))
other_kind arrival (suc zero) tail over = absurd (omega (arith, over))
other_kind arrival (suc (suc zero)) tail over = absurd (omega (arith, over))
other_kind arrival (suc (suc (suc n))) tail over = refl

-- ---- the end item

pub end_goes : (count number : ℕ) (rest tail : List ℕ) → rest ≡ hyper number ++ tail → number < 2 ^ 64 → number ≢ count
    → front_of_end count rest ≡ Breaks 4 Count
unfolding front_of_end
end_goes count number rest tail e small other =
    let h = reads_hyper rest tail number e small in
    cond-false (nat_lt (length rest) 8) _ _ (le-ltb _ _ (omega (arith, h.long)))
    ∙ cond-false (hyper_in rest == count) _ _ (ap (λ n. n == count) h.is ∙ ne_eqb number count other)

pub end_same : (count : ℕ) (rest tail : List ℕ) → rest ≡ hyper count ++ tail → count < 2 ^ 64 → 0 < length tail
    → front_of_end count rest ≡ Breaks 12 After
unfolding front_of_end
end_same count rest tail e small some =
    let h = reads_hyper rest tail count e small in
    cond-false (nat_lt (length rest) 8) _ _ (le-ltb _ _ (omega (arith, h.long)))
    ∙ cond-true (hyper_in rest == count) _ _ (ap (λ n. n == count) h.is ∙ eq-eqb count count refl)
    ∙ cond-true (nat_lt 8 (length rest)) _ _ (lt-ltb 8 (length rest) (omega (arith, h.long, some)))

pub end_stops : (count : ℕ) (rest tail : List ℕ) → rest ≡ hyper count ++ tail → count < 2 ^ 64 → length tail ≡ 0
    → front_of_end count rest ≡ Stops
unfolding front_of_end
end_stops count rest tail e small none =
    let h = reads_hyper rest tail count e small in
    cond-false (nat_lt (length rest) 8) _ _ (le-ltb _ _ (omega (arith, h.long)))
    ∙ cond-true (hyper_in rest == count) _ _ (ap (λ n. n == count) h.is ∙ eq-eqb count count refl)
    ∙ cond-false (nat_lt 8 (length rest)) _ _ (le-ltb _ _ (omega (arith, h.long, none)))

-- an end item, and what follows it
end_split : (number : ℕ) (rest tail : List ℕ) → rest ≡ end_item number ++ tail → rest ≡ word 0 ++ (hyper number ++ tail)
end_split number rest tail e =
    e ∙ ap (λ l. l ++ tail) (end_item_is number) ∙ append_assoc (word 0) (hyper number) tail

-- ---- all of them

kind_back : (count : ℕ) (rest : List ℕ) (within : ℕ) (kind : InputKind) → IsBrokenItem count rest within kind
    → front_of_item count rest ≡ Breaks within kind
kind_back count rest within Cut h = cut_back count rest h.1 ∙ ap (λ n. Breaks n Cut) (sym h.0)
kind_back count rest within Item (is, (n, over, small, (tail, e))) =
    other_item count rest tail n e over small ∙ ap (λ k. Breaks k Item) (sym is)
kind_back count rest within Address (is, (arrival, kind, time, over, small, (tail, e))) =
    past_head count rest tail arrival kind e time small ∙ other_kind arrival kind tail over
    ∙ ap (λ k. Breaks k Address) (sym is)
kind_back count rest within Port h =
    past_front count rest h.begins.0 h.arrival h.address h.port h.begins.1 h.time h.lawful h.fits
    ∙ port_long h.arrival h.address (length (address_bytes h.address)) h.port h.begins.0 h.long
    ∙ ap (λ k. Breaks k Port) (sym h.place)
kind_back count rest within Long h =
    broken_back count rest within Long h ∙ ap (λ k. Breaks k Long) (sym h.moved)
kind_back count rest within Padding h =
    broken_back count rest within Padding h ∙ ap (λ k. Breaks k Padding) (sym h.moved)
kind_back count rest within Count (is, (number, other, small, (tail, e))) =
    item_goes count rest (hyper number ++ tail) 0 (end_split number rest tail e) (omega arith)
    ∙ end_goes count number (hyper number ++ tail) tail refl small other ∙ ap (λ k. Breaks k Count) (sym is)
kind_back count rest within After (is, (b, more, few, e)) =
    item_goes count rest (hyper count ++ b ∷ more) 0 (end_split count rest (b ∷ more) e) (omega arith)
    ∙ end_same count (hyper count ++ b ∷ more) (b ∷ more) refl few (omega arith) ∙ ap (λ k. Breaks k After) (sym is)
kind_back count rest within _ h = absurd h

item_back : (count : ℕ) (rest : List ℕ) (front : Front) → IsFrontAt Two count rest front
    → front_of_item count rest ≡ front
item_back count rest Stops h =
    item_goes count rest (hyper count ++ []) 0
    (end_split count rest [] (h.0 ∙ sym (append-nil (end_item count)))) (omega arith)
    ∙ end_stops count (hyper count ++ []) [] refl h.1 refl
item_back count rest (Holds e more) h = holds_back count e rest more h.0 h.1
item_back count rest (Breaks within kind) h = kind_back count rest within kind h

-- ---- version 1

pub zero_more : (n : ℕ) → 0 + n ≡ n
zero_more n = omega arith

first_shows : (count : ℕ) (rest : List ℕ) (front : entries.Front) → IsFront rest front
    → IsFrontAt One count rest (front_from None 0 front)
first_shows count rest entries.Stops h = (h, tt)
first_shows count rest (entries.Holds e more) h = ((refl, h.0), h.1)
first_shows count rest (entries.Breaks within Cut) h = (refl, h.1)
first_shows count rest (entries.Breaks within Long) h = subst (λ n. IsBroken rest n Long) (sym (zero_more within)) h
first_shows count rest (entries.Breaks within Padding) h =
    subst (λ n. IsBroken rest n Padding) (sym (zero_more within)) h
first_shows count rest (entries.Breaks within _) h = absurd h

first_holds : (e : Received) (more : List ℕ) → e.sender ≡ None
    → Holds (sent_by None (entry_of e)) more ≡ Holds e more
first_holds e more is = ap (λ (o : Option Sender). Holds (sent_by o (entry_of e)) more) (sym is)

first_broken : (rest : List ℕ) (within : ℕ) (kind : InputKind) → IsFront rest (entries.Breaks within kind)
    → front_from None 0 (front_of rest) ≡ Breaks within kind
first_broken rest within Cut h =
    ap (front_from None 0) (front_back rest (entries.Breaks within Cut) h) ∙ ap (λ n. Breaks n Cut) (sym h.0)
first_broken rest within Long h =
    ap (front_from None 0) (front_back rest (entries.Breaks within Long) h) ∙ ap (λ n. Breaks n Long) (zero_more within)
first_broken rest within Padding h =
    ap (front_from None 0) (front_back rest (entries.Breaks within Padding) h)
    ∙ ap (λ n. Breaks n Padding) (zero_more within)
first_broken rest within _ h = absurd h

-- ---- both versions

pub shows_in : (v : CaptureVersion) (count : ℕ) (rest : List ℕ) → AreBytes rest
    → IsFrontAt v count rest (front_in v count rest)
shows_in One count rest are = first_shows count rest (front_of rest) (front_shows rest are)
shows_in Two count rest are = item_shows count rest are

pub back_in : (v : CaptureVersion) (count : ℕ) (rest : List ℕ) (front : Front) → IsFrontAt v count rest front
    → front_in v count rest ≡ front
back_in One count rest Stops h = ap (front_from None 0) (front_back rest entries.Stops h.0)
back_in One count rest (Holds e more) h =
    ap (front_from None 0) (front_back rest (entries.Holds (entry_of e) more) (h.0.1, h.1)) ∙ first_holds e more h.0.0
back_in One count rest (Breaks within kind) h = first_broken rest within kind h
back_in Two count rest front h = item_back count rest front h
