-- What is read behind some entries stands there.
use Rattle.std.proofs.Common.{◌≡◌, ℕ, zero, suc, ◌+◌, ◌^◌, ◌<◌, ◌≤◌, ◌==◌, nat_lt, List, [], ◌∷◌, ◌++◌, length, take, drop, replicate, Some, refl, sym, ap, ap₂, subst, ◌∙◌, append_assoc, append-nil, arith, take_at, drop_at, length-append, length-drop, length-take-le, take-append-drop}
use Rattle.std.proofs.lemmas.List.{drop-drop}
use Rattle.std.proofs.lemmas.Bool.{ltb-true, ltb-false, eqb-true, eqb-false, cond_both}
use Rattle.std.proofs.lemmas.List.{nil_from_length}
use Rattle.std.specs.Int.{w64, from_be_bytes}
use Rattle.wire_spec.specs.declared.input_kind.InputKind.{InputKind}
use Rattle.wire_spec.specs.declared.input_kind.InputKind.TheVariants.{Cut, Long, Padding, Port, Count, After}
use Rattle.wire_spec.specs.Bytes.{AreBytes}
use Rattle.wire_spec.specs.Captures.{Entry, entry_bytes, entry_head}
use Rattle.wire_spec.specs.CaptureReading.{front_of, IsFront}
use Rattle.wire_spec.specs.CaptureReading as entries
use Rattle.wire_spec.specs.Heads.{AgentAddress, ipv4, ipv6}
use Rattle.wire_spec.specs.Padding.{padding_of}
use Rattle.wire_spec.proofs.ByteLists.{drop_bytes, take_bytes}
use Rattle.wire_spec.proofs.CaptureFronts.{front_shows, entry_bytes_are}
use Rattle.wire_spec.proofs.ZeroBytes.{length_zeros}
use Rattle.capture_spec.specs.declared.capture_version.CaptureVersion.TheVariants.{Two}
use Rattle.capture_spec.specs.Items.{word, hyper, Sender, IsAddress, IsSender, address_kind, address_bytes, sent_by, item_head, item_front, datagram_bytes, sent_bytes, end_item}
use Rattle.capture_spec.specs.BrokenItems.{IsBrokenBehind, in_word, in_head, in_sender, behind_sender, in_end}
use Rattle.capture_spec.specs.ItemReading.{Front, Stops, Holds, Breaks, word_in, hyper_in, front_from, no_address, front_of_tail, front_of_port, front_of_address, front_of_kind, front_of_head, front_of_end, front_of_word, front_of_item, IsFrontAt}
use Rattle.capture_spec.proofs.Words.{length-hyper, hyper_again, word_is, hyper_is, append_bytes, together}

abbrev pub Shows : ℕ → List ℕ → Front → Type 0
Shows count rest front = IsFrontAt Two count rest front

-- ---- the parts of items

pub item_head_is : (arrival kind : ℕ) → item_head arrival kind ≡ word 1 ++ (hyper arrival ++ word kind)
unfolding item_head
item_head_is arrival kind = refl

pub item_front_is : (arrival : ℕ) (address : AgentAddress) (port : ℕ)
    → item_front arrival address port ≡ item_head arrival (address_kind address) ++ (address_bytes address ++ word port)
unfolding item_front
item_front_is arrival address port = refl

pub sent_bytes_are : (s : Sender) (e : Entry)
    → sent_bytes s e ≡ item_front e.arrival s.address s.port ++ datagram_bytes e.bytes
unfolding sent_bytes
sent_bytes_are s e = refl

pub end_item_is : (count : ℕ) → end_item count ≡ word 0 ++ hyper count
unfolding end_item
end_item_is count = refl

head_split : (arrival : ℕ) (bytes : List ℕ)
    → entry_head arrival (length bytes) ++ (bytes ++ replicate (padding_of (length bytes)) 0)
    ≡ hyper arrival ++ datagram_bytes bytes
unfolding entry_head hyper datagram_bytes word
head_split arrival bytes = refl

-- an entry of version 1 is its arrival and the datagram
pub entry_is : (e : Entry) → entry_bytes e ≡ hyper e.arrival ++ datagram_bytes e.bytes
entry_is e = entry_bytes_are e ∙ head_split e.arrival e.bytes

-- an address of a kind, and how many bytes it has
pub record IsKind (address : List ℕ → AgentAddress) (size kind : ℕ) : Type 0 where
  pub lawful : (bytes : List ℕ) → length bytes ≡ size → IsAddress (address bytes)
  pub has : (bytes : List ℕ) → length bytes ≡ size → address_bytes (address bytes) ≡ bytes
  pub kind_is : (bytes : List ℕ) → address_kind (address bytes) ≡ kind

pub unknown_kind : IsKind no_address 0 0
unknown_kind = record {
  lawful = λ bytes long. tt;
  has = λ bytes long. sym (nil_from_length bytes long);
  kind_is = λ bytes. refl;
}

pub ipv4_kind : IsKind ipv4 4 1
ipv4_kind = record { lawful = λ bytes long. long; has = λ bytes long. refl; kind_is = λ bytes. refl }

pub ipv6_kind : IsKind ipv6 16 2
ipv6_kind = record { lawful = λ bytes long. long; has = λ bytes long. refl; kind_is = λ bytes. refl }

-- ---- behind the sender

-- two lists that begin with as many bytes
same_fronts : (a b x y : List ℕ) → length a ≡ 8 → length b ≡ 8 → a ++ x ≡ b ++ y → (a ≡ b) × (x ≡ y)
same_fronts a b x y n m e = (
  sym (take_at a x 8 n) ∙ ap (take 8) e ∙ take_at b y 8 m,
  sym (drop_at a x 8 n) ∙ ap (drop 8) e ∙ drop_at b y 8 m,
)

same_arrival : (m n : ℕ) → m < 2 ^ 64 → n < 2 ^ 64 → hyper m ≡ hyper n → m ≡ n
same_arrival m n x y e = sym (hyper_again m x) ∙ ap (from_be_bytes w64) e ∙ hyper_again n y

module _ (count arrival : ℕ) (s : Sender) (size : ℕ) (whole tail : List ℕ)
    (e : whole ≡ item_front arrival s.address s.port ++ tail) (time : arrival < 2 ^ 64) (lawful : IsSender s)
    (size_is : length (address_bytes s.address) ≡ size) where
  broken_tail : (place within : ℕ) (kind : InputKind) → IsFront (hyper arrival ++ tail) (entries.Breaks place kind)
      → within ≡ 12 + size + place → IsBrokenBehind whole within kind
  broken_tail place within kind h moved = record {
    arrival = arrival;
    time = time;
    sender = s;
    lawful = lawful;
    tail = tail;
    whole = e;
    place = place;
    broken = h;
    moved = omega (arith, moved, size_is);
  }

  held : (f : Entry) (more : List ℕ) → IsFront (hyper arrival ++ tail) (entries.Holds f more)
      → Shows count whole (Holds (sent_by (Some s) f) more)
  held f more h =
      let split : hyper arrival ++ tail ≡ hyper f.arrival ++ (datagram_bytes f.bytes ++ more) =
      h.1 ∙ ap (λ l. l ++ more) (entry_is f) ∙ append_assoc (hyper f.arrival) (datagram_bytes f.bytes) more in
      let both = same_fronts (hyper arrival) (hyper f.arrival) tail (datagram_bytes f.bytes ++ more)
      (length-hyper arrival) (length-hyper f.arrival) split in
      let same : arrival ≡ f.arrival = same_arrival arrival f.arrival time h.0.arrival both.0 in (
        record { from = s; sender_is = refl; sender = lawful; entry = h.0 },
        e ∙ ap₂ (λ n l. item_front n s.address s.port ++ l) same both.1
            ∙ sym (append_assoc (item_front f.arrival s.address s.port) (datagram_bytes f.bytes) more)
            ∙ ap (λ l. l ++ more) (sym (sent_bytes_are s f)),
      )

  from_shows : (front : entries.Front) → IsFront (hyper arrival ++ tail) front
      → Shows count whole (front_from (Some s) (12 + size) front)
  from_shows entries.Stops h =
      absurd (omega (arith, ap length h, length-append (hyper arrival) tail, length-hyper arrival))
  from_shows (entries.Holds f more) h = held f more h
  from_shows (entries.Breaks place Cut) h =
      (refl, behind_sender (12 + size + place) (broken_tail place (12 + size + place) Cut h refl))
  from_shows (entries.Breaks place Long) h = broken_tail place (12 + size + place) Long h refl
  from_shows (entries.Breaks place Padding) h = broken_tail place (12 + size + place) Padding h refl
  from_shows (entries.Breaks place _) h = absurd h

  tail_shows : AreBytes (hyper arrival) → AreBytes tail → Shows count whole (front_of_tail arrival s size tail)
  unfolding front_of_tail
  tail_shows these those =
      from_shows (front_of (hyper arrival ++ tail))
      (front_shows (hyper arrival ++ tail) (append_bytes (hyper arrival) tail these those))

-- ---- the sender

port_shows : (count arrival : ℕ) (address : AgentAddress) (size port : ℕ) (whole tail : List ℕ)
    → whole ≡ item_front arrival address port ++ tail → arrival < 2 ^ 64 → IsAddress address
    → length (address_bytes address) ≡ size → port < 2 ^ 32 → AreBytes (hyper arrival) → AreBytes tail
    → Shows count whole (front_of_port arrival address size port tail)
unfolding front_of_port
port_shows count arrival address size port whole tail e time lawful size_is small these those =
    let s : Sender = record { address = address; port = port } in
    cond_both (nat_lt 65535 port) (Breaks (16 + size) Port) (front_of_tail arrival s size tail) (Shows count whole)
    (λ over. record {
      arrival = arrival;
      time = time;
      address = address;
      lawful = lawful;
      port = port;
      long = ltb-true 65535 port over;
      fits = small;
      begins = (tail, e);
      place = ap (λ n. 16 + n) (sym size_is);
    })
    (λ fits. tail_shows count arrival s size whole tail e time
    (record { address = lawful; port = ltb-false 65535 port fits }) size_is these those)

address_shows : (count arrival : ℕ) (address : List ℕ → AgentAddress) (size kind : ℕ) → IsKind address size kind
    → (whole rest : List ℕ) → whole ≡ item_head arrival kind ++ rest → arrival < 2 ^ 64 → AreBytes (hyper arrival)
    → AreBytes rest → Shows count whole (front_of_address arrival address size rest)
unfolding front_of_address
address_shows count arrival address size kind k whole rest e time these those =
    let bytes : List ℕ = take size rest in
    let port : ℕ = word_in (drop size rest) in
    let some : List ℕ = replicate size 0 in
    let some_is : length some ≡ size = length_zeros size in
    cond_both (nat_lt (length rest) (size + 4)) (Breaks 0 Cut)
    (front_of_port arrival (address bytes) size port (drop (size + 4) rest)) (Shows count whole)
    (λ short. (
      refl,
      in_sender arrival (address some) rest time (k.lawful some some_is)
          (e ∙ ap (λ n. item_head arrival n ++ rest) (sym (k.kind_is some)))
          (omega (arith, ltb-true (length rest) (size + 4) short, ap length (k.has some some_is), some_is)),
    ))
    (λ full.
    let long : size + 4 ≤ length rest = ltb-false (length rest) (size + 4) full in
    let size_is : length bytes ≡ size = length-take-le size rest (omega (arith, long)) in
    let w = word_is (drop size rest) (drop_bytes size rest those) (omega (arith, long, length-drop size rest)) in
    let behind : drop size rest ≡ word port ++ drop (size + 4) rest =
    w.whole ∙ ap (λ l. word port ++ l) (drop-drop 4 size rest) in
    let front : rest ≡ address_bytes (address bytes) ++ drop size rest =
    split size rest ∙ ap (λ l. l ++ drop size rest) (sym (k.has bytes size_is)) in
    let item : whole ≡ item_front arrival (address bytes) port ++ drop (size + 4) rest =
    e ∙ ap (λ n. item_head arrival n ++ rest) (sym (k.kind_is bytes))
    ∙ together (item_head arrival (address_kind (address bytes))) (address_bytes (address bytes)) (word port)
    (drop size rest) rest (drop (size + 4) rest) front behind
    ∙ ap (λ l. l ++ drop (size + 4) rest) (sym (item_front_is arrival (address bytes) port)) in
    port_shows count arrival (address bytes) size port whole (drop (size + 4) rest) item time
    (k.lawful bytes size_is) (ap length (k.has bytes size_is) ∙ size_is) w.small these
    (drop_bytes (size + 4) rest those))
  where
    split : (n : ℕ) (l : List ℕ) → l ≡ take n l ++ drop n l
    split n l = sym (take-append-drop n l)

kind_shows : (count arrival kind : ℕ) (whole rest : List ℕ) → whole ≡ item_head arrival kind ++ rest
    → arrival < 2 ^ 64 → kind < 2 ^ 32 → AreBytes (hyper arrival) → AreBytes rest
    → Shows count whole (front_of_kind arrival kind rest)
kind_shows count arrival zero whole rest e time small these those =
    address_shows count arrival no_address 0 0 unknown_kind whole rest e time these those
kind_shows count arrival (suc zero) whole rest e time small these those =
    address_shows count arrival ipv4 4 1 ipv4_kind whole rest e time these those
kind_shows count arrival (suc (suc zero)) whole rest e time small these those =
    address_shows count arrival ipv6 16 2 ipv6_kind whole rest e time these those
kind_shows count arrival (suc (suc (suc n))) whole rest e time small these those =
    (refl, (arrival, suc (suc (suc n)), time, omega arith, small, (rest, e)))

-- ---- the item

head_shows : (count : ℕ) (whole rest : List ℕ) → whole ≡ word 1 ++ rest → AreBytes rest
    → Shows count whole (front_of_head rest)
unfolding front_of_head
head_shows count whole rest e are =
    let arrival : ℕ = hyper_in rest in
    let kind : ℕ = word_in (drop 8 rest) in
    cond_both (nat_lt (length rest) 12) (Breaks 0 Cut) (front_of_kind arrival kind (drop 12 rest)) (Shows count whole)
    (λ short. (refl, in_head rest e (ltb-true (length rest) 12 short)))
    (λ full.
    let long : 12 ≤ length rest = ltb-false (length rest) 12 full in
    let h = hyper_is rest are (omega (arith, long)) in
    let w = word_is (drop 8 rest) (drop_bytes 8 rest are) (omega (arith, long, length-drop 8 rest)) in
    let behind : drop 8 rest ≡ word kind ++ drop 12 rest = w.whole ∙ ap (λ l. word kind ++ l) (drop-drop 4 8 rest) in
    let item : whole ≡ item_head arrival kind ++ drop 12 rest =
    e ∙ together (word 1) (hyper arrival) (word kind) (drop 8 rest) rest (drop 12 rest) h.whole behind
    ∙ ap (λ l. l ++ drop 12 rest) (sym (item_head_is arrival kind)) in
    kind_shows count arrival kind whole (drop 12 rest) item h.small w.small
    (subst AreBytes (sym h.front) (take_bytes 8 rest are)) (drop_bytes 12 rest are))

behind_shows : (count : ℕ) (whole tail : List ℕ) → whole ≡ end_item count ++ tail → count < 2 ^ 64 → 0 < length tail
    → Shows count whole (Breaks 12 After)
behind_shows count whole [] e few some = absurd (omega arith)
behind_shows count whole (b ∷ more) e few some = (refl, (b, more, few, e))

end_shows : (count : ℕ) (whole rest : List ℕ) → whole ≡ word 0 ++ rest → AreBytes rest
    → Shows count whole (front_of_end count rest)
unfolding front_of_end
end_shows count whole rest e are =
    let number : ℕ = hyper_in rest in
    cond_both (nat_lt (length rest) 8) (Breaks 0 Cut) _ (Shows count whole)
    (λ short. (refl, in_end rest e (ltb-true (length rest) 8 short)))
    (λ full.
    let long : 8 ≤ length rest = ltb-false (length rest) 8 full in
    let h = hyper_is rest are long in
    let item : whole ≡ end_item number ++ drop 8 rest =
    e ∙ ap (λ l. word 0 ++ l) h.whole ∙ sym (append_assoc (word 0) (hyper number) (drop 8 rest))
    ∙ ap (λ l. l ++ drop 8 rest) (sym (end_item_is number)) in
    cond_both (number == count) _ (Breaks 4 Count) (Shows count whole)
    (λ same.
    let few : count < 2 ^ 64 = subst (λ n. n < 2 ^ 64) (eqb-true number count same) h.small in
    let this : whole ≡ end_item count ++ drop 8 rest =
    item ∙ ap (λ n. end_item n ++ drop 8 rest) (eqb-true number count same) in
    cond_both (nat_lt 8 (length rest)) (Breaks 12 After) Stops (Shows count whole)
    (λ further. behind_shows count whole (drop 8 rest) this few
    (omega (arith, ltb-true 8 (length rest) further, length-drop 8 rest)))
    (λ none. (
      this ∙ ap (λ l. end_item count ++ l) (nil_from_length (drop 8 rest)
          (omega (arith, ltb-false 8 (length rest) none, length-drop 8 rest))) ∙ append-nil (end_item count),
      few,
    )))
    (λ other. (refl, (number, eqb-false number count other, h.small, (drop 8 rest, item)))))

word_shows : (count n : ℕ) (whole rest : List ℕ) → whole ≡ word n ++ rest → n < 2 ^ 32 → AreBytes rest
    → Shows count whole (front_of_word count n rest)
word_shows count zero whole rest e small are = end_shows count whole rest e are
word_shows count (suc zero) whole rest e small are = head_shows count whole rest e are
word_shows count (suc (suc n)) whole rest e small are = (refl, (suc (suc n), omega arith, small, (rest, e)))

pub item_shows : (count : ℕ) (rest : List ℕ) → AreBytes rest → Shows count rest (front_of_item count rest)
unfolding front_of_item
item_shows count rest are =
    cond_both (nat_lt (length rest) 4) (Breaks 0 Cut) (front_of_word count (word_in rest) (drop 4 rest)) (Shows count rest)
    (λ short. (refl, in_word (ltb-true (length rest) 4 short)))
    (λ full.
    let w = word_is rest are (ltb-false (length rest) 4 full) in
    word_shows count (word_in rest) rest (drop 4 rest) w.whole w.small (drop_bytes 4 rest are))
