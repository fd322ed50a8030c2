-- What stands at the front of a packet, from what was read of it.
use Rattle.std.proofs.Common.{◌≡◌, ℕ, ◌+◌, ◌-◌, ◌*◌, ◌/◌, ◌<◌, ◌≤◌, true, false, nat_lt, List, [], ◌∷◌, ◌++◌, length, take, drop, Some, refl, sym, ap, ◌∙◌, arith, take_at, length-take, length-take-le, lt-ltb, le-ltb, take-take}
use Rattle.std.proofs.lemmas.List.{drop-take, nil_from_length}
use Rattle.capture_spec.specs.declared.byte_order.ByteOrder.{ByteOrder}
use Rattle.capture_spec.specs.PcapFiles.{Stops, Holds, EndsWithin, IsTooLong, word_of, four_at, arrival_at, captured_at, front_of, front_of_packet, front_of_bytes}
use Rattle.capture_spec.proofs.PacketWalks.{end_stops}
use Rattle.byte_ends.specs.Seen.{Seen, Fills}
use Rattle.byte_ends.proofs.Filled.{full_room, short_room, front_read}

-- ---- the bytes: `room` is for them, and stands before other bytes

module _ (arrival len count : ℕ) (bytes room more : List ℕ) (old new : Seen)
    (long : length room ≡ len) (told : old.told ≡ Some bytes) (f : Fills old new count room) where
  pub bytes_cut : count < len → front_of_bytes arrival len bytes ≡ EndsWithin
  unfolding front_of_bytes
  bytes_cut short =
      let h = short_room old new count room bytes told f (omega (arith, long)) in
      let fewer : nat_lt (length bytes) len ≡ true = lt-ltb _ _ (omega (arith, h.number)) in
      rw fewer refl

  pub bytes_hold : len ≤ count
      → (front_of_bytes arrival len bytes
      ≡ Holds (record { arrival = arrival; bytes = take len (room ++ more) }) (drop len bytes))
      × (new.told ≡ Some (drop len bytes))
  unfolding front_of_bytes
  bytes_hold full =
      let h = full_room old new count room bytes told f (omega (arith, long)) in
      let enough : nat_lt (length bytes) len ≡ false = le-ltb _ _ (omega (arith, h.enough, long)) in
      let front : take len bytes ≡ take len (room ++ more) =
      ap (λ n. take n bytes) (sym long) ∙ h.front ∙ sym (take_at room more len long) in
      (rw (enough, front) refl, h.left_is ∙ ap (λ n. Some (drop n bytes)) long)

-- ---- the four words

-- a word of a front is that of the whole
pub four_of_front : (at n : ℕ) (l : List ℕ) → at + 4 ≤ n → four_at at (take n l) ≡ four_at at l
four_of_front at n l fits =
    let m : ℕ = n - at in
    let parts : n ≡ at + m = omega (arith, fits) in
    ap (λ k. take 4 (drop at (take k l))) parts ∙ ap (take 4) (drop-take at m l)
    ∙ take-take 4 m (drop at l) (omega (arith, fits))

not_end : (order : ByteOrder) (bytes : List ℕ) → 0 < length bytes → front_of order bytes ≡ front_of_packet order bytes
unfolding front_of
not_end order [] some = absurd (omega arith)
not_end order (b ∷ more) some = refl

packet_cut : (order : ByteOrder) (bytes : List ℕ) → length bytes < 12 → front_of_packet order bytes ≡ EndsWithin
unfolding front_of_packet
packet_cut order bytes short = let fewer : nat_lt (length bytes) 12 ≡ true = lt-ltb _ _ short in rw fewer refl

packet_long : (order : ByteOrder) (bytes : List ℕ) → 12 ≤ length bytes → 262144 < captured_at order bytes
    → front_of_packet order bytes ≡ IsTooLong
unfolding front_of_packet
packet_long order bytes full over =
    let enough : nat_lt (length bytes) 12 ≡ false = le-ltb _ _ full in
    let long : nat_lt 262144 (captured_at order bytes) ≡ true = lt-ltb _ _ over in
    rw (enough, long) refl

packet_cut_behind : (order : ByteOrder) (bytes : List ℕ) → 12 ≤ length bytes → captured_at order bytes ≤ 262144
    → length bytes < 16 → front_of_packet order bytes ≡ EndsWithin
unfolding front_of_packet
packet_cut_behind order bytes full fits short =
    let enough : nat_lt (length bytes) 12 ≡ false = le-ltb _ _ full in
    let within : nat_lt 262144 (captured_at order bytes) ≡ false = le-ltb _ _ fits in
    let fewer : nat_lt (length bytes) 16 ≡ true = lt-ltb _ _ short in
    rw (enough, within, fewer) refl

packet_goes_on : (order : ByteOrder) (bytes : List ℕ) → 16 ≤ length bytes → captured_at order bytes ≤ 262144
    → front_of_packet order bytes
    ≡ front_of_bytes (arrival_at order bytes) (captured_at order bytes) (drop 16 bytes)
unfolding front_of_packet
packet_goes_on order bytes full fits =
    let enough : nat_lt (length bytes) 12 ≡ false = le-ltb _ _ (omega (arith, full)) in
    let within : nat_lt 262144 (captured_at order bytes) ≡ false = le-ltb _ _ fits in
    let whole : nat_lt (length bytes) 16 ≡ false = le-ltb _ _ full in
    rw (enough, within, whole) refl

module _ (order : ByteOrder) (count : ℕ) (bytes room : List ℕ) (old new : Seen) (long : length room ≡ 16)
    (told : old.told ≡ Some bytes) (f : Fills old new count room) where
  -- a word that was read is that of the input
  word_read : (at : ℕ) → at + 4 ≤ count → four_at at room ≡ four_at at bytes
  word_read at fits =
      let front : take 16 bytes ≡ take count room =
      ap (λ n. take n bytes) (sym long) ∙ front_read old new count room bytes told f in
      sym (four_of_front at count room fits) ∙ ap (four_at at) (sym front)
      ∙ four_of_front at 16 bytes (omega (arith, fits, f.within, long))

  pub head_stops : count ≡ 0 → front_of order bytes ≡ Stops
  head_stops none =
      let h = short_room old new count room bytes told f (omega (arith, long)) in
      end_stops order bytes (nil_from_length bytes (omega (arith, h.number)))

  pub head_cut : 0 < count → count < 12 → front_of order bytes ≡ EndsWithin
  head_cut some short =
      let h = short_room old new count room bytes told f (omega (arith, long)) in
      not_end order bytes (omega (arith, h.number)) ∙ packet_cut order bytes (omega (arith, h.number))

  -- at least as much is there as was read
  enough : count ≤ length bytes
  enough =
      let front : take 16 bytes ≡ take count room =
      ap (λ n. take n bytes) (sym long) ∙ front_read old new count room bytes told f in
      omega (arith, ap length front, length-take 16 bytes, length-take-le count room f.within)

  pub head_long : (captured : ℕ) → 12 ≤ count → captured ≡ captured_at order room → 262144 < captured
      → front_of order bytes ≡ IsTooLong
  head_long captured full is over =
      let is_there : captured ≡ captured_at order bytes = is ∙ ap (word_of order) (word_read 8 full) in
      not_end order bytes (omega (arith, enough, full))
      ∙ packet_long order bytes (omega (arith, enough, full)) (omega (arith, is_there, over))

  pub head_cut_behind : (captured : ℕ) → 12 ≤ count → captured ≡ captured_at order room → captured ≤ 262144
      → count < 16 → front_of order bytes ≡ EndsWithin
  head_cut_behind captured full is fits short =
      let is_there : captured ≡ captured_at order bytes = is ∙ ap (word_of order) (word_read 8 full) in
      let h = short_room old new count room bytes told f (omega (arith, long)) in
      not_end order bytes (omega (arith, enough, full))
      ∙ packet_cut_behind order bytes (omega (arith, enough, full)) (omega (arith, is_there, fits))
      (omega (arith, h.number))

  pub head_goes_on : (arrival captured : ℕ) → 16 ≤ count → arrival ≡ arrival_at order room
      → captured ≡ captured_at order room → captured ≤ 262144
      → (front_of order bytes ≡ front_of_bytes arrival captured (drop 16 bytes)) × (new.told ≡ Some (drop 16 bytes))
  head_goes_on arrival captured full arrival_is is fits =
      let is_there : captured ≡ captured_at order bytes =
      is ∙ ap (word_of order) (word_read 8 (omega (arith, full))) in
      let seconds = ap (word_of order) (word_read 0 (omega (arith, full))) in
      let microseconds = ap (word_of order) (word_read 4 (omega (arith, full))) in
      let arrival_there : arrival ≡ arrival_at order bytes =
      arrival_is ∙ ap (λ s. s * 1000 + word_of order (four_at 4 room) / 1000) seconds
      ∙ ap (λ m. word_of order (four_at 0 bytes) * 1000 + m / 1000) microseconds in
      let h = full_room old new count room bytes told f (omega (arith, long, full)) in (
        not_end order bytes (omega (arith, enough, full))
            ∙ packet_goes_on order bytes (omega (arith, enough, full)) (omega (arith, is_there, fits))
            ∙ ap (λ n. front_of_bytes n (captured_at order bytes) (drop 16 bytes)) (sym arrival_there)
            ∙ ap (λ n. front_of_bytes arrival n (drop 16 bytes)) (sym is_there),
        h.left_is ∙ ap (λ n. Some (drop n bytes)) long,
      )
